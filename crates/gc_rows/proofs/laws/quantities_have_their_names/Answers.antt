use Rattle.gc_rows.proofs.ProcedureQuantities.{quantities_under_their_names, wholes_under_their_names}
use Rattle.gc_rows.proofs.laws.quantities_have_their_names.Goals as goal

pub returns-clause-values : goal.returns-clause-values
returns-clause-values c = quantities_under_their_names

pub returns-clause-wholes : goal.returns-clause-wholes
returns-clause-wholes c = wholes_under_their_names
