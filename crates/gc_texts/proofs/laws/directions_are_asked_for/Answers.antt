use Rattle.gc_texts.proofs.Directed.{directions_by_procedure}
use Rattle.gc_texts.proofs.laws.directions_are_asked_for.Goals as goal

pub returns : goal.returns
returns c = directions_by_procedure
