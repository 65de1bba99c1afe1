use Rattle.gc_texts.proofs.DescribedTexts.{forms_are_described, forms_hold}
use Rattle.gc_texts.proofs.laws.descriptions_hold_for_all_commands_of_a_procedure.Goals as goal

pub returns-clause-hold : goal.returns-clause-hold
returns-clause-hold c = forms_hold

pub returns-clause-only : goal.returns-clause-only
returns-clause-only c = forms_are_described
