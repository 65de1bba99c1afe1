use Rattle.gc_values.proofs.TextShape.{text_not_empty, text_is_short}
use Rattle.gc_values.proofs.laws.text_is_short.Goals as goal

pub returns-clause-some : goal.returns-clause-some
returns-clause-some c = text_not_empty

pub returns-clause-few : goal.returns-clause-few
returns-clause-few c = text_is_short
