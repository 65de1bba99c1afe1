use Rattle.gc_values.proofs.TextShape.{text_is_plain}
use Rattle.gc_values.proofs.laws.text_is_plain.Goals as goal

pub returns : goal.returns
returns c = text_is_plain
