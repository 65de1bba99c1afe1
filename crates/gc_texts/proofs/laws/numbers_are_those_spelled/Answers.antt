use Rattle.gc_texts.proofs.Numerals.{decimals_are_spelled}
use Rattle.gc_texts.proofs.laws.numbers_are_those_spelled.Goals as goal

pub returns : goal.returns
returns c = decimals_are_spelled
