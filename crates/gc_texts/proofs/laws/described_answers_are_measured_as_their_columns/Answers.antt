use Rattle.gc_texts.proofs.DescribedTexts.{measured_as_columns}
use Rattle.gc_texts.proofs.laws.described_answers_are_measured_as_their_columns.Goals as goal

pub returns : goal.returns
returns c = measured_as_columns
