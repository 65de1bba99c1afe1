use Rattle.gc_texts.proofs.DescribedLaws.{column_examples}
use Rattle.gc_texts.proofs.laws.columns_of_examples.Goals as goal

pub returns : goal.returns
returns c = column_examples
