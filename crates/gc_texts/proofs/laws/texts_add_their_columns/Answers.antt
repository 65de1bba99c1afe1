use Rattle.gc_texts.proofs.DescribedTexts.{texts_add_columns}
use Rattle.gc_texts.proofs.laws.texts_add_their_columns.Goals as goal

pub returns : goal.returns
returns c = texts_add_columns
