use Rattle.gc_texts.proofs.DescribedTexts.{forms_read_once}
use Rattle.gc_texts.proofs.laws.forms_have_one_reading.Goals as goal

pub returns : goal.returns
returns c = forms_read_once
