use Rattle.gc_values.proofs.OneText.{whole_text_once}
use Rattle.gc_values.proofs.laws.one_whole_text_has_the_form.Goals as goal

pub returns : goal.returns
returns c = whole_text_once
