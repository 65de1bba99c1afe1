use Rattle.gc_values.proofs.OneText.{decimal_text_once}
use Rattle.gc_values.proofs.decimal_laws.one_text_has_the_form.Goals as goal

pub returns : goal.returns
returns c = decimal_text_once
