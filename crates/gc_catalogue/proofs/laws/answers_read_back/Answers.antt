use Rattle.gc_catalogue.proofs.LineLaws.{answer_again, refusal_again, rounded_fits}
use Rattle.gc_catalogue.proofs.laws.answers_read_back.Goals as goal

pub returns : goal.returns
returns c = record { value = λ call id answer places i of_call fits. answer_again call id answer places i of_call (rounded_fits places answer fits); refused = refusal_again }
