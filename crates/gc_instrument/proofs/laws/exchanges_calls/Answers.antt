use Rattle.gc_instrument.proofs.Answering.{handed_replied, handed_answered}
use Rattle.gc_instrument.proofs.laws.exchanges_calls.Goals as goal

pub returns : goal.returns
returns c = record { replied = handed_replied; answered = handed_answered }
