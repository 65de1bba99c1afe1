use Rattle.gc_instrument.proofs.Common.{in_order_then, IsReplied}
use Rattle.gc_instrument.proofs.Turns.{one_hearing, output_then}
use Rattle.gc_instrument.proofs.laws.answers_in_turn.Goals as goal

pub returns : goal.returns
returns c = record { one = one_hearing; next = in_order_then IsReplied; whole = output_then }
