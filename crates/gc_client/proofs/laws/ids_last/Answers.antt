use Rattle.gc_client.proofs.Digits.{send_keeps_ids, settling_keeps_ids}
use Rattle.gc_client.proofs.laws.ids_last.Goals as goal

pub returns : goal.returns
returns c = record { sending = send_keeps_ids; settling = settling_keeps_ids }
