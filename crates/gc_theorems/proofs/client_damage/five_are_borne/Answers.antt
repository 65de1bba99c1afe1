use Rattle.gc_theorems.proofs.Synchronized.{five_are_borne}
use Rattle.gc_theorems.proofs.client_damage.five_are_borne.Goals as goal

pub returns : goal.returns
returns c = five_are_borne
