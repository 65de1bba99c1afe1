use Rattle.gc_station.proofs.Starts.{set_up_anew_after_a_sign_on}
use Rattle.gc_station.proofs.laws.the_set_up_is_done_anew_after_a_sign_on.Goals as goal

pub returns : goal.returns
returns c = set_up_anew_after_a_sign_on
