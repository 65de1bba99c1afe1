use Rattle.gc_station.proofs.Expecting.{renews_after_an_unexpected_answer}
use Rattle.gc_station.proofs.laws.the_set_up_is_done_anew_after_an_unexpected_answer.Goals as goal

pub returns : goal.returns
returns c = renews_after_an_unexpected_answer
