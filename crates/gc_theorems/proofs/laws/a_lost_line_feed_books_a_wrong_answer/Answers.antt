use Rattle.gc_theorems.proofs.LostLineFeed.{joint_booked}
use Rattle.gc_theorems.proofs.laws.a_lost_line_feed_books_a_wrong_answer.Goals as goal

pub returns : goal.returns
returns c = joint_booked
