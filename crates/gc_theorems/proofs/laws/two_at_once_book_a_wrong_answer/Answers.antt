use Rattle.gc_theorems.proofs.Alone.{booked}
use Rattle.gc_theorems.proofs.laws.two_at_once_book_a_wrong_answer.Goals as goal

pub returns : goal.returns
returns c = λ state line fits kept. booked state line fits kept
