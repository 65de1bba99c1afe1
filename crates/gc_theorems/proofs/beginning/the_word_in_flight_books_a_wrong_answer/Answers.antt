use Rattle.gc_theorems.proofs.BeginWitness.{booked_from_before}
use Rattle.gc_theorems.proofs.beginning.the_word_in_flight_books_a_wrong_answer.Goals as goal

pub returns : goal.returns
returns c = booked_from_before
