use Rattle.gc_theorems.proofs.SecondExecution.{executed_again}
use Rattle.gc_theorems.proofs.laws.some_answer_is_of_a_second_execution.Goals as goal

pub returns : goal.returns
returns c = executed_again
