use Rattle.gc_texts.proofs.TaskLaws.{one_task_list}
use Rattle.gc_texts.proofs.laws.tasks_have_one_reading.Goals as goal

pub returns : goal.returns
returns c = one_task_list
