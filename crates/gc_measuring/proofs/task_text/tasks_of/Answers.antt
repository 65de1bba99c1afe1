use Rattle.gc_texts.proofs.DescribedTexts.{few_columns}
use Rattle.gc_measuring.proofs.task_text.tasks_of.Goals as goal

pub returns-else-len-tasks-clause-few : goal.returns-else-len-tasks-clause-few
returns-else-len-tasks-clause-few c = few_columns _ _ _ _ c.in-Ok.ensures.found
