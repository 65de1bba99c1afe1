use Rattle.gc_texts.proofs.TaskLaws.{commands_are_tasks, commands_are_plain}
use Rattle.gc_texts.proofs.laws.commands_are_tasks.Goals as goal

pub returns-clause-same : goal.returns-clause-same
returns-clause-same c = commands_are_tasks

pub returns-clause-plain : goal.returns-clause-plain
returns-clause-plain c = commands_are_plain
