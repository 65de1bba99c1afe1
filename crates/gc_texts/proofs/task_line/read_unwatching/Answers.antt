use Rattle.gc_texts.proofs.TaskForms.{unwatched_of_rest}
use Rattle.gc_texts.proofs.task_line.read_unwatching.Goals as goal

pub returns : goal.returns
returns c = unwatched_of_rest c.args.line.now c.in_ok-rest.rest.now c.target_of.result c.in_ok-rest.ensures c.target_of.ensures
