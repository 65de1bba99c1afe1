use Rattle.gc_texts.proofs.TaskForms.{place_of_rest}
use Rattle.gc_texts.proofs.task_line.read_locating.Goals as goal

pub returns : goal.returns
returns c = place_of_rest c.args.line.now c.in_ok-rest.rest.now c.read_near.result c.in_ok-rest.ensures c.read_near.ensures
