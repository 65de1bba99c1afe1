use Rattle.gc_texts.proofs.TaskForms.{description_of_rest}
use Rattle.gc_texts.proofs.task_line.read_describing.Goals as goal

pub returns : goal.returns
returns c = description_of_rest c.args.line.now c.in_ok-rest.rest.now c.read_description.result c.in_ok-rest.ensures c.read_description.ensures
