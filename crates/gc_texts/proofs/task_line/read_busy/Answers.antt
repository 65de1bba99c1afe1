use Rattle.gc_texts.proofs.Common.{rules}
use Rattle.gc_texts.proofs.CodeForms.{busy_of_rest}
use Rattle.gc_texts.proofs.task_line.read_busy.Goals as goal

pub returns : goal.returns
returns c = busy_of_rest c.args.line.now c.in_ok-rest.rest.now c.read_code_list.result (search rules) c.in_ok-rest.ensures c.read_code_list.ensures
