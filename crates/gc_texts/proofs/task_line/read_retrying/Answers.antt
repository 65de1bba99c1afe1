use Rattle.gc_texts.proofs.Common.{rules}
use Rattle.gc_texts.proofs.ReasonForms.{retry_of_rest}
use Rattle.gc_texts.proofs.task_line.read_retrying.Goals as goal

pub returns : goal.returns
returns c = retry_of_rest c.args.line.now c.in_ok-rest.rest.now c.read_retry_rule.result (search rules) c.in_ok-rest.ensures c.read_retry_rule.ensures
