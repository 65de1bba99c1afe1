use Rattle.gc_values.proofs.Common.{rules}
use Rattle.gc_values.proofs.PlainLists.{no_params, plain_list_read}
use Rattle.gc_values.proofs.quick.Quick.new.Goals as goal

pub returns-then-is_empty : goal.returns-then-is_empty
returns-then-is_empty c = λ vs x. no_params c.args.params.now vs (search rules) x.left

pub returns : goal.returns
returns c = λ vs x. plain_list_read c.args.params.now vs x.left
