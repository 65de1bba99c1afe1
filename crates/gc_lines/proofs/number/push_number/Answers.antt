use Rattle.gc_lines.proofs.Common.{◌++◌, sym, ap, ◌∙◌, decimal_digit}
use Rattle.gc_lines.proofs.number.push_number.Goals as goal

pub returns-then-n-lt10-clause-items : goal.returns-then-n-lt10-clause-items
returns-then-n-lt10-clause-items g c = c.push.ensures.items ∙ ap (λ ds. c.args.to.now.items ++ ds) (sym (decimal_digit c.args.n c.if-n-lt10.true))
