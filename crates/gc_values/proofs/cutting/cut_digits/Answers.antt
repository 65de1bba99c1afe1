use Rattle.gc_values.proofs.Common.{arith, rules, get_or, IsDigit}
use Rattle.gc_values.proofs.Every.{every_more}
use Rattle.gc_values.proofs.cutting.cut_digits.Goals as goal

pub loop-i-preserved : goal.loop-i-preserved
loop-i-preserved c = every_more IsDigit c.args.text.now c.loop-i.i 0 (omega arith) c.loop-i.invariant
    (let d : IsDigit (get_or c.args.text.now c.loop-i.i 0) = search (rules, c.if-not-is_ascii_digit.ensures.cases) in d)
