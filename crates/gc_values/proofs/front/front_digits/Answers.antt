use Rattle.gc_values.proofs.Common.{arith, rules, get_or, IsDigit}
use Rattle.gc_values.proofs.FrontDecimals.{counts_more, counts_small}
use Rattle.gc_values.proofs.front.front_digits.Goals as goal

pub overflow_mul-value : goal.overflow_mul-value
overflow_mul-value c =
    let few = c.loop-i.invariant.few in
    let small = counts_small c.args.front c.args.text.now c.args.most c.loop-i.value c.loop-i.i c.loop-i.invariant (omega (arith, few)) c.requires in
    omega (arith, small)

pub overflow_add-value : goal.overflow_add-value
overflow_add-value c =
    let few = c.loop-i.invariant.few in
    let small = counts_small c.args.front c.args.text.now c.args.most c.loop-i.value c.loop-i.i c.loop-i.invariant (omega (arith, few)) c.requires in
    let digit : IsDigit (get_or c.args.text.now c.loop-i.i 0) = search (rules, c.if-not-is_ascii_digit.ensures.cases) in
    omega (arith, small, c.from.ensures, digit.0, digit.1)

pub loop-i-preserved : goal.loop-i-preserved
loop-i-preserved c =
    let few = c.loop-i.invariant.few in
    let digit : IsDigit (get_or c.args.text.now c.loop-i.i 0) = search (rules, c.if-not-is_ascii_digit.ensures.cases) in
    counts_more c.args.front c.args.text.now c.args.most c.loop-i.value _ c.loop-i.i c.loop-i.invariant (omega arith) (omega (arith, few)) digit (omega (arith, c.from.ensures))
