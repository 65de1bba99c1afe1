use Rattle.gc_values.proofs.Common.{arith, IsDigit}
use Rattle.gc_values.proofs.Every.{every_at}
use Rattle.gc_values.proofs.Kept.{followed_more, followed_small}
use Rattle.gc_values.proofs.units.followed_by.Goals as goal

pub overflow_mul-value : goal.overflow_mul-value
overflow_mul-value c = let small = followed_small c.args.front c.loop-digit.value c.args.digits.now c.loop-digit.digit-index c.requires.digits
    c.loop-digit-test.true c.loop-digit.invariant c.requires.small in omega (arith, small)

pub overflow_sub-digit : goal.overflow_sub-digit
overflow_sub-digit c = (every_at IsDigit c.args.digits.now c.loop-digit.digit-index 0 c.loop-digit-test.true c.requires.digits).0

pub overflow_add-value : goal.overflow_add-value
overflow_add-value c =
    let small = followed_small c.args.front c.loop-digit.value c.args.digits.now c.loop-digit.digit-index c.requires.digits c.loop-digit-test.true c.loop-digit.invariant c.requires.small in
    let digit = (every_at IsDigit c.args.digits.now c.loop-digit.digit-index 0 c.loop-digit-test.true c.requires.digits).1 in
    omega (arith, small, digit, c.from.ensures)

pub loop-digit-preserved : goal.loop-digit-preserved
loop-digit-preserved c = followed_more c.args.front c.loop-digit.value _ c.args.digits.now c.loop-digit.digit-index c.loop-digit-test.true c.loop-digit.invariant (omega (arith, c.from.ensures))
