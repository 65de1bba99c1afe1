use Rattle.gc_values.proofs.Common.{◌^◌, ◌<◌, ◌≤◌, ℕ, ◌/◌, arith, div_below}
use Rattle.gc_values.proofs.Powers.{ten_pow_le}
use Rattle.gc_values.proofs.WrittenLemmas.{last_digits_put_in_two_runs}
use Rattle.gc_values.proofs.tail.Tail.put_fraction.Goals as goal

-- if n is below 10^count, and `count` is at most 24, n / 10^12 is below 10^12
front_small : (n count : ℕ) → count ≤ 24 → n < 10 ^ count → n / 10 ^ 12 < 10 ^ 12
front_small n count few small = div_below n (10 ^ 12) (10 ^ 12) (omega arith) (omega (arith, ten_pow_le count 24 few))

pub overflow_cast-front : goal.overflow_cast-front
overflow_cast-front c = omega (arith, front_small c.args.n c.args.count c.requires.few c.requires.small)

pub returns : goal.returns
returns c = last_digits_put_in_two_runs c.args.self.now c.put_last-2.new.self c.put_last-3.new.self c.args.n c.args.count 12 (omega arith) c.put_last-2.ensures.digits c.put_last-3.ensures.digits
