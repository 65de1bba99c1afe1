use Rattle.gc_values.proofs.Common.{◌-◌, arith, lit≤, CAP}
use Rattle.gc_values.proofs.UnitsLemmas.{size_of, capped_short, capped_few, capped_zeros, capped_many, capped_none}
use Rattle.gc_values.proofs.numeral.Numeral.rounded_units.Goals as goal

pub returns-in_default : goal.returns-in_default
returns-in_default c = capped_none c.args.self.now CAP (omega (arith, c.in_default.ensures))

pub returns-then-count-length : goal.returns-then-count-length
returns-then-count-length c =
    capped_few c.args.self.now c.in-Some.count (omega (arith, c.in-Some.ensures)) CAP c.kept_and_rounded.result c.kept_and_rounded.ensures

pub returns-then-zeros-from : goal.returns-then-zeros-from
returns-then-zeros-from c =
    let n = c.args.self.now in
    let k = c.in-Some.count in
    capped_zeros n k (omega (arith, c.in-Some.ensures)) CAP (k - size_of n) c.kept_digits-kept.result _ (omega arith) (omega arith) c.kept_digits-kept.ensures

pub returns-else-zeros-from : goal.returns-else-zeros-from
returns-else-zeros-from c =
    let n = c.args.self.now in
    let k = c.in-Some.count in
    capped_many n k (omega (arith, c.in-Some.ensures)) CAP (k - size_of n - c.from-else-zeros-from.result) c.kept_digits-kept.result c.with_zeros.result
    (omega arith) c.kept_digits-kept.ensures c.with_zeros.ensures

pub returns-then-length-le-DIGITS_IN_64_BITS : goal.returns-then-length-le-DIGITS_IN_64_BITS
returns-then-length-le-DIGITS_IN_64_BITS c =
    capped_short c.args.self.now CAP c.from.result (omega (arith, c.if-length-le-DIGITS_IN_64_BITS.true)) (omega arith) (omega arith) (lit≤ tt)
    (omega (arith, c.from.ensures, c.short_number.ensures))
