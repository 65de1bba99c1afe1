use Rattle.gc_values.proofs.Common.{◌≡◌, ◌*◌, ◌^◌, min, arith, ap, ◌∙◌, lit≤, CAP}
use Rattle.gc_values.proofs.Kept.{min_pow}
use Rattle.gc_values.proofs.Powers.{ten_pow_le}
use Rattle.gc_values.proofs.units.with_zeros.Goals as goal

pub pow-power-requires : goal.pow-power-requires
pow-power-requires c = omega (arith, ten_pow_le c.min.result 38 (omega arith))

pub returns : goal.returns
returns c =
    let power : c.pow-power.result ≡ 10 ^ min c.args.zeros 38 = c.pow-power.ensures ∙ ap (λ e. 10 ^ e) c.min.ensures in
    omega (arith, min_pow CAP c.args.kept 38 c.args.zeros (lit≤ tt), ap (λ p. c.args.kept * p) power)
