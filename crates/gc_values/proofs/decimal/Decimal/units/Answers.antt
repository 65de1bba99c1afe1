use Rattle.gc_values.proofs.Common.{◌≡◌, ◌≤◌, ◌*◌, ◌^◌, ◌-◌, ℕ, ℤ, Bool, unsigned_abs, arith, ap, refl, rules, SFits, w128, to_z-of_z, signed}
use Rattle.gc_values.proofs.Rounded.{units_in_range}
use Rattle.gc_values.proofs.Signs.{abs_from}
use Rattle.gc_values.proofs.decimal.Decimal.units.Goals as goal

-- if z is m with a sign, and z / 10^s is in range and has at most 24 places, m * 10^(24 - s) is at most 10^37
units_are_bounded : (z : ℤ) (b : Bool) (m s k : ℕ) → z ≡ signed b m → s ≤ 24 → unsigned_abs z ≤ 10 ^ 13 * 10 ^ s → k ≡ 24 - s → m * 10 ^ k ≤ 10 ^ 37
units_are_bounded z b m s k e places h same = omega (arith, units_in_range m s places (let a = abs_from z b m e in omega (arith, a, h)), ap (λ j. m * 10 ^ j) same)

pub overflow_mul-magnitude : goal.overflow_mul-magnitude
overflow_mul-magnitude c =
    let d = c.args.self.now in
    let w = units_are_bounded d.digits c.parts-negative.result.0 c.parts-negative.result.1 d.scale (24 - d.scale) c.parts-negative.ensures.value d.has_few_places d.is_in_range refl in
    omega (arith, w, ap (λ p. c.parts-negative.result.1 * p) c.power_of_ten.ensures)

pub with_sign-requires : goal.with_sign-requires
with_sign-requires c =
    let d = c.args.self.now in
    let w = units_are_bounded d.digits c.parts-negative.result.0 c.parts-negative.result.1 d.scale (24 - d.scale) c.parts-negative.ensures.value d.has_few_places d.is_in_range refl in
    omega (arith, w, ap (λ p. c.parts-negative.result.1 * p) c.power_of_ten.ensures)

pub returns-clause-bound : goal.returns-clause-bound
returns-clause-bound c =
    let d = c.args.self.now in
    let w = units_are_bounded d.digits c.parts-negative.result.0 c.parts-negative.result.1 d.scale (24 - d.scale) c.parts-negative.ensures.value d.has_few_places d.is_in_range refl in
    let fits : SFits w128 c.with_sign.result = search rules in
    omega (arith, w, ap unsigned_abs (to_z-of_z w128 c.with_sign.result fits), abs_from _ _ _ c.with_sign.ensures, ap (λ p. c.parts-negative.result.1 * p) c.power_of_ten.ensures)
