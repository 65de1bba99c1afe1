use Rattle.gc_values.proofs.Common.{◌≡◌, ◌^◌, ◌*◌, ◌≤◌, ℤ, pos, ◌-ℤ◌, unsigned_abs, to_z, of_z, ap, ◌∙◌, arith, w128, units, Decimal}
use Rattle.gc_values.proofs.NearLemmas.{as_i128_same}
use Rattle.gc_values.proofs.WithinLemmas.{comparison_is_within, compared_exact, apart_fits}
use Rattle.gc_values.proofs.decimal.Decimal.within.Goals as goal

-- if the units of both decimals are at most 10^37, either way from 0, their distance, computed in 128 bits, is exact
difference_is : (u v x : ℤ) (a b : Decimal) → u ≡ units a → v ≡ units b → unsigned_abs u ≤ 10 ^ 37 → unsigned_abs v ≤ 10 ^ 37 →
    x ≡ pos (unsigned_abs (to_z w128 (of_z w128 (to_z w128 (of_z w128 u) -ℤ to_z w128 (of_z w128 v))))) → to_z w128 (of_z w128 x) ≡ pos (unsigned_abs (units a -ℤ units b))
difference_is u v x a b e f hu hv is =
    let pu : to_z w128 (of_z w128 u) ≡ u = as_i128_same u (omega (arith, hu)) in
    let pv : to_z w128 (of_z w128 v) ≡ v = as_i128_same v (omega (arith, hv)) in
    let far : unsigned_abs (u -ℤ v) ≤ 2 * 10 ^ 37 = apart_fits u v hu hv in
    let value : x ≡ pos (unsigned_abs (u -ℤ v)) =
    is ∙ ap (λ y. pos (unsigned_abs (to_z w128 (of_z w128 (y -ℤ to_z w128 (of_z w128 v)))))) pu
    ∙ ap (λ y. pos (unsigned_abs (to_z w128 (of_z w128 (u -ℤ y))))) pv
    ∙ ap (λ y. pos (unsigned_abs y)) (as_i128_same (u -ℤ v) (omega (arith, far))) in
    let size : unsigned_abs x ≤ 2 * 10 ^ 37 = omega (arith, ap unsigned_abs value, far) in
    as_i128_same x (omega (arith, size)) ∙ value ∙ ap (λ y. pos (unsigned_abs (y -ℤ v))) e ∙ ap (λ y. pos (unsigned_abs (units a -ℤ y))) f

pub returns-clause-fact : goal.returns-clause-fact
returns-clause-fact c =
    comparison_is_within c.args.self.now c.args.other.now c.args.area.now _ _
    (difference_is c.units.result c.units-2.result c.abs.result c.args.self.now c.args.other.now c.units.ensures.value c.units-2.ensures.value
    c.units.ensures.bound c.units-2.ensures.bound c.abs.ensures.value)
    (as_i128_same c.units-3.result (omega (arith, c.units-3.ensures.bound)) ∙ c.units-3.ensures.value)

pub returns-clause-exact : goal.returns-clause-exact
returns-clause-exact c =
    compared_exact c.args.self.now c.args.other.now c.args.area.now _ _
    (difference_is c.units.result c.units-2.result c.abs.result c.args.self.now c.args.other.now c.units.ensures.value c.units-2.ensures.value
    c.units.ensures.bound c.units-2.ensures.bound c.abs.ensures.value)
    (as_i128_same c.units-3.result (omega (arith, c.units-3.ensures.bound)) ∙ c.units-3.ensures.value)
