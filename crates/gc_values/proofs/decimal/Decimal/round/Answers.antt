use Rattle.gc_values.proofs.Common.{◌≡◌, ◌*◌, ◌^◌, ◌-◌, arith, ap, sym, refl, subst, signed, IsRounded, RoundsHalfUp}
use Rattle.gc_values.proofs.Powers.{ten_pow_pos}
use Rattle.gc_values.proofs.Rounded.{exact_rounds, rounded_from, rounds_places, places_in_range}
use Rattle.gc_values.proofs.RoundedDecimals.{rounded_only}
use Rattle.gc_values.proofs.Signs.{abs_from}
use Rattle.gc_values.proofs.decimal.Decimal.round.Goals as goal

pub returns-then-self-places-clause-rounding : goal.returns-then-self-places-clause-rounding
returns-then-self-places-clause-rounding c =
    exact_rounds _ _ _ _ c.args.self.now.is_canonical (omega arith) refl

pub nearest-requires : goal.nearest-requires
nearest-requires c = omega (arith, ten_pow_pos (c.args.self.now.scale - c.args.places), c.power_of_ten-unit.ensures)

pub from_parts-requires-clause-range : goal.from_parts-requires-clause-range
from_parts-requires-clause-range c =
    let d = c.args.self.now in
    let unit : c.power_of_ten-unit.result ≡ 10 ^ (d.scale - c.args.places) = c.power_of_ten-unit.ensures in
    let size = abs_from _ _ _ c.parts-negative.ensures.value in
    let most = places_in_range c.parts-negative.result.1 d.scale c.args.places (omega arith) (let r = d.is_in_range in omega (arith, r, size)) in
    c.nearest.ensures.bound (10 ^ 13 * 10 ^ c.args.places) (omega (arith, most, ap (λ u. 10 ^ 13 * 10 ^ c.args.places * u) unit))

pub returns-then-self-places-clause-exact : goal.returns-then-self-places-clause-exact
returns-then-self-places-clause-exact c = rounded_only c.args.self.now c.args.self.now c.args.places (returns-then-self-places-clause-rounding c)

pub returns-clause-rounding : goal.returns-clause-rounding
returns-clause-rounding c =
    let d = c.args.self.now in
    let neg = c.parts-negative.result.0 in
    let unit : c.power_of_ten-unit.result ≡ 10 ^ (d.scale - c.args.places) = c.power_of_ten-unit.ensures in
    let near = subst (λ u. RoundsHalfUp c.parts-negative.result.1 u c.nearest.result) unit c.nearest.ensures.rounds in
    let made = c.from_parts.ensures in
    let r = rounded_from neg c.parts-negative.result.1 d.scale c.args.places c.nearest.result made.n c.from_parts.result.scale
    (rounds_places c.parts-negative.result.1 d.scale c.args.places c.nearest.result (omega arith) near) made.zeros in
    subst (λ z. IsRounded (record { n = z; k = d.scale }) c.args.places c.from_parts.result.digits c.from_parts.result.scale) (sym c.parts-negative.ensures.value)
    (subst (λ z. IsRounded (record { n = signed neg c.parts-negative.result.1; k = d.scale }) c.args.places z c.from_parts.result.scale) (sym made.m_is) r)

pub returns-clause-exact : goal.returns-clause-exact
returns-clause-exact c = rounded_only c.args.self.now c.from_parts.result c.args.places (returns-clause-rounding c)
