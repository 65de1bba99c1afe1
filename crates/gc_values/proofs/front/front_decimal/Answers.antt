use Rattle.gc_values.proofs.Common.{◌≡◌, ◌+◌, false, arith, rules, subst, sym, get_or, take_rest, IfSome_then, option_copied, SignedWithoutZeros, CutsDecimal}
use Rattle.gc_values.proofs.FrontDecimals.{counted_leave_room, front_decimal_found, front_decimal_in_range}
use Rattle.gc_values.proofs.front.front_decimal.Goals as goal

pub front_digits-value-requires : goal.front_digits-value-requires
front_digits-value-requires c =
    let few = c.front_digits-whole.ensures.few in
    counted_leave_room c.args.text.now 13 c.front_digits-whole.result.0 c.front_digits-whole.result.1 c.front_digits-whole.ensures (omega (arith, few))

pub from_parts-decimal-requires-clause-range : goal.from_parts-decimal-requires-clause-range
from_parts-decimal-requires-clause-range c =
    omega (arith, c.from.ensures, front_decimal_in_range c.args.text.now _ c.front_digits-whole.result.1 c.front_digits-value.result.1 _ _ c.front_digits-whole.ensures c.front_digits-value.ensures)

pub returns : goal.returns
returns c =
    let text = c.args.text.now in
    let at = c.front_digits-whole.result.1 in
    let places = c.front_digits-value.result.1 in
    let point : get_or text at 0 ≡ 46 = search rules in
    let made = subst (λ v. SignedWithoutZeros false v places c.from_parts-decimal.result.digits c.from_parts-decimal.result.scale) c.from.ensures c.from_parts-decimal.ensures in
    IfSome_then c.with_rest.result c.with_rest.ensures
    (λ r h. subst (λ d. CutsDecimal text d (option_copied r.1)) (sym h.0)
    (front_decimal_found text _ _ places _ c.from_parts-decimal.result
    (record {
      at = at;
      whole = _;
      behind = _;
      before_point = c.front_digits-whole.ensures;
      some = omega arith;
      inside = omega arith;
      point = point;
      behind_is = take_rest text (at + 1);
      after_point = c.front_digits-value.ensures;
      tail_is = take_rest _ places;
    }) h.1 made))
