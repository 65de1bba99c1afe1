use Rattle.gc_values.proofs.Common.{◌≡◌, ◌+◌, ◌<◌, refl, ap, length, arith, rules, fraction_digits}
use Rattle.gc_values.proofs.Unique.{Cut, same_parts, cut_is_numeral}
use Rattle.gc_values.proofs.cutting.cut_numeral.Goals.{else-is_empty-via-then-is_empty+else-is_empty-2, else-is_empty-via-else-is_empty}
use Rattle.gc_values.proofs.cutting.cut_numeral.Goals as goal

pub invariant_of-result : goal.invariant_of-result
invariant_of-result c = record { whole_are_digits = c.cut_digits.ensures.digits; fraction_are_digits = c.cut_fraction.ensures.digits }

pub returns-then-is_empty-2-clause-none : goal.returns-then-is_empty-2-clause-none
returns-then-is_empty-2-clause-none c p n e =
    let cut : Cut c.args.text.now =
    record { negative = _; behind_sign = _; whole = _; behind_whole = _; fraction = _; rest = _; sign = c.cut_sign-negative.ensures; digits = c.cut_digits.ensures; point = c.cut_fraction.ensures } in
    let same = same_parts c.args.text.now cut p n e in
    let some : 0 < length p.whole + length (fraction_digits p.fraction) = n.some in
    let whole : length c.cut_digits.result.0.now ≡ 0 = search (rules, c.if-is_empty.ensures) in
    let fraction : length c.cut_fraction.result.0.now ≡ 0 = search (rules, c.if-is_empty-2.ensures) in
    omega (arith, ap length same.whole_is, ap length same.fraction_is)

pub returns-in_err-up-clause-none : goal.returns-in_err-up-clause-none
returns-in_err-up-clause-none c = rw c.from_residual.ensures (λ p n e.
    let cut : Cut c.args.text.now =
    record { negative = _; behind_sign = _; whole = _; behind_whole = _; fraction = _; rest = _; sign = c.cut_sign-negative.ensures; digits = c.cut_digits.ensures; point = c.cut_fraction.ensures } in
    let same = same_parts c.args.text.now cut p n e in
    c.in_err-up.ensures.none p.exponent n.exponent same.rest_is)

pub returns-clause-found : goal.returns-clause-found
returns-clause-found c =
    let cut : Cut c.args.text.now =
    record { negative = _; behind_sign = _; whole = _; behind_whole = _; fraction = _; rest = _; sign = c.cut_sign-negative.ensures; digits = c.cut_digits.ensures; point = c.cut_fraction.ensures } in
    cut_is_numeral c.args.text.now cut _ (refl, refl, refl)
    (elim c.else-is_empty.branch [
      | else-is_empty-via-then-is_empty+else-is_empty-2 w ↦ search rules
      | else-is_empty-via-else-is_empty w ↦ search rules
    ]) c.in_ok-up.ensures.found
