use Rattle.gc_values.proofs.Common.{◌≡◌, ◌%◌, arith, rules, ap, ◌∙◌, sym, unsigned_abs, to_z, of_z, SFits, w128, to_z-of_z}
use Rattle.gc_values.proofs.Signs.{unsigned_abs-signed}
use Rattle.gc_values.proofs.Powers.{bound_fits}
use Rattle.gc_values.proofs.ZerosLemmas.{zeros_in_range}
use Rattle.gc_values.proofs.decimal.Decimal.from_parts.Goals as goal

pub with_sign-requires : goal.with_sign-requires
with_sign-requires c =
    let w = c.without_zeros-magnitude in
    omega (arith, zeros_in_range _ _ _ _ w.ensures c.requires.range, bound_fits w.result.1 (omega arith))

pub invariant_of-result : goal.invariant_of-result
invariant_of-result c =
    let w = c.without_zeros-magnitude in
    let fits : SFits w128 c.with_sign.result = search rules in
    let back : to_z w128 (of_z w128 c.with_sign.result) ≡ c.with_sign.result = to_z-of_z w128 c.with_sign.result fits in
    let size : unsigned_abs (to_z w128 (of_z w128 c.with_sign.result)) ≡ w.result.0 =
    ap unsigned_abs (back ∙ c.with_sign.ensures) ∙ unsigned_abs-signed c.args.negative w.result.0 in
    record {
      has_few_places = omega arith;
      is_in_range = omega (arith, size, zeros_in_range _ _ _ _ w.ensures c.requires.range);
      is_canonical = λ some divides. w.ensures.canonical some (ap (λ n. n % 10) (sym size) ∙ divides);
    }
