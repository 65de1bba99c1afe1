use Rattle.gc_values.proofs.Common.{◌≡◌, ℕ, ◌≤◌, ◌^◌, eqb, true, slice_index_or, ap, ◌∙◌, arith, refl, agree_below_at, eqb-true}
use Rattle.gc_values.specs.declared.power.TheConstants.{POWERS}
use Rattle.gc_values.proofs.power.power_of_ten.Goals as goal

-- each entry of the table is the power of its place
is_power : (k : ℕ) → k ≤ 24 → slice_index_or POWERS k 0 ≡ 10 ^ k
is_power k h = eqb-true (slice_index_or POWERS k 0) (10 ^ k) (agree_below_at (λ i. eqb (slice_index_or POWERS i 0) (10 ^ i)) (λ _. true) 25 k refl (omega arith))

pub returns : goal.returns
returns c = ap (λ i. slice_index_or POWERS i 0) c.from.ensures ∙ is_power c.args.places c.requires
