use Rattle.gc_values.proofs.Common.{◌≡◌, ◌*◌, ◌^◌, ◌≤◌}
use Rattle.gc_values.proofs.decimal.without_zeros_in_64_bits.Given as goal

abbrev pub invariant-loop-scale : goal.invariant-loop-scale
invariant-loop-scale l = (l.fn.digits * 10 ^ l.scale ≡ l.digits * 10 ^ l.fn.scale) × (l.scale ≤ l.fn.scale)

abbrev pub decreases-loop-scale : goal.decreases-loop-scale
decreases-loop-scale l = l.scale
