use Rattle.gc_values.proofs.Common.{◌≤◌, ℤ, ◌++◌, length, length-append, ap, ◌∙◌, arith, rules, w32, ints, to_z-of_z, FitsLong, signed_text}
use Rattle.gc_values.proofs.WholeText.{length-long}
use Rattle.gc_values.proofs.whole.push_long.Goals as goal

pub push_signed-requires : goal.push_signed-requires
push_signed-requires g c =
    let text = ap signed_text (to_z-of_z w32 c.args.v c.ranges.v) in
    let fits : FitsLong c.args.v = (omega (arith, ints, c.ranges.v), omega (arith, ints, c.ranges.v)) in
    let short : length (signed_text c.args.v) ≤ 11 = length-long c.args.v fits in
    search rules

pub returns-clause-len : goal.returns-clause-len
returns-clause-len g c =
    let text = c.push_signed.ensures ∙ ap (λ (z : ℤ). c.args.out.now.items ++ signed_text z) (to_z-of_z w32 c.args.v c.ranges.v) in
    let fits : FitsLong c.args.v = (omega (arith, ints, c.ranges.v), omega (arith, ints, c.ranges.v)) in
    omega (arith, ap length text, length-append c.args.out.now.items (signed_text c.args.v), length-long c.args.v fits)
