use Rattle.gc_values.proofs.Common.{◌≡◌, ◌≤◌, ℤ, ◌++◌, length, length-append, ap, ◌∙◌, arith, rules, w32, FitsSigned, ints, to_z-of_z, FitsShort, signed_text}
use Rattle.gc_values.proofs.WholeText.{length-short}
use Rattle.gc_values.proofs.whole.push_short.Goals as goal

pub push_signed-requires : goal.push_signed-requires
push_signed-requires g c =
    let range : FitsSigned w32 c.from.result = search rules in
    let value : c.from.result ≡ c.args.v = omega (arith, ints, c.from.ensures, c.ranges.v) in
    let text = ap signed_text (to_z-of_z w32 c.from.result range ∙ value) in
    let fits : FitsShort c.args.v = (omega (arith, ints, c.ranges.v), omega (arith, ints, c.ranges.v)) in
    let short : length (signed_text c.args.v) ≤ 6 = length-short c.args.v fits in
    search rules

pub returns-clause-len : goal.returns-clause-len
returns-clause-len g c =
    let range : FitsSigned w32 c.from.result = search rules in
    let value : c.from.result ≡ c.args.v = omega (arith, ints, c.from.ensures, c.ranges.v) in
    let text = c.push_signed.ensures ∙ ap (λ (z : ℤ). c.args.out.now.items ++ signed_text z) (to_z-of_z w32 c.from.result range ∙ value) in
    let fits : FitsShort c.args.v = (omega (arith, ints, c.ranges.v), omega (arith, ints, c.ranges.v)) in
    omega (arith, ap length text, length-append c.args.out.now.items (signed_text c.args.v), length-short c.args.v fits)
