use Rattle.gc_values.proofs.Common.{◌≡◌, length, ap, ◌∙◌, rules, w32, to_z-of_z, signed_text}
use Rattle.gc_values.proofs.whole.push_signed.Goals as goal

pub returns : goal.returns
returns g c =
    let text : c.as_bytes.result.now ≡ signed_text c.args.v = c.as_bytes.ensures.value ∙ c.put_signed.ensures ∙ ap signed_text (to_z-of_z w32 c.args.v c.ranges.v) in
    let size : length c.as_bytes.result.now ≡ length (signed_text c.args.v) = ap length text in
    search rules
