use Rattle.gc_values.proofs.Common.{◌<◌, ◌*◌, ◌/◌, ◌^◌, length, length-append, ap, arith, lit<, div_below, whole_text}
use Rattle.gc_values.proofs.Powers.{ten_pow_pos}
use Rattle.gc_values.proofs.WholeText.{length-whole_text}
use Rattle.gc_values.proofs.decimal.Decimal.put.Goals as goal

pub put_whole-requires-clause-room : goal.put_whole-requires-clause-room
put_whole-requires-clause-room c = omega (arith, c.put_places-whole.ensures.few, ap length c.put.ensures)

pub put-requires-then-negative : goal.put-requires-then-negative
put-requires-then-negative c =
    let n = c.put_places-whole.result in
    let d = c.args.self.now in
    let size : c.parts-negative.result.1 < 10 ^ 14 * 10 ^ d.scale = omega (arith, c.parts-negative.ensures.magnitude, d.is_in_range, ten_pow_pos d.scale) in
    let small : n < 10 ^ 14 = omega (
      arith,
      c.put_places-whole.ensures.rest,
      ap
          (λ s. c.parts-negative.result.1 / 10 ^ s) c.scale.ensures,
      div_below c.parts-negative.result.1 (10 ^ d.scale) (10 ^ 14) (ten_pow_pos d.scale)
          (omega arith),
    ) in
    omega (arith, c.put_places-whole.ensures.few, ap length c.put.ensures, ap length c.put_whole.ensures, length-append (whole_text n) c.put.new.self, length-whole_text n 14 (lit< tt) small)
