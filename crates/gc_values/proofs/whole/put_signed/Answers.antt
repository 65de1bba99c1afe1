use Rattle.gc_values.proofs.Common.{◌<◌, ◌^◌, length, length-append, ap, arith, lit<, whole_text}
use Rattle.gc_values.proofs.WholeText.{length-whole_text}
use Rattle.gc_values.proofs.whole.put_signed.Goals as goal

pub put-requires : goal.put-requires
put-requires c =
    let n = c.from.result in
    let small : n < 10 ^ 14 = omega (arith, c.from.ensures, c.unsigned_abs.ensures.bound) in
    omega (arith, ap length c.put_whole.ensures, length-append (whole_text n) c.args.tail.now, ap length c.requires, length-whole_text n 14 (lit< tt) small)
