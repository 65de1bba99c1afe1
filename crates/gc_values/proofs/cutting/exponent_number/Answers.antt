use Rattle.gc_values.proofs.Common.{◌≡◌, ◌^◌, ◌+◌, ◌*◌, arith, rules, get_or, take, ap, ◌∙◌, add-one, pow-suc, take_all, IsDigit, number}
use Rattle.gc_values.proofs.Every.{every_more}
use Rattle.gc_values.proofs.Kept.{number-take_more}
use Rattle.gc_values.proofs.cutting.exponent_number.Goals as goal

pub loop-byte-preserved : goal.loop-byte-preserved
loop-byte-preserved c =
    let i = c.loop-byte.byte-index in
    let here : IsDigit (get_or c.args.text.now i 0) = search (rules, c.if-not-is_ascii_digit.ensures.cases) in
    let power : 10 ^ (i + 1) ≡ 10 ^ i * 10 = rw add-one (pow-suc 10 i) in (
      omega (arith, number-take_more c.args.text.now i (omega arith)),
      omega (arith, power, here.1),
      every_more IsDigit c.args.text.now i 0 (omega arith) c.loop-byte.invariant.2 here,
    )

pub returns-clause-found : goal.returns-clause-found
returns-clause-found c =
    let all : take c.loop-byte.byte-index c.args.text.now ≡ c.args.text.now = take_all c.loop-byte.byte-index c.args.text.now (omega arith) in (
      record { digits_are = rw all at c.loop-byte.invariant.2; some = search rules; few = omega arith },
      c.loop-byte.invariant.0 ∙ ap number all,
    )
