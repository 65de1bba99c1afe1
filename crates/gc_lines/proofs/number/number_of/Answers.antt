use Rattle.gc_lines.proofs.Common.{◌+◌, ◌*◌, ◌<◌, ◌^◌, get_or, drop, arith, rules, inl, inr, sym, ◌∙◌, refl, take_rest, NoDigitFirst}
use Rattle.gc_lines.proofs.Digits.{run_more, value_next, value_small, digit_range, run_at_least, number_too_long, number_read, number_refused, stops_at, stops_at_end}
use Rattle.gc_lines.proofs.number.number_of.Goals.{then-loop-len-test+else-is_ascii_digit, else-loop-len-test}
use Rattle.gc_lines.proofs.number.number_of.Goals as goal

pub returns-then-len-eq5 : goal.returns-then-len-eq5
returns-then-len-eq5 c =
    let i = c.loop-len.invariant in
    let more = run_more c.args.bytes.now c.loop-len.len c.loop-len-test.true i.digits (search rules) in
    number_too_long c.args.fault c.args.bytes.now (omega (arith, run_at_least c.args.bytes.now (c.loop-len.len + 1) (omega arith) more))

pub overflow_mul-value : goal.overflow_mul-value
overflow_mul-value c =
    let i = c.loop-len.invariant in
    let h : c.loop-len.value * 10 < 2 ^ 32 = omega (arith, i.value, value_small c.args.bytes.now c.loop-len.len i.digits i.few) in search rules

pub overflow_add-value : goal.overflow_add-value
overflow_add-value c =
    let i = c.loop-len.invariant in
    let h : c.loop-len.value * 10 + c.from.result < 2 ^ 32 = omega (
      arith,
      i.value,
      c.from.ensures,
      digit_range (get_or c.args.bytes.now c.loop-len.len 0)
          (search rules),
      value_small c.args.bytes.now c.loop-len.len i.digits i.few,
    ) in search rules

pub loop-len-preserved : goal.loop-len-preserved
loop-len-preserved c =
    let i = c.loop-len.invariant in
    let digit = c.if-is_ascii_digit.true in
    record {
      within = omega arith;
      few = omega arith;
      digits = run_more c.args.bytes.now c.loop-len.len c.loop-len-test.true i.digits (search rules);
      value = omega (arith, i.value, c.from.ensures, value_next c.args.bytes.now c.loop-len.len c.loop-len-test.true (search rules));
    }

pub returns-then-len-eq0 : goal.returns-then-len-eq0
returns-then-len-eq0 c =
    let i = c.loop-len.invariant in
    let bytes = c.args.bytes.now in
    let stops : NoDigitFirst (drop c.loop-len.len bytes) = elim c.loop-len-test.branch [
      | then-loop-len-test+else-is_ascii_digit w ↦ stops_at bytes c.loop-len.len w.loop-len-test.true (search rules)
      | else-loop-len-test w ↦ stops_at_end bytes c.loop-len.len w.loop-len-test.false
    ] in
    number_refused c.args.fault bytes c.loop-len.len (record { within = i.within; digits = i.digits; stops = stops }) (elim c.then-len-eq0.either [
      | inl none ↦ inl none
      | inr wide ↦ inr
          (omega (arith, i.value, wide.1))
    ]) i.few

pub returns : goal.returns
returns c =
    let i = c.loop-len.invariant in
    let bytes = c.args.bytes.now in
    let stops : NoDigitFirst (drop c.loop-len.len bytes) = elim c.loop-len-test.branch [
      | then-loop-len-test+else-is_ascii_digit w ↦ stops_at bytes c.loop-len.len w.loop-len-test.true (search rules)
      | else-loop-len-test w ↦ stops_at_end bytes c.loop-len.len w.loop-len-test.false
    ] in
    number_read c.args.fault bytes c.loop-len.len (record { within = i.within; digits = i.digits; stops = stops }) (omega arith) i.few (omega (arith, i.value))
    ∙ rw (sym i.value, take_rest bytes c.loop-len.len) refl
