use Rattle.gc_values.proofs.Common.{rules, arith, refl, inl, get_or, IsDigit}
use Rattle.gc_values.proofs.WholeLemmas.{counted_more, not_number}
use Rattle.gc_values.proofs.whole.read_whole.Goals as goal

pub returns-then-not-is_ascii_digit-clause-fault : goal.returns-then-not-is_ascii_digit-clause-fault
returns-then-not-is_ascii_digit-clause-fault c =
    let other : IsDigit (get_or c.args.item.now c.loop-byte.byte-index 0) → ⊥ = λ h. search (rules, c.if-not-is_ascii_digit.ensures.cases, h) in
    inl (refl, λ n names. not_number c.args.item.now c.loop-byte.byte-index n (omega arith) other names)

pub returns-then-not-is_ascii_digit-clause-only : goal.returns-then-not-is_ascii_digit-clause-only
returns-then-not-is_ascii_digit-clause-only c n names small =
    let other : IsDigit (get_or c.args.item.now c.loop-byte.byte-index 0) → ⊥ = λ h. search (rules, c.if-not-is_ascii_digit.ensures.cases, h) in
    absurd (not_number c.args.item.now c.loop-byte.byte-index n (omega arith) other names)

pub loop-byte-preserved : goal.loop-byte-preserved
loop-byte-preserved c =
    let here : IsDigit (get_or c.args.item.now c.loop-byte.byte-index 0) = search (rules, c.if-not-is_ascii_digit.ensures.cases) in
    counted_more c.args.item.now c.loop-byte.byte-index _ c.loop-byte.value c.min-value.result c.loop-byte.invariant (omega arith) here (omega arith)
