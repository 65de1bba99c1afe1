use Rattle.gc_values.proofs.Common.{◌≡◌, ℕ, true, ◌+◌, ◌-◌, arith, ap, ◌∙◌, get_or, take, drop, length, refl, common_steps, quoted_after, drop-drop, take_rest}
use Rattle.gc_values.proofs.Scanning.{scanned_none, scanned_more, scanned_cut, scanned_all}
use Rattle.gc_values.proofs.items.cut_piece.Goals.{then-byte-eq34, else-byte-eq34, else-byte-eq44-via-then-byte-eq44+else-not-quoted, else-byte-eq44-via-else-byte-eq44}
use Rattle.gc_values.proofs.items.cut_piece.Goals as goal

pub loop-i-init : goal.loop-i-init
loop-i-init c = scanned_none c.args.text.now

pub loop-i-preserved : goal.loop-i-preserved
loop-i-preserved c =
    let b : ℕ = get_or c.args.text.now c.loop-i.i 0 in
    let comma : b ≡ 44 → c.loop-i.quoted ≡ true = λ h. elim c.else-byte-eq44.branch [
      | else-byte-eq44-via-then-byte-eq44+else-not-quoted w ↦ grind (arith, common_steps)
      | else-byte-eq44-via-else-byte-eq44 w ↦ absurd (w.if-byte-eq44.false h)
    ] in
    let step : c.if-byte-eq34.quoted ≡ quoted_after b c.loop-i.quoted = elim c.if-byte-eq34.branch [
      | then-byte-eq34 w ↦ grind (arith, common_steps)
      | else-byte-eq34 w ↦ grind (arith, common_steps)
    ] in
    scanned_more c.args.text.now c.loop-i.i c.loop-i.quoted c.if-byte-eq34.quoted c.loop-i.invariant (omega arith) comma step

pub returns-then-not-quoted : goal.returns-then-not-quoted
returns-then-not-quoted c =
    let text = c.args.text.now in
    let i = c.loop-i.i in
    let behind : take (length c.split_at.result.1.now - 1) (drop 1 c.split_at.result.1.now) ≡ drop (i + 1) text =
    take_rest c.split_at.result.1.now 1 ∙ ap (λ xs. drop 1 xs) c.split_at.ensures.back ∙ drop-drop 1 i text in
    rw (behind, c.split_at.ensures.front) (scanned_cut text i c.loop-i.quoted c.loop-i.invariant (omega arith) c.if-byte-eq44.true c.if-not-quoted.true)

pub returns : goal.returns
returns c = (refl, scanned_all c.args.text.now c.loop-i.i c.loop-i.quoted c.loop-i.invariant (omega arith))
