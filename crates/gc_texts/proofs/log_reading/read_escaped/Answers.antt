use Rattle.gc_texts.proofs.Common.{◌≡◌, ℕ, ◌≤◌, List, length, rules, AreBytes, escaped}
use Rattle.gc_texts.proofs.Logs.{reads_no_more, reads_too_many, left_not_empty, full_is_514}
use Rattle.gc_texts.proofs.log_reading.read_escaped.Goals as goal

pub returns-in_err-b : goal.returns-in_err-b
returns-in_err-b c =
    let none : (bytes : List ℕ) → length bytes ≤ 514 → AreBytes bytes → c.args.text.now ≡ escaped bytes → ⊥ =
    λ bytes room are so. reads_no_more c.args.text.now c.loop-left.bytes.items c.loop-left.left.now c.loop-left.invariant
    (left_not_empty c.loop-left.left.now (c.loop-left-test.ensures)) (c.in_err-b.ensures) bytes are so in
    search rules

pub returns-then-is_full : goal.returns-then-is_full
returns-then-is_full c =
    let full : 514 ≤ length c.loop-left.bytes.items = full_is_514 (length c.loop-left.bytes.items) c.if-is_full.ensures.value in
    λ bytes room are so. reads_too_many c.args.text.now c.loop-left.bytes.items c.loop-left.left.now c.loop-left.invariant
    (left_not_empty c.loop-left.left.now (c.loop-left-test.ensures)) full bytes room are so
