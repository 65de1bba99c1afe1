use Rattle.gc_values.proofs.Common.{◌≡◌, ◌+◌, ◌-◌, arith, ap, ◌∙◌, take, drop, length, rules, drop-drop, take_rest}
use Rattle.gc_values.proofs.PlainLists.{bare_cut_at_end, bare_cut_at_comma}
use Rattle.gc_values.proofs.quick.cut_plain.Goals as goal

pub returns-then-byte-eq44 : goal.returns-then-byte-eq44
returns-then-byte-eq44 c =
    let text = c.args.text.now in
    let i = c.loop-i.i in
    let behind : take (length c.split_at.result.1.now - 1) (drop 1 c.split_at.result.1.now) ≡ drop (i + 1) text =
    take_rest c.split_at.result.1.now 1 ∙ ap (λ xs. drop 1 xs) c.split_at.ensures.back ∙ drop-drop 1 i text in
    rw (behind, c.split_at.ensures.front) (bare_cut_at_comma text i c.loop-i.invariant (omega arith) (omega arith) c.if-byte-eq44.true)

pub returns : goal.returns
returns c = bare_cut_at_end c.args.text.now c.loop-i.i c.loop-i.invariant (omega arith) (search rules)
