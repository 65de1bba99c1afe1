use Rattle.gc_values.proofs.Common.{◌≡◌, ◌<◌, ◌-◌, ◌⊎◌, get_or, inl, inr, arith}
use Rattle.gc_values.proofs.Trimming.{end_spaces_more, trims_back_at}
use Rattle.gc_values.proofs.items.trim_back.Goals.{then-loop-end-test+else-text-end-eq32, else-loop-end-test}
use Rattle.gc_values.proofs.items.trim_back.Goals as goal

pub loop-end-preserved : goal.loop-end-preserved
loop-end-preserved c = (omega arith, end_spaces_more c.args.text.now c.loop-end.end c.loop-end-test.true c.loop-end.invariant.0 c.loop-end.invariant.1 c.if-text-end-eq32.true)

pub returns : goal.returns
returns c =
    let stop : (c.loop-end.end ≡ 0) ⊎ ((0 < c.loop-end.end) × (get_or c.args.text.now (c.loop-end.end - 1) 0 ≡ 32 → ⊥)) = elim c.loop-end-test.branch [
      | then-loop-end-test+else-text-end-eq32 w ↦ inr (w.loop-end-test.true, w.if-text-end-eq32.false)
      | else-loop-end-test w ↦ inl (let h = w.loop-end-test.false in omega arith)
    ] in
    trims_back_at c.args.text.now c.loop-end.end c.loop-end.invariant.0 c.loop-end.invariant.1 stop
