use Rattle.gc_lines.proofs.Common.{ℕ, List, take, sym, ap, ◌∙◌, arith, length-drop, take-add, take_rest, Appends-trans}
use Rattle.gc_lines.proofs.Known.{Appends-is}
use Rattle.gc_lines.proofs.writing.write_whole.Goals as goal

pub loop-at-preserved : goal.loop-at-preserved
loop-at-preserved g c =
    let at = c.loop-at.at in
    let n = c.in-Ok.n in
    let bytes = c.args.bytes.now in
    let front = take-add at n bytes in
    let part = Appends-is _ _ _ _ (ap (λ (xs : List ℕ). take n xs) (take_rest bytes at)) c.in-Ok.ensures.bytes.2 in
    record {
      within = omega (arith, c.in-Ok.ensures.bytes.0, length-drop at bytes);
      took = Appends-is _ _ _ _ (sym front) (Appends-trans _ (g.K.Sink.taken c.loop-at.sink) _ _ _ c.loop-at.invariant.took part);
      failed = c.in-Ok.ensures.fails.1 ∙ sym c.in-Ok.ensures.fails.0 ∙ c.loop-at.invariant.failed;
    }
