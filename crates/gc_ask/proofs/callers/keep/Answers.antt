use Rattle.gc_ask.proofs.Common.{◌≡◌, ℕ, arith, subst, KeepsCallers}
use Rattle.gc_ask.proofs.Keeps.{keeps_none, keeps_more}
use Rattle.gc_ask.proofs.callers.keep.Goals as goal

pub loop-at-init : goal.loop-at-init
loop-at-init g c = record {
  within = omega arith;
  kept = keeps_none g.C.Callers.serves g.C.Callers.served c.args.callers.now (g.E.Write.contents c.args.messages.now);
}

pub loop-at-preserved : goal.loop-at-preserved
loop-at-preserved g c = record {
  within = omega (arith, c.loop-at-test.true);
  kept = keeps_more g.C.Callers.serves g.C.Callers.served c.loop-at.at c.loop-at.all_written c.tell_end-all_written.result
      c.args.callers.now c.loop-at.callers c.serve_next-end.new.self
      (g.E.Write.contents c.args.messages.now) (g.E.Write.contents c.loop-at.messages) (g.E.Write.contents c.tell_end-all_written.new.messages) c.serve_next-end.result
      c.loop-at.invariant.kept c.serve_next-end.ensures.ends c.serve_next-end.ensures.serves c.tell_end-all_written.ensures;
}

pub returns : goal.returns
returns g c =
    let all : c.loop-at.at ≡ c.args.most = omega (arith, c.loop-at-test.false, c.loop-at.invariant.within) in
    subst (λ (n : ℕ). KeepsCallers g.C.Callers.serves g.C.Callers.served n c.loop-at.all_written c.args.callers.now c.loop-at.callers
    (g.E.Write.contents c.args.messages.now) (g.E.Write.contents c.loop-at.messages))
    all c.loop-at.invariant.kept
