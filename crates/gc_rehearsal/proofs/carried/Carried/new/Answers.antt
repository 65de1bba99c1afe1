use Rattle.gc_rehearsal.proofs.Common.{[], sym, ap, subst, SceneState, HasComeTo, texts}
use Rattle.gc_rehearsal.proofs.Happened.{lines, nothing_happened}
use Rattle.gc_rehearsal.proofs.carried.Carried.new.Goals as goal

pub invariant_of-result : goal.invariant_of-result
invariant_of-result c sure =
    let state = c.restart.new.self in
    subst (λ acts. HasComeTo acts (lines (texts c.new.result.items) (texts c.new-2.result.items) state)) (sym c.new-5.ensures)
    (subst (λ q. HasComeTo [] (lines (texts q) (texts c.new-2.result.items) state)) (sym c.new.ensures.items)
    (subst (λ q. HasComeTo [] (lines [] (texts q) state)) (sym c.new-2.ensures.items) (nothing_happened state (ap (λ (s : SceneState). s.base.kept) c.restart.ensures))))
