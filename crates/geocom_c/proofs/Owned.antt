-- Calls whose events are those of runs, one after the other: each settlement is its own, as with any client in the field.
use Rattle.geocom_c.proofs.Common.{◌≡◌, Option, sym, ◌∙◌, ap, subst, AllByRecursion, Asked, the_word, Course, begun, course, KeptReply, AreInTurn, left_among, steps_among, Ends, events_over, placed_runs, IsAnInstrument, IsOwn, IsOwnUnlessLost, each_is_own_if_safe, EachAnswerIsOwn}
use Rattle.gc_station.proofs.Lists.{all_on}
use Rattle.gc_theorems.proofs.Owning.{all_own_if_safe}
use Rattle.geocom_c.proofs.Courses.{over_events}

-- the law: each settlement is its own, over every instrument
pub each_answer_is_own : {State : Type 0} (ends : Ends State) (Good : State → Type 0) (kept : State → Option KeptReply) → IsAnInstrument ends Good kept
    → EachAnswerIsOwn ends Good kept
each_answer_is_own ends Good kept is width wide calls t follows u lines may rs are possible safe =
    let ps = placed_runs width ends u rs in
    let events = events_over width ends u rs in
    let over = over_events width calls t follows in
    let same = over.only events are in
    let all = each_is_own_if_safe ends Good kept is width wide.1 u lines may rs possible (subst (λ l. AreInTurn the_word l) (sym same) over.turns) in
    let reached : t.reached ≡ course width begun (steps_among events) = over.reached ∙ ap (λ l. course width begun (steps_among l)) (sym same) in
    record {
      settled = ap (λ (c : Course Asked). c.settlements) reached ∙ all.settled;
      client = ap (λ (c : Course Asked). c.client) reached ∙ all.client;
      left = over.left ∙ ap (left_among the_word) (sym same) ∙ all.left;
      own = all_on (IsOwnUnlessLost width ends Good kept ps) (IsOwn width ends Good kept ps) t.reached.settlements (all_own_if_safe width ends Good kept ps safe)
          (subst (λ (c : Course Asked). AllByRecursion (IsOwnUnlessLost width ends Good kept ps) c.settlements) (sym reached) all.own);
      each = all.each;
    }
