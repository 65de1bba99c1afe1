-- Calls on a state over a line that damages: the library settles what the client of the field settles, and each answer is own or damaged.
use Rattle.geocom_c.proofs.Common.{◌≡◌, ℕ, List, [], ◌∷◌, ◌++◌, drop, map, Option, refl, sym, ◌∙◌, ap, subst, append-nil, Asked, Course, begun, course, KeptReply, Stepped, steps_among, Ends, begins, nulls, nulls_settled, AnyState, IsAnInstrument, Harm, Does, Damages, Strikes, harmed, harms, Holding, AllMayHarmApart, MayHarmApart, holding_begun, holding_harms, harm_events, left_by_sync, IsPossibleHarm, seen_at, seen_harms, WasStruck, steps_in_front, CallsReach, CallStage, first_stage, StateCall}
use Rattle.gc_world.specs.Prelude.{of_sent}
use Rattle.gc_theorems.proofs.BegunFaithful.{begun_prefixed, prefixed_all}
use Rattle.gc_theorems.proofs.HoldingBack.{fresh_if_held_back}
use Rattle.gc_theorems.proofs.Own.{own_or_broken}
use Rattle.gc_theorems.proofs.SeenHarms.{Same, after_nulls, course_append, same_harm}
use Rattle.gc_theorems.proofs.DamagedSessions.{none_of_harms}
use Rattle.gc_theorems.proofs.Stretch.{left_clean}
use Rattle.geocom_c.specs.Damage.{AreCallsOver, AreHeldBack, HarmedCalls, HeldBackAnswersAreOwnOrDamaged, begun_over}
use Rattle.geocom_c.proofs.Courses.{over_events}
use Rattle.gc_theorems.specs.Field as field

module _ {State : Type 0} (width : ℕ) (ends : Ends State) (Good : State → Type 0) (kept : State → Option KeptReply) (is : IsAnInstrument ends Good kept) where
  -- a step that may be made by a client that holds back is possible
  possible_apart : (g : Holding State) (m : Harm State) → MayHarmApart width ends Good kept g m → IsPossibleHarm ends Good kept g.harmed m
  possible_apart g (Does (field.Sends target call deadline)) p = tt
  possible_apart g (Does (field.Tells now)) p = p
  possible_apart g (Does (field.Comes line)) p = p
  possible_apart g (Does (field.Foreign line)) p = p
  possible_apart g (Does (field.OnLine step)) p = p
  possible_apart g (Does field.Anew) p = p
  possible_apart g (Does (field.Changes state)) p = p
  possible_apart g (Does (field.Joins line)) p = p
  possible_apart g (Damages line) p = tt
  possible_apart g (Strikes id call) p = p

  -- what is known of the world after a step doesn't depend on what the client stores
  same_world : (g : Holding State) (m : Harm State) → (holding_harms width ends g m).harmed ≡ harms width ends g.harmed m
  same_world g (Does (field.Sends target call deadline)) = refl
  same_world g (Does (field.Tells now)) = refl
  same_world g (Does (field.Comes line)) = refl
  same_world g (Does (field.Foreign line)) = refl
  same_world g (Does (field.OnLine step)) = refl
  same_world g (Does field.Anew) = refl
  same_world g (Does (field.Changes state)) = refl
  same_world g (Does (field.Joins line)) = refl
  same_world g (Damages line) = refl
  same_world g (Strikes id call) = refl

  -- the course of a client that holds back has the requests, the settlements and the client of the world
  same_apart : (ms : List (Harm State)) (x : Course Asked) (g : Holding State) → AllMayHarmApart width ends Good kept ms g → Same width ends Good kept is x g.harmed.world
      → Same width ends Good kept is (course width x (seen_harms ms)) (harmed width ends ms g.harmed).world
  same_apart [] x g p s = s
  same_apart (m ∷ ms) x g p s =
      let next = same_harm width ends Good kept is m x g.harmed (possible_apart g m p.0) s in
      let e = same_world g m in
      subst (λ h. Same width ends Good kept is (course width x (seen_at m ++ seen_harms ms)) (harmed width ends ms h).world) e
      (subst (λ y. Same width ends Good kept is y (harmed width ends ms (holding_harms width ends g m).harmed).world) (sym (course_append width x (seen_at m) (seen_harms ms)))
      (same_apart ms (course width x (seen_at m)) (holding_harms width ends g m) p.1
      (subst (λ h. Same width ends Good kept is (course width x (seen_at m)) h.world) (sym e) next)))

  -- calls that are held back settle what the client of the world settles
  settled_same : (calls : List StateCall) (t : CallStage) → CallsReach width first_stage calls t → (x : HarmedCalls State) → AreCallsOver width ends calls x
      → AreHeldBack width ends Good kept x → t.reached.settlements ≡ drop 8 (harmed width ends x.steps (begun_over width ends x)).world.wire.settled
  settled_same calls t reach x are held =
      let over = over_events width calls t reach in
      let steps = seen_harms x.steps in
      let same : steps_among over.events ≡ steps =
      ap steps_among (sym (over.only (harm_events ends x.turns (begins x.over) ++ map Stepped steps) are))
      ∙ none_of_harms ends x.turns (begins x.over) (map Stepped steps)
      ∙ ap steps_among (sym (append-nil (map Stepped steps))) ∙ steps_in_front steps [] ∙ append-nil steps in
      let one = same_apart x.steps after_nulls (holding_begun width ends (left_by_sync ends x.over x.turns)) held.steps (record { sent = refl; settled = refl; client = refl }) in
      let from = prefixed_all width (map of_sent nulls) nulls_settled steps after_nulls begun begun_prefixed in
      ap (λ (c : Course Asked). c.settlements) over.reached ∙ ap (λ l. (course width begun l).settlements) same
      ∙ ap (drop 8) (sym from.settled ∙ one.settled)

-- each answer of calls that are held back is own or damaged
pub held_back_own_or_damaged : {State : Type 0} → HeldBackAnswersAreOwnOrDamaged State
held_back_own_or_damaged ends kept is width ok calls t reach x are held =
    let clean = left_clean width ok.1 ends AnyState kept is x.over x.turns held.lines held.turns held.begun in
    let old : List ℕ → Type 0 = λ line. WasStruck ends x.over x.turns line in
    let may = fresh_if_held_back width ok.1 ends AnyState kept is old (left_by_sync ends x.over x.turns) clean x.steps held.steps in
    record {
      settled = settled_same width ends AnyState kept is calls t reach x are held;
      own = own_or_broken width ok.1 ends AnyState kept is old (left_by_sync ends x.over x.turns) x.steps clean may;
    }
