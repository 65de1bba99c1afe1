-- Where no request follows once the end of a run was asked for: between two chains, without a connection, and while the station
-- synchronizes. An act is one call on the link, with its result.
use Rattle.gc_station.proofs.Common.{◌≡◌, ◌&&◌, ◌||◌, Bool, true, false, not, List, nat_lt, nat_eq, refl, sym, ap, ◌∙◌, both_ways, cond_both, and_parts, or_left, or_right, lt-ltb, Task, Act, has_begun, is_up, is_resting, is_stopping, is_stale, is_overdue, is_held_back, is_dead, is_finished, is_between_chains, has_no_time_left, may_abandon, action_in, action_of_phase, action_without_turns, action_overdue, action_waiting, action_begun, action_beginning, Model, action_at, waiting_of, with_progress, moved, Performs, requests_by, turned, loses_all, is_over, is_over_in, Plan, Action, Phase, Progress, Limit, Waiting}
use Rattle.gc_station.proofs.InCycle.{above_zero}
use Rattle.gc_station.proofs.OnceAsked.{IsEnd, ends_there, resting_parts}
use Rattle.gc_station.proofs.Turns.{closed_down}
use Rattle.gc_station.proofs.Walk.{moved_changed}
use Rattle.gc_station.specs.declared.cause.Cause.TheVariants as cause
use Rattle.gc_station.specs.declared.progress.Action.TheVariants as actions
use Rattle.gc_station.specs.declared.progress.Phase.TheVariants as phase

-- whether no request follows once the end of the run was asked for: the station is between two chains, or there is no connection, or the
-- station synchronizes
abbrev pub sends_no_more : Progress → Bool
sends_no_more p = (is_between_chains p || not (is_up p.phase)) || not (has_begun p)

-- the action sends nothing but a line feed, begins nothing and records nothing: it reads, or closes the connection, or ends the run
abbrev IsCalm : Action → Type 0
IsCalm actions.ReadClock = Unit {0}
IsCalm actions.Clear = Unit {0}
IsCalm (actions.Read until) = Unit {0}
IsCalm (actions.Close why) = Unit {0}
IsCalm (actions.Stop why) = Unit {0}
IsCalm _ = ⊥

-- it sends no request
calm_sends_nothing : (o : Action) → IsCalm o → requests_by o ≡ 0
calm_sends_nothing actions.ReadClock calm = refl
calm_sends_nothing actions.Clear calm = refl
calm_sends_nothing (actions.Read until) calm = refl
calm_sends_nothing (actions.Close why) calm = refl
calm_sends_nothing (actions.Stop why) calm = refl
calm_sends_nothing o calm = absurd calm

-- nor does the end of a connection or of the run
end_sends_nothing : (o : Action) → IsEnd o → requests_by o ≡ 0
end_sends_nothing (actions.Close why) end = refl
end_sends_nothing (actions.Stop why) end = refl
end_sends_nothing o end = absurd end

-- by its tests: nothing but what is in flight holds the station back
held_by_tests : (stops between some : Bool) → stops ≡ true → between ≡ true → some ≡ true → ((stops && between) && some) ≡ true
held_by_tests true true true a b c = refl
held_by_tests true true false a b c = cc
held_by_tests true false some a b c = cc
held_by_tests false between some a b c = cc

module _ (plan : Plan) (p : Progress) (w : Waiting) (stops : p.stops ≡ true) (up : is_up p.phase ≡ true) (begun : has_begun p ≡ true) (between : is_between_chains p ≡ true)
    (some : nat_eq w.current 0 ≡ false) where
  -- while something is in flight, the station only waits for it
  waiting_calm : IsCalm (action_waiting plan p w)
  waiting_calm =
      cond_both (is_dead plan p w) (actions.Close cause.Dead) _ IsCalm (λ _. tt)
      (λ _. cond_both (nat_eq w.current 0) actions.Renew (actions.Read Limit) IsCalm (λ e. absurd (both_ways (nat_eq w.current 0) some e)) (λ _. tt))

  -- so it does once it has synchronized
  begun_calm : IsCalm (action_begun plan p w)
  begun_calm =
      cond_both (is_held_back p w) (action_waiting plan p w) _ IsCalm (λ _. waiting_calm)
      (λ free. absurd (both_ways (is_held_back p w) free (held_by_tests p.stops (is_between_chains p) (nat_lt 0 w.current) stops between (lt-ltb 0 w.current (above_zero w.current some)))))

  -- the same in each phase with a connection
  phase_calm : (at : Phase) → p.phase ≡ at → IsCalm (action_of_phase plan at p w)
  phase_calm phase.Down is = absurd (both_ways (is_up p.phase) (ap is_up is) up)
  phase_calm phase.Pausing is = tt
  phase_calm phase.Clearing is = tt
  phase_calm phase.Draining is = cond_both (is_finished w.commands p) (actions.Close cause.Done) (actions.Read Limit) IsCalm (λ _. tt) (λ _. tt)
  phase_calm phase.Ready is =
      cond_both (has_begun p) (action_begun plan p w) (action_beginning plan p w) IsCalm (λ _. begun_calm) (λ begins. absurd (both_ways (has_begun p) begins begun))
  phase_calm (phase.Closing why) is = tt
  phase_calm (phase.Over why) is = tt

  -- a cycle isn't overdue while something is in flight
  flies_if_overdue : is_overdue plan p w ≡ true → ⊥
  flies_if_overdue over =
      let quiet = (and_parts (has_no_time_left plan p) _ over).1 in
      let none = (and_parts (nat_eq w.current 0 && may_abandon p.phase) _ quiet).0 in
      both_ways (nat_eq w.current 0) some (and_parts (nat_eq w.current 0) (may_abandon p.phase) none).0

  -- so the next action is calm
  next_calm : (at : Phase) → p.phase ≡ at → IsCalm (action_in at plan p w)
  next_calm (phase.Closing why) is = tt
  next_calm (phase.Over why) is = tt
  next_calm at is =
      cond_both (nat_eq p.turns 0) _ _ IsCalm (λ e. without_turns (is_up p.phase))
      (λ _. cond_both (is_stale plan p w) (actions.Close cause.Stale) _ IsCalm (λ _. tt)
      (λ _. cond_both (is_stopping p w) (actions.Close cause.Stopped) _ IsCalm (λ _. tt)
      (λ _. cond_both p.clock_due actions.ReadClock _ IsCalm (λ _. tt)
      (λ _. cond_both (is_overdue plan p w) (action_overdue p w) (action_of_phase plan p.phase p w) IsCalm (λ over. absurd (flies_if_overdue over)) (λ _. phase_calm p.phase refl))))) where
        -- without turns the run ends
        without_turns : (connected : Bool) → IsCalm (action_without_turns connected)
        without_turns true = tt
        without_turns false = tt

-- a station without a connection sends no more
down_sends_none : (between up begun : Bool) → up ≡ false → ((between || not up) || not begun) ≡ true
down_sends_none between false begun e = or_left (between || true) (not begun) (or_right between true refl)
down_sends_none between true begun e = cc

-- what is lost, is so where no request follows
pub losing_sends_none : (p : Progress) → loses_all p ≡ true → sends_no_more p ≡ true
losing_sends_none p lost = by_begun (has_begun p) refl where
  -- where the run is over there is no connection
  over_down : (at : Phase) → is_over_in at ≡ true → is_up at ≡ false
  over_down (phase.Over why) e = refl
  over_down phase.Down e = refl
  over_down phase.Pausing e = refl
  over_down phase.Clearing e = cc
  over_down phase.Draining e = cc
  over_down phase.Ready e = cc
  over_down (phase.Closing why) e = cc

  -- nor without turns, where it is over too
  by_over : (over : Bool) → is_over_in p.phase ≡ over → (over || (not (is_up p.phase) && nat_eq p.turns 0)) ≡ true → is_up p.phase ≡ false
  by_over true e f = over_down p.phase e
  by_over false e f = off (is_up p.phase) (and_parts (not (is_up p.phase)) (nat_eq p.turns 0) f).0 where
    -- by the test
    off : (b : Bool) → not b ≡ true → b ≡ false
    off false g = refl
    off true g = cc

  -- the lemma above, whether the station has synchronized
  by_begun : (b : Bool) → has_begun p ≡ b → sends_no_more p ≡ true
  by_begun false e = or_right (is_between_chains p || not (is_up p.phase)) (not (has_begun p)) (ap not e)
  by_begun true e =
      down_sends_none (is_between_chains p) (is_up p.phase) (has_begun p)
      (by_over (is_over_in p.phase) refl (sym (ap (λ (b : Bool). not b || is_over p) e) ∙ lost))

module _ (plan : Plan) (commands : List Task) (s : Model) (act : Act) (stops : s.progress.stops ≡ true) where
  -- the model after an act of this action
  abbrev pub after_is : Action → Model
  after_is o = moved plan commands o (with_progress turned s) act

  -- the end of a connection, or of the run, leaves no connection
  end_sends_none : (o : Action) → IsEnd o → Performs commands s o act → sends_no_more (after_is o).progress ≡ true
  end_sends_none (actions.Close why) end obeys =
      down_sends_none (is_between_chains (after_is (actions.Close why)).progress) (is_up (after_is (actions.Close why)).progress.phase) (has_begun (after_is (actions.Close why)).progress)
      (closed_down plan (waiting_of (with_progress turned s)) why (turned s.progress))
  end_sends_none (actions.Stop why) end obeys = absurd obeys
  end_sends_none o end obeys = absurd end

  -- between two chains a calm action leaves the station there, or without a connection
  calm_sends_none : (o : Action) → IsCalm o → Performs commands s o act → is_between_chains s.progress ≡ true → sends_no_more (after_is o).progress ≡ true
  calm_sends_none (actions.Close why) calm obeys between = end_sends_none (actions.Close why) tt obeys
  calm_sends_none (actions.Stop why) calm obeys between = absurd obeys
  calm_sends_none actions.ReadClock calm obeys between =
      or_left _ _ (or_left _ _ (ap (λ (x : Model). is_between_chains x.progress) (moved_changed plan commands actions.ReadClock (with_progress turned s) act) ∙ between))
  calm_sends_none actions.Clear calm obeys between =
      or_left _ _ (or_left _ _ (ap (λ (x : Model). is_between_chains x.progress) (moved_changed plan commands actions.Clear (with_progress turned s) act) ∙ between))
  calm_sends_none (actions.Read until) calm obeys between =
      or_left _ _ (or_left _ _ (ap (λ (x : Model). is_between_chains x.progress) (moved_changed plan commands (actions.Read until) (with_progress turned s) act) ∙ between))
  calm_sends_none o calm obeys between = absurd calm

  -- where no request follows, the next act sends none, and none follows it
  pub none_follows : sends_no_more s.progress ≡ true → Performs commands s (action_at plan s) act
      → (requests_by (action_at plan s) ≡ 0) × (sends_no_more (after_is (action_at plan s)).progress ≡ true)
  none_follows over obeys = by_rest (is_resting s.progress (waiting_of s)) refl where
    -- by the tests
    is_between : (between up begun : Bool) → up ≡ true → begun ≡ true → ((between || not up) || not begun) ≡ true → between ≡ true
    is_between true up begun a b c = refl
    is_between false true true a b c = cc
    is_between false false begun a b c = cc
    is_between false true false a b c = cc

    -- the lemma above, whether the run may end here
    by_rest : (b : Bool) → is_resting s.progress (waiting_of s) ≡ b → (requests_by (action_at plan s) ≡ 0) × (sends_no_more (after_is (action_at plan s)).progress ≡ true)
    by_rest true e =
        let end = ends_there plan s.progress (waiting_of s) s.progress.phase (ap (λ (b : Bool). b && is_resting s.progress (waiting_of s)) stops ∙ e) in
        (end_sends_nothing (action_at plan s) end, end_sends_none (action_at plan s) end obeys)
    by_rest false e =
        let parts = resting_parts _ _ _ _ _ e in
        let between = is_between (is_between_chains s.progress) (is_up s.progress.phase) (has_begun s.progress) parts.0 parts.1 over in
        let calm = next_calm plan s.progress (waiting_of s) stops parts.0 parts.1 between (parts.2 between) s.progress.phase refl in
        (calm_sends_nothing (action_at plan s) calm, calm_sends_none (action_at plan s) calm obeys between)
