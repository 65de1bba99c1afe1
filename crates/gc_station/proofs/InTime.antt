-- Requests are sent only in time: while the cycle isn't out of time, if the end of the run wasn't asked for, or by a setup that goes on
-- (`SettingUp`). So what is in flight has timed out in time (`TimesOut`). An act is one call on the link, with its result.
use Rattle.gc_station.proofs.Common.{◌≡◌, ◌⊎◌, inl, inr, ℕ, suc, ◌+◌, ◌*◌, ◌-◌, ◌<◌, ◌≤◌, ◌&&◌, ◌||◌, Bool, true, false, not, if◌then◌else◌, List, [], ◌∷◌, ◌++◌, length, take, nat_lt, nat_le, nat_eq, refl, sym, ap, ◌∙◌, subst, arith, ltb-true, leb-false, eqb-true, eq-eqb, and_parts, cond_both, both_ways, false_from_ne_true, nat_tests, suc-mul, mul-le-mul_right, AllByRecursion, Task, Act, Told, Gave, Silent, Opened, MayTakeTime, CallsReturn, ClockRises, has_begun, load_of, the_choices, is_between_chains, setup_permits, is_out_of_time, waits_out, is_overdue, is_stale, is_stopping, is_held_back, is_preparing, is_finished, is_up, may_abandon, waits_for_all, action_in, action_on, action_overdue, action_of_phase, action_without_turns, action_begun, action_beginning, action_waiting, action_preparing, action_in_setup, action_cycle, action_held, action_settled, action_done, Model, opening, action_at, waiting_of, with_rest, with_progress, moved, after, Performs, Runs, turned, IsAsking, HoldsBefore, last_well, raw_count, raws_of_setup, state_after, Scope, latest, asked_after, Plan, Action, Phase, Progress, Due, Waiting, synchronizing_chosen, waiting_chosen}
use Rattle.gc_station.specs.Deciding.{is_idle}
use Rattle.gc_station.proofs.Always.{always, always_of_progress}
use Rattle.gc_station.proofs.BehindRaw.{raws_within}
use Rattle.gc_station.proofs.CallTimes.{IsTimely, SentBefore, sent_last, timely, calls_front}
use Rattle.gc_station.proofs.Counts.{with_losses_progress}
use Rattle.gc_station.proofs.Cycles.{Begun, begun_if_clock_rises, rises_here}
use Rattle.gc_station.proofs.EachRun.{invariant_holds}
use Rattle.gc_station.proofs.Facts.{action_for}
use Rattle.gc_station.proofs.InCycle.{not_zero}
use Rattle.gc_station.proofs.InFlight.{TimesOut, out_moved, out_losses}
use Rattle.gc_station.proofs.SettingUp.{sets_moved}
use Rattle.gc_station.proofs.UnderWay.{SettingUp, not_permitted, some_unsent, soon_if_well, sets_losses}
use Rattle.gc_station.proofs.Stopping.{asked-append, stops_as_asked}
use Rattle.gc_station.proofs.Ticking.{rises_front}
use Rattle.gc_station.proofs.Unbroken.{not_preparing_after_send}
use Rattle.gc_station.proofs.Walk.{closed_along, moved_changed}
use Rattle.gc_station.proofs.Beginnings.{asking_begun}
use Rattle.gc_station.specs.declared.cause.Cause.TheVariants as cause
use Rattle.gc_station.specs.declared.progress.Action.TheVariants as actions
use Rattle.gc_station.specs.declared.progress.Phase.TheVariants as phase

-- Which actions send a request.

module _ (plan : Plan) (p : Progress) (w : Waiting) where
  -- the action sends no request of the client
  abbrev Mum : Action → Type 0
  Mum next = IsAsking next → ⊥

  -- if the action sends a request of the client, the cycle isn't out of time
  abbrev Punctual : Action → Type 0
  Punctual next = IsAsking next → is_out_of_time plan p ≡ false

  -- no action of a station that waits sends a request
  waiting_mum : Mum (action_waiting plan p w)
  waiting_mum = waiting_chosen the_choices (load_of plan p w) p.exchange Mum (λ o. o) (λ o. o) (λ o. o)

  -- no action of a cycle that is overdue sends a request
  overdue_mum : Mum (action_overdue p w)
  overdue_mum =
      cond_both (nat_lt 0 w.commands) actions.Renew _ Mum (λ e o. o)
      (λ e. cond_both (nat_eq p.unsent 0) actions.Begin _ Mum (λ e o. o) (λ e. cond_both (nat_lt 0 p.next_others) actions.Pass actions.Skip Mum (λ e o. o) (λ e o. o)))

  -- no action of a synchronization is a request of the client
  beginning_mum : Mum (action_beginning plan p w)
  beginning_mum =
      cond_both (is_finished w.commands p) (actions.Close cause.Done) _ Mum (λ e o. o)
      (λ e. cond_both (is_idle plan p) (actions.Read Due) _ Mum (λ e o. o)
      (λ e. synchronizing_chosen the_choices (load_of plan p w) p.exchange Mum (λ o. o) (λ o. o) (λ o. o)))

  -- once all is done, no action of a cycle sends a request
  finished_mum : is_finished w.commands p ≡ true → Mum (action_cycle plan p w)
  finished_mum done =
      let it = and_parts (nat_eq p.left 0 && nat_eq p.unsent 0) (nat_eq w.commands 0) done in
      let both = and_parts (nat_eq p.left 0) (nat_eq p.unsent 0) it.0 in
      let left = both.0 in
      let sent = both.1 in
      let settled = it.1 in
      let unsent = eqb-true p.unsent 0 sent in
      cond_both (nat_lt 0 p.unsent && not (waits_for_all p)) _ (action_held plan p w) Mum
      (λ some. let here = ltb-true 0 p.unsent (and_parts (nat_lt 0 p.unsent) (not (waits_for_all p)) some).0 in absurd (omega (arith, here, unsent)))
      (λ none. cond_both (nat_eq w.commands 0) (action_settled plan p w) _ Mum
      (λ e. cond_both (nat_eq p.unsent 0) (action_done plan p) _ Mum
      (λ e. cond_both (nat_eq p.left 0) (actions.Close cause.Done) _ Mum (λ e o. o) (λ e. absurd (both_ways (nat_eq p.left 0) e left)))
      (λ e. absurd (both_ways (nat_eq p.unsent 0) e sent)))
      (λ e. absurd (both_ways (nat_eq w.commands 0) e settled)))

  -- once all is done, no action of a setup sends a request
  finished_prepares_none : is_finished w.commands p ≡ true → Mum (action_preparing plan p w)
  finished_prepares_none done =
      cond_both (nat_eq p.prepared 0) _ (action_in_setup plan p w) Mum
      (λ _. cond_both (is_finished w.commands p) (actions.Close cause.Done) _ Mum (λ e o. o) (λ e. absurd (both_ways (is_finished w.commands p) e done)))
      (λ _. cond_both (is_finished w.commands p) (actions.Close cause.Done) _ Mum (λ e o. o) (λ e. absurd (both_ways (is_finished w.commands p) e done)))

  -- while commands of a setup are in flight, none of its actions sends a request
  flying_prepares_none : nat_eq p.prepared 0 ≡ false → nat_eq w.commands 0 ≡ false → nat_eq w.current 0 ≡ false → Mum (action_preparing plan p w)
  flying_prepares_none sent some flies =
      cond_both (nat_eq p.prepared 0) _ (action_in_setup plan p w) Mum (λ e. absurd (both_ways (nat_eq p.prepared 0) sent e))
      (λ _. cond_both (is_finished w.commands p) (actions.Close cause.Done) _ Mum (λ e o. o)
      (λ _. cond_both (nat_eq w.commands 0) _ _ Mum (λ e. absurd (both_ways (nat_eq w.commands 0) some e))
      (λ _. cond_both (nat_eq w.current 0) _ (action_waiting plan p w) Mum (λ e. absurd (both_ways (nat_eq w.current 0) flies e)) (λ _. waiting_mum))))

  module _ (going : p.stops ≡ false) (permits : setup_permits plan p w ≡ true) where
    -- by the tests of `is_overdue`: the cycle isn't out of time, or all is done, if it isn't overdue, and nothing is in flight, in the
    -- phase `Ready`, once the station has synchronized
    out_of_time_or_finished : (missed late none there begun settled done : Bool)
        → ((missed || (late && not p.stops)) && ((none && there) && (setup_permits plan p w && ((begun || settled) && not done)))) ≡ false
        → none ≡ true → there ≡ true → begun ≡ true → (late ≡ false) ⊎ (done ≡ true)
    out_of_time_or_finished missed late none there begun settled done e n t b =
        by_tests missed late none there p.stops (setup_permits plan p w) begun done going permits n t b e where
          -- the lemma above, by each test
          by_tests : (missed late none there stops permits begun done : Bool) → stops ≡ false → permits ≡ true → none ≡ true → there ≡ true → begun ≡ true
              → ((missed || (late && not stops)) && ((none && there) && (permits && ((begun || settled) && not done)))) ≡ false → (late ≡ false) ⊎ (done ≡ true)
          by_tests missed false none there stops permits begun done g r n t b e = inl refl
          by_tests missed true none there stops permits begun true g r n t b e = inr refl
          by_tests true true true true false true true false g r n t b e = cc
          by_tests false true true true false true true false g r n t b e = cc
          by_tests missed true false there stops permits begun false g r n t b e = cc
          by_tests missed true true false stops permits begun false g r n t b e = cc
          by_tests missed true true true true permits begun false g r n t b e = cc
          by_tests missed true true true false false begun false g r n t b e = cc
          by_tests missed true true true false true false false g r n t b e = cc

    -- in the phase `Ready`, a request is sent only if the cycle isn't out of time, unless it is overdue
    begun_punctual : p.phase ≡ phase.Ready → has_begun p ≡ true → is_overdue plan p w ≡ false → Punctual (action_begun plan p w)
    begun_punctual is begun over =
        cond_both (is_held_back p w) (action_waiting plan p w) _ Punctual (λ e o. absurd (waiting_mum o))
        (λ e. cond_both (waits_out plan p w) (action_waiting plan p w) (if is_preparing plan p w then action_preparing plan p w else action_cycle plan p w) Punctual (λ e o. absurd (waiting_mum o))
        (λ uncut. cond_both (is_preparing plan p w) (action_preparing plan p w) (action_cycle plan p w) Punctual (λ on. uncut_prepares uncut on) (λ e. uncut_punctual uncut e))) where
          -- if nothing is cut, a command of the setup is sent only in time
          uncut_prepares : waits_out plan p w ≡ false → is_preparing plan p w ≡ true → Punctual (action_preparing plan p w)
          uncut_prepares uncut on o = by_current (nat_eq w.current 0) refl where
            -- the lemma above, whether nothing is in flight that hasn't timed out
            by_current : (b : Bool) → nat_eq w.current 0 ≡ b → is_out_of_time plan p ≡ false
            by_current true none = by_case (out_of_time_or_finished (p.missed && nat_lt 0 p.unsent) (is_out_of_time plan p) (nat_eq w.current 0) (may_abandon p.phase) (has_begun p) (nat_eq w.commands 0) (is_finished w.commands p) over none
                (ap may_abandon is) begun) where
                  -- by whether the cycle is in time, or all is done
                  by_case : ((is_out_of_time plan p ≡ false) ⊎ (is_finished w.commands p ≡ true)) → is_out_of_time plan p ≡ false
                  by_case (inl punctual) = punctual
                  by_case (inr done) = absurd (finished_prepares_none done o)
            by_current false some = false_from_ne_true (is_out_of_time plan p) (λ late.
                let it = by_tests (is_out_of_time plan p) (nat_lt 0 w.current) (is_preparing plan p w) (nat_eq p.prepared 0) (nat_lt 0 w.commands) late (grind (arith, nat_tests, some)) on uncut permits in
                flying_prepares_none it.0 (grind (arith, nat_tests, it.1)) some o) where
                  -- by the tests of `waits_out` and `setup_permits`
                  by_tests : (late some preparing zero_sent waits : Bool) → late ≡ true → some ≡ true → preparing ≡ true → ((late && some) && (not preparing || zero_sent)) ≡ false
                      → (not preparing || (zero_sent || waits)) ≡ true → (zero_sent ≡ false) × (waits ≡ true)
                  by_tests true true true false true l s r e f = (refl, refl)
                  by_tests false some preparing zero_sent waits l s r e f = cc
                  by_tests true false preparing zero_sent waits l s r e f = cc
                  by_tests true true false zero_sent waits l s r e f = cc
                  by_tests true true true true waits l s r e f = cc
                  by_tests true true true false false l s r e f = cc

          -- if nothing is cut, a command of the cycle is sent only in time
          uncut_punctual : waits_out plan p w ≡ false → is_preparing plan p w ≡ false → Punctual (action_cycle plan p w)
          uncut_punctual uncut ready o = by_current (nat_eq w.current 0) refl where
            -- the lemma above, whether nothing is in flight that hasn't timed out
            by_current : (b : Bool) → nat_eq w.current 0 ≡ b → is_out_of_time plan p ≡ false
            by_current true none = by_case (out_of_time_or_finished (p.missed && nat_lt 0 p.unsent) (is_out_of_time plan p) (nat_eq w.current 0) (may_abandon p.phase) (has_begun p) (nat_eq w.commands 0) (is_finished w.commands p) over none
                (ap may_abandon is) begun) where
                  -- by whether the cycle is in time, or all is done
                  by_case : ((is_out_of_time plan p ≡ false) ⊎ (is_finished w.commands p ≡ true)) → is_out_of_time plan p ≡ false
                  by_case (inl punctual) = punctual
                  by_case (inr done) = absurd (finished_mum done o)
            by_current false some = false_from_ne_true (is_out_of_time plan p) (λ late. both_ways (waits_out plan p w) uncut
                (by_tests (is_out_of_time plan p) (nat_lt 0 w.current) (is_preparing plan p w) (nat_eq p.prepared 0) late (grind (arith, nat_tests, some)) ready)) where
                  -- by the tests of `waits_out`
                  by_tests : (late some preparing zero_sent : Bool) → late ≡ true → some ≡ true → preparing ≡ false → ((late && some) && (not preparing || zero_sent)) ≡ true
                  by_tests true true false z l s r = refl
                  by_tests false some preparing z l s r = cc
                  by_tests true false preparing z l s r = cc
                  by_tests true true true z l s r = cc

    -- a request is sent only if the cycle isn't out of time
    on_punctual : p.phase ≡ phase.Ready → has_begun p ≡ true → Punctual (action_on plan p w)
    on_punctual is begun =
        cond_both (nat_eq p.turns 0) _ _ Punctual (λ e. without_turns (is_up p.phase))
        (λ e. cond_both (is_stale plan p w) (actions.Close cause.Stale) _ Punctual (λ e o. absurd o)
        (λ e. cond_both (is_stopping p w) (actions.Close cause.Stopped) _ Punctual (λ e o. absurd o)
        (λ e. cond_both p.clock_due actions.ReadClock _ Punctual (λ e o. absurd o)
        (λ e. cond_both (is_overdue plan p w) (action_overdue p w) (action_of_phase plan p.phase p w) Punctual (λ e o. absurd (overdue_mum o))
        (λ over. subst (λ (at : Phase). Punctual (action_of_phase plan at p w)) (sym is)
        (cond_both (has_begun p) (action_begun plan p w) (action_beginning plan p w) Punctual (λ b. begun_punctual is begun over) (λ b o. absurd (beginning_mum o)))))))) where
          -- without turns no request is sent
          without_turns : (up : Bool) → Punctual (action_without_turns up)
          without_turns true o = absurd o
          without_turns false o = absurd o

-- a request of the client is sent only in the phase `Ready`
asking_ready : (plan : Plan) (p : Progress) (w : Waiting) (o : Action) → IsAsking o → HoldsBefore plan p w o → p.phase ≡ phase.Ready
asking_ready plan p w actions.Prepare asks needs = needs.0
asking_ready plan p w actions.Send asks needs = needs.0
asking_ready plan p w actions.Flush asks needs = needs.0
asking_ready plan p w o asks needs = absurd asks

-- if the next action sends a request of the client, the end of the run wasn't asked for, and the setup lets the cycle be abandoned, the
-- cycle isn't out of time
pub sent_punctual : (plan : Plan) (s : Model) → s.progress.stops ≡ false → setup_permits plan s.progress (waiting_of s) ≡ true → IsAsking (action_at plan s) → is_out_of_time plan s.progress ≡ false
sent_punctual plan s going permits asks =
    let p = s.progress in
    let w = waiting_of s in
    let needs = action_for plan p w in
    let is = asking_ready plan p w (action_at plan s) asks needs in
    on_punctual plan p w going permits is (asking_begun plan s (action_at plan s) asks needs)
    (subst IsAsking (ap (λ (at : Phase). action_in at plan p w) is) asks)

-- Without a setup the station never prepares.

module _ (plan : Plan) (commands : List Task) (none : plan.setup ≡ 0) where
  -- there is no setup, by its test
  no_setup : nat_lt 0 plan.setup ≡ false
  no_setup = ap (λ (n : ℕ). nat_lt 0 n) none

  -- an act of each action leaves a station that doesn't prepare so
  never_moved : (s : Model) (o : Action) (act : Act) → s.progress.preparing ≡ false → (moved plan commands o (with_progress turned s) act).progress.preparing ≡ false
  never_moved s actions.Send act was = not_preparing_after_send plan commands (with_progress turned s) act
  never_moved s actions.Renew (Told m) was = no_setup
  never_moved s actions.Renew act was = was
  never_moved s actions.Begin (Told m) was = ap (λ (b : Bool). b && nat_eq s.progress.prepared 0) was
  never_moved s actions.Begin act was = was
  never_moved s actions.Skip (Told m) was = ap (λ (b : Bool). b && nat_eq s.progress.prepared 0) was
  never_moved s actions.Skip act was = was
  never_moved s actions.Pass (Told m) was = ap (λ (b : Bool). b && nat_eq s.progress.prepared 0) was
  never_moved s actions.Pass act was = was
  never_moved s actions.Open Opened was = was
  never_moved s actions.Open act was = no_setup
  never_moved s (actions.Close why) act was =
      closed_along (λ (q : Progress). q.preparing ≡ false) plan (waiting_of (with_rest [] (with_progress turned s))) why (turned s.progress) was no_setup
  never_moved s o act was = ap (λ (x : Model). x.progress.preparing) (moved_changed plan commands o (with_progress turned s) act) ∙ was

  -- without a setup a station never prepares
  pub never_prepares : (scope : Scope) (acts : List Act) → Runs plan commands (opening plan scope) acts → (state_after plan commands scope acts).progress.preparing ≡ false
  never_prepares scope acts runs =
      always_of_progress plan commands (opening plan scope) (λ (p : Progress) (done : List Act). p.preparing ≡ false)
      (λ done act runs' o was. never_moved (state_after plan commands scope done) (action_at plan (state_after plan commands scope done)) act was) no_setup acts runs

-- once the end of the run was asked for, it stays so
pub asked_stays : (act : Act) → asked_after true (act ∷ []) ≡ true
asked_stays (Told m) = refl
asked_stays (Gave bytes m) = refl
asked_stays (Silent m) = refl
asked_stays act = refl

-- if the end of the run wasn't asked for by the last of these acts, it wasn't before
asked_front : (done : List Act) (act : Act) → asked_after false (done ++ act ∷ []) ≡ false → asked_after false done ≡ false
asked_front done act e = false_from_ne_true (asked_after false done) (λ asked. both_ways (asked_after false (done ++ act ∷ [])) e
    (asked-append false done (act ∷ []) ∙ ap (λ (b : Bool). asked_after b (act ∷ [])) asked ∙ asked_stays act))

-- a cycle that isn't out of time began less than two periods ago
pub short_if_punctual : (plan : Plan) (p : Progress) → 0 < plan.every → is_out_of_time plan p ≡ false → p.moment.elapsed - p.began < 2 * plan.every
short_if_punctual plan p some e =
    let past = second_false plan.every (nat_le plan.every ((p.moment.elapsed - p.began) - plan.every)) some e in
    let short = leb-false plan.every ((p.moment.elapsed - p.began) - plan.every) past in
    omega (arith, short, some) where
      -- where cycles have due moments, the second test fails
      second_false : (every : ℕ) (b : Bool) → 0 < every → (nat_lt 0 every && b) ≡ false → b ≡ false
      second_false every false some e = refl
      second_false every true some e = grind (arith, nat_tests, some, e)

-- What may take its time in the middle of a setup.

-- no overdue action may take its time
pub overdue_takes_no_time : (p : Progress) (w : Waiting) → MayTakeTime (action_overdue p w) → ⊥
overdue_takes_no_time p w on =
    cond_both (nat_lt 0 w.commands) actions.Renew _ Off (λ e o. o)
    (λ e. cond_both (nat_eq p.unsent 0) actions.Begin _ Off (λ e o. o) (λ e. cond_both (nat_lt 0 p.next_others) actions.Pass actions.Skip Off (λ e o. o) (λ e o. o))) on where
      -- the action may not take its time
      Off : Action → Type 0
      Off next = MayTakeTime next → ⊥

module _ (plan : Plan) (p : Progress) (w : Waiting) (going : p.stops ≡ false) (on : is_preparing plan p w ≡ true) (sent : 0 < p.prepared) (none : w.commands ≡ 0) where
  -- if the action may take its time, the last command of the setup was answered well
  abbrev IfWell : Action → Type 0
  IfWell next = MayTakeTime next → w.well ≡ true

  -- of a setup of which all that was sent is settled, the next command is sent only if the last one was answered well
  setup_if_well : IfWell (action_preparing plan p w)
  setup_if_well =
      cond_both (nat_eq p.prepared 0) _ (action_in_setup plan p w) IfWell (λ e. let none : p.prepared ≡ 0 = eqb-true p.prepared 0 e in absurd (omega (arith, none, sent)))
      (λ _. cond_both (is_finished w.commands p) (actions.Close cause.Done) _ IfWell (λ _ o. absurd o)
      (λ _. cond_both (nat_eq w.commands 0) _ _ IfWell (λ _. cond_both w.well _ (actions.Close cause.SetUp) IfWell (λ well o. well) (λ _ o. absurd o))
      (λ e. absurd (both_ways (nat_eq w.commands 0) e (eq-eqb w.commands 0 none)))))

  -- the same of each action of a station that has synchronized
  begun_if_well : IfWell (action_begun plan p w)
  begun_if_well =
      cond_both (is_held_back p w) (action_waiting plan p w) _ IfWell
      (λ e. absurd (both_ways p.stops going (and_parts p.stops (is_between_chains p) (and_parts (p.stops && is_between_chains p) (nat_lt 0 w.current) e).0).0))
      (λ e. cond_both (waits_out plan p w) (action_waiting plan p w) (if is_preparing plan p w then action_preparing plan p w else action_cycle plan p w) IfWell
      (λ cut. absurd (goes_on (is_preparing plan p w) (nat_eq p.prepared 0) on (not_zero p.prepared sent) (and_parts (is_out_of_time plan p && nat_lt 0 w.current) (not (is_preparing plan p w) || nat_eq p.prepared 0) cut).1))
      (λ _. cond_both (is_preparing plan p w) (action_preparing plan p w) (action_cycle plan p w) IfWell (λ _. setup_if_well) (λ ready. absurd (both_ways (is_preparing plan p w) ready on)))) where
        -- a setup of which something was sent isn't cut
        goes_on : (preparing none : Bool) → preparing ≡ true → none ≡ false → (not preparing || none) ≡ true → ⊥
        goes_on true false a b e = cc
        goes_on false none a b e = cc
        goes_on true true a b e = cc

  -- the same of each action in the phase `Ready`
  pub slow_if_well : p.phase ≡ phase.Ready → has_begun p ≡ true → MayTakeTime (action_in phase.Ready plan p w) → w.well ≡ true
  slow_if_well is begun =
      cond_both (nat_eq p.turns 0) _ _ IfWell (λ e. without_turns (is_up p.phase))
      (λ e. cond_both (is_stale plan p w) (actions.Close cause.Stale) _ IfWell (λ e o. absurd o)
      (λ e. cond_both (is_stopping p w) (actions.Close cause.Stopped) _ IfWell (λ e o. absurd o)
      (λ e. cond_both p.clock_due actions.ReadClock _ IfWell (λ e o. absurd o)
      (λ e. cond_both (is_overdue plan p w) (action_overdue p w) (action_of_phase plan p.phase p w) IfWell (λ e o. absurd (overdue_takes_no_time p w o))
      (λ over. subst (λ (at : Phase). IfWell (action_of_phase plan at p w)) (sym is)
      (cond_both (has_begun p) (action_begun plan p w) (action_beginning plan p w) IfWell (λ b. begun_if_well) (λ b. absurd (both_ways (has_begun p) b begun)))))))) where
        -- without turns no action takes its time
        without_turns : (up : Bool) → IfWell (action_without_turns up)
        without_turns true o = absurd o
        without_turns false o = absurd o

-- an action that sends a request of the client may take its time
asking_slow : (o : Action) → IsAsking o → MayTakeTime o
asking_slow actions.Prepare asks = tt
asking_slow actions.Send asks = tt
asking_slow actions.Flush asks = tt
asking_slow o asks = absurd asks

module _ (plan : Plan) (commands : List Task) (scope : Scope) (longest call : ℕ) (some : 0 < plan.every) (listed : plan.setup ≤ length commands) (few : plan.deadline ≤ longest)
    (all_few : AllByRecursion (λ (task : Task). task.deadline ≤ longest) commands) where
  -- how long a null procedure may take that is lost
  abbrev pub turn : ℕ
  turn = longest + call

  -- how long those behind a raw command of the setup may take together
  abbrev pub loss : ℕ
  loss = 7 * (longest + call)

  -- how long after the moment at which the cycle is out of time a request may have its deadline
  abbrev pub span : ℕ
  span = (longest + plan.setup * longest) + raws_of_setup plan commands * loss

  -- the setup has no raw commands, or calls return
  abbrev pub ReturnIfRaw : List Act → Type 0
  ReturnIfRaw acts = (raws_of_setup plan commands ≡ 0) ⊎ CallsReturn plan commands scope call acts

  -- what holds of a run and of the model after it: what is in flight times out in time, a setup goes on, and the moment is out of date only
  -- behind a request
  abbrev KeepsTime : List Act → Model → Type 0
  KeepsTime done t = TimesOut plan longest span t × SettingUp plan longest call turn loss commands t × SentBefore plan commands scope call done t

  -- so it is after every run whose end wasn't asked for, if the clock doesn't go back, and calls return where the setup has raw commands
  keeps_time : (acts : List Act) → Runs plan commands (opening plan scope) acts → ClockRises 0 acts → ReturnIfRaw acts → asked_after false acts ≡ false
      → KeepsTime acts (state_after plan commands scope acts)
  keeps_time acts runs rises returns unasked =
      always plan commands (opening plan scope) (λ (done : List Act) (t : Model). ClockRises 0 done → ReturnIfRaw done → asked_after false done ≡ false → KeepsTime done t) step
      (λ r c a. ((omega arith, tt, λ e. tt, tt), (λ on sent. absurd (omega (arith, sent)), λ ready on sent. absurd (omega (arith, sent))), λ due ready begun. cc)) acts runs rises returns unasked where
        -- each act preserves it
        step : (done : List Act) (act : Act) → Runs plan commands (opening plan scope) done → Performs commands (state_after plan commands scope done) (action_at plan (state_after plan commands scope done)) act
            → (ClockRises 0 done → ReturnIfRaw done → asked_after false done ≡ false → KeepsTime done (state_after plan commands scope done))
            → ClockRises 0 (done ++ act ∷ []) → ReturnIfRaw (done ++ act ∷ []) → asked_after false (done ++ act ∷ []) ≡ false
            → KeepsTime (done ++ act ∷ []) (after plan commands (state_after plan commands scope done) act)
        step done act runs' o h rises' returns' unasked' = (
          out_losses plan longest span commands few all_few t (out_moved plan longest span commands few all_few s next act o (λ asks. early asks) it.0 here),
          sets_losses plan longest call turn loss commands t (
              sets_moved plan longest call turn loss commands span few all_few listed (omega arith) (omega arith) s act (invariant_holds plan commands scope done).paired it.0 it.1 next o needs punctual answered here
              (λ raw ready begun. by_raw raw ready begun returns')),
          λ due ready begun.
              let same = with_losses_progress t in (
                done,
                act,
                refl,
                sent_last plan commands s next act o (sym (ap (λ (p : Progress). p.clock_due) same) ∙ due) (sym (ap (λ (p : Progress). p.phase) same) ∙ ready)
                    (sym (ap has_begun same) ∙ begun),
              ),
        ) where
          -- the model before the act
          s : Model
          s = state_after plan commands scope done

          -- the next action
          next : Action
          next = action_at plan s

          -- the model after the act, before what is outstanding is lost
          t : Model
          t = moved plan commands next (with_progress turned s) act

          -- the conditions of the action hold
          needs : HoldsBefore plan s.progress (waiting_of s) next
          needs = action_for plan s.progress (waiting_of s)

          -- all holds before the act
          it : KeepsTime done s
          it = h (rises_front 0 done act rises') (returns_front returns') (asked_front done act unasked') where
            -- calls return before the act
            returns_front : ReturnIfRaw (done ++ act ∷ []) → ReturnIfRaw done
            returns_front (inl none) = inl none
            returns_front (inr calls) = inr (calls_front plan commands scope call done (act ∷ []) calls)

          -- how the clock goes up to here
          clock : (s.progress.moment.elapsed ≡ latest 0 done) × Begun plan commands scope some done s.progress
          clock = begun_if_clock_rises plan commands scope some done runs' (rises_front 0 done act rises')

          -- the clock doesn't go back at the act
          here : ClockRises s.progress.moment.elapsed (act ∷ [])
          here = rises_here plan commands scope some done act rises' clock.0

          -- where the setup has raw commands, the call returns in time
          by_raw : 0 < raws_of_setup plan commands → s.progress.phase ≡ phase.Ready → has_begun s.progress ≡ true → ReturnIfRaw (done ++ act ∷ []) → IsTimely plan s call next act
          by_raw raw ready begun (inl none) = absurd (omega (arith, raw, none))
          by_raw raw ready begun (inr calls) = timely plan commands scope call done act calls clock.0 it.2 ready begun

          -- the end of the run wasn't asked for
          going : s.progress.stops ≡ false
          going = stops_as_asked plan commands scope done runs' ∙ asked_front done act unasked'

          -- a request is sent only in time, unless by a setup that goes on
          punctual : IsAsking next → setup_permits plan s.progress (waiting_of s) ≡ true → s.progress.moment.elapsed - s.progress.began < 2 * plan.every
          punctual asks permits = short_if_punctual plan s.progress some (sent_punctual plan s going permits asks)

          -- such a setup goes on only as its last command was answered well
          answered : IsAsking next → setup_permits plan s.progress (waiting_of s) ≡ false → last_well false s.records ≡ true
          answered asks e =
              let setup = not_permitted plan s.progress (waiting_of s) e in
              let ready = asking_ready plan s.progress (waiting_of s) next asks needs in
              slow_if_well plan s.progress (waiting_of s) going setup.0 setup.1 setup.2 ready (asking_begun plan s next asks needs)
              (subst MayTakeTime (ap (λ (at : Phase). action_in at plan s.progress (waiting_of s)) ready) (asking_slow next asks))

          -- so its deadline is early enough
          early : IsAsking next → s.progress.moment.elapsed + longest ≤ (s.progress.began + 2 * plan.every) + span
          early asks = by_test (setup_permits plan s.progress (waiting_of s)) refl where
            -- the lemma above, whether the setup lets the cycle be abandoned
            by_test : (b : Bool) → setup_permits plan s.progress (waiting_of s) ≡ b → s.progress.moment.elapsed + longest ≤ (s.progress.began + 2 * plan.every) + span
            by_test true e =
                let short = punctual asks e in
                let past = it.0.0 in
                omega (arith, short, past)
            by_test false e =
                let setup = not_permitted plan s.progress (waiting_of s) e in
                let well = answered asks e in
                let left = some_unsent plan s.progress (waiting_of s) setup.0 setup.2 well in
                let soon = soon_if_well plan longest call turn loss commands s it.1 (asking_ready plan s.progress (waiting_of s) next asks needs) setup well in
                let more = suc-mul s.progress.prepared longest in
                let most : suc s.progress.prepared * longest ≤ plan.setup * longest = mul-le-mul_right longest left in
                let raws : raw_count (take s.progress.prepared (take (plan.setup - 1) commands)) * loss ≤ raws_of_setup plan commands * loss =
                mul-le-mul_right loss (raws_within s.progress.prepared (take (plan.setup - 1) commands)) in
                omega (arith, soon, more, most, raws)

  -- `TimesOut` and `SettingUp` hold after every such run
  pub times_out : (acts : List Act) → Runs plan commands (opening plan scope) acts → ClockRises 0 acts → ReturnIfRaw acts → asked_after false acts ≡ false
      → TimesOut plan longest span (state_after plan commands scope acts) × SettingUp plan longest call turn loss commands (state_after plan commands scope acts)
  times_out acts runs rises returns unasked = let it = keeps_time acts runs rises returns unasked in (it.0, it.1)
