-- Each due cycle is recorded in time, whatever the line does. An act is one call on the link, with its result.
use Rattle.gc_station.proofs.Common.{◌≡◌, ◌⊎◌, inl, inr, ℕ, suc, ◌+◌, ◌*◌, ◌-◌, ◌<◌, ◌≤◌, ◌&&◌, ◌||◌, Bool, true, false, not, if◌then◌else◌, List, [], ◌∷◌, ◌++◌, length, map, take, nat_lt, nat_le, nat_eq, refl, sym, ap, ◌∙◌, subst, arith, append-nil, ltb-true, ltb-false, leb-true, leb-false, eq-eqb, and_parts, cond_both, both_ways, suc-mul, mul-le-mul_right, nil_from_length, Asked, ById, Task, Act, Told, ClockRises, has_begun, lacks_value, is_out_of_time, is_overdue, setup_permits, is_stale, is_stopping, is_preparing, is_finished, is_up, may_abandon, action_in, action_on, action_overdue, action_of_phase, action_without_turns, Interleave, RunRequest, of_record, still_waiting, all_cycles, of_text, commands_in, Model, opening, action_at, waiting_of, with_progress, with_rest, moved, Performs, Runs, turned, cycles_begun, place_next, IsFinished, MayGo, MayRetry, NothingMayGo, AwaitsSettlements, AwaitsReply, AwaitsSomething, MayBeSent, state_after, Scope, AreRecorded, DueOnesAreRecorded, IsInTime, IsUnhindered, RecordsOnceTimedOut, RecordsInTime, ReadsClockBefore, ReadsAwaitSomething, raw_count, raws_of_setup, record_bound, Until, Limit, Due, IsListening, Cause, Plan, Action, Phase, Progress, Waiting}
use Rattle.gc_station.specs.RecordedInTime.{MayTakeTime}
use Rattle.gc_station.proofs.Always.{progress_after_act}
use Rattle.gc_station.proofs.BehindRaw.{raws_within}
use Rattle.gc_station.proofs.CallTimes.{read_if_slow}
use Rattle.gc_station.proofs.Closings.{needs_of, runs_split}
use Rattle.gc_station.proofs.Cycles.{Cycling, begun_if_clock_rises}
use Rattle.gc_station.proofs.Dues.{due_no_earlier}
use Rattle.gc_station.proofs.Each.{row_settled, reached_whole}
use Rattle.gc_station.proofs.EachRun.{invariant_holds}
use Rattle.gc_station.proofs.InCycle.{finished_by_test}
use Rattle.gc_station.proofs.InTime.{times_out, short_if_punctual, never_prepares, overdue_takes_no_time, slow_if_well}
use Rattle.gc_station.proofs.Invariant.{is_before_requests}
use Rattle.gc_station.proofs.Stopping.{stops_as_asked}
use Rattle.gc_station.proofs.UnderWay.{SettingUp, not_permitted, some_unsent, soon_if_well}
use Rattle.gc_station.proofs.Walk.{closed_along, walk}
use Rattle.gc_station.proofs.InFlight.{none_in_flight, TimesOut}
use Rattle.gc_station.specs.declared.cause.Cause.TheVariants as cause
use Rattle.gc_station.specs.declared.progress.Action.TheVariants as actions
use Rattle.gc_station.specs.declared.progress.Phase.TheVariants as phase

-- Which actions are next once the cycle is overdue.

-- if the action of a run that isn't closing or over may take its time, the cycle isn't overdue, and the phase isn't `Clearing`
not_overdue_on : (plan : Plan) (p : Progress) (w : Waiting) → MayTakeTime (action_on plan p w) → is_overdue plan p w ≡ false
not_overdue_on plan p w on =
    cond_both (nat_eq p.turns 0) _ _ Not (λ e. without_turns (is_up p.phase))
    (λ e. cond_both (is_stale plan p w) (actions.Close cause.Stale) _ Not (λ _ o. absurd o)
    (λ _. cond_both (is_stopping p w) (actions.Close cause.Stopped) _ Not (λ _ o. absurd o)
    (λ _. cond_both p.clock_due actions.ReadClock _ Not (λ _ o. absurd o)
    (λ _. cond_both (is_overdue plan p w) (action_overdue p w) (action_of_phase plan p.phase p w) Not (λ _ o. absurd (overdue_takes_no_time p w o)) (λ over o. over))))) on where
      -- if the action may take its time, the cycle isn't overdue
      Not : Action → Type 0
      Not next = MayTakeTime next → is_overdue plan p w ≡ false

      -- without turns no action takes its time
      without_turns : (up : Bool) → Not (action_without_turns up)
      without_turns true o = absurd o
      without_turns false o = absurd o

-- if the action that is next may take its time, the phase is one in which a cycle may be abandoned
may_abandon_there : (plan : Plan) (p : Progress) (w : Waiting) (at : Phase) → p.phase ≡ at → MayTakeTime (action_in at plan p w) → may_abandon at ≡ true
may_abandon_there plan p w phase.Down is on = refl
may_abandon_there plan p w phase.Pausing is on = refl
may_abandon_there plan p w phase.Draining is on = refl
may_abandon_there plan p w phase.Ready is on = refl
may_abandon_there plan p w (phase.Closing why) is on = absurd on
may_abandon_there plan p w (phase.Over why) is on = absurd on
may_abandon_there plan p w phase.Clearing is on = absurd (cleared on) where
  -- the action in the phase `Clearing` doesn't take its time
  cleared : MayTakeTime (action_on plan p w) → ⊥
  cleared =
      let Off = λ (next : Action). MayTakeTime next → ⊥ in
      cond_both (nat_eq p.turns 0) _ _ Off (λ e. without_turns (is_up p.phase))
      (λ e. cond_both (is_stale plan p w) (actions.Close cause.Stale) _ Off (λ _ o. o)
      (λ _. cond_both (is_stopping p w) (actions.Close cause.Stopped) _ Off (λ _ o. o)
      (λ _. cond_both p.clock_due actions.ReadClock _ Off (λ _ o. o)
      (λ _. cond_both (is_overdue plan p w) (action_overdue p w) (action_of_phase plan p.phase p w) Off (λ _ o. overdue_takes_no_time p w o)
      (λ over. subst (λ (x : Phase). MayTakeTime (action_of_phase plan x p w) → ⊥) (sym is) (λ o. o)))))) where
        -- without turns no action takes its time
        without_turns : (up : Bool) → MayTakeTime (action_without_turns up) → ⊥
        without_turns true o = o
        without_turns false o = o

-- if the action that is next may take its time, the cycle isn't overdue
pub not_overdue : (plan : Plan) (p : Progress) (w : Waiting) (at : Phase) → p.phase ≡ at → MayTakeTime (action_in at plan p w) → is_overdue plan p w ≡ false
not_overdue plan p w (phase.Closing why) is on = absurd on
not_overdue plan p w (phase.Over why) is on = absurd on
not_overdue plan p w at is on = not_overdue_on plan p w on

-- by the tests of `is_overdue`: if the cycle isn't overdue, though the end of the run wasn't asked for (`goes`), nothing is in flight
-- (`none`), the phase (`there`) and the setup (`ready`) let it be abandoned, and no command waits that can't be lost (`fits`), it isn't
-- out of time (`late`), or all is done
out_of_time_or_done : (missed late goes none there ready fits done : Bool) → ((missed || (late && goes)) && ((none && there) && (ready && (fits && not done)))) ≡ false
    → none ≡ true → there ≡ true → goes ≡ true → ready ≡ true → fits ≡ true → (late ≡ false) ⊎ (done ≡ true)
out_of_time_or_done missed false goes none there ready fits done e a b c d f = inl refl
out_of_time_or_done missed true goes none there ready fits true e a b c d f = inr refl
out_of_time_or_done true true true true true true true false e a b c d f = cc
out_of_time_or_done false true true true true true true false e a b c d f = cc
out_of_time_or_done missed true goes false there ready fits false e a b c d f = cc
out_of_time_or_done missed true goes true false ready fits false e a b c d f = cc
out_of_time_or_done missed true false true true ready fits false e a b c d f = cc
out_of_time_or_done missed true true true true false fits false e a b c d f = cc
out_of_time_or_done missed true true true true true false false e a b c d f = cc

-- Due moments.

module _ (plan : Plan) (commands : List Task) (scope : Scope) where
  -- the model after these acts
  abbrev at : List Act → Model
  at acts = state_after plan commands scope acts

  -- if no command is unsent or outstanding, all commands of the cycles that began are recorded
  recorded_if_settled : (acts behind : List Act) → (at acts).progress.unsent ≡ 0 → commands_in (at acts).marks ≡ 0
      → AreRecorded plan commands scope (acts ++ behind) (cycles_begun plan (at acts).progress)
  recorded_if_settled acts behind sent settled =
      let s = at acts in
      let n = cycles_begun plan s.progress in
      record {
        before = acts;
        behind = behind;
        order = refl;
        all = subst (λ (xs : List RunRequest). Interleave (of_text commands xs) s.passes (all_cycles plan.setup commands n)) (row_settled s.marks s.client.waiting s.records settled)
            (subst (λ (all : List RunRequest). Interleave (of_text commands (map of_record s.records ++ still_waiting s.marks s.client.waiting)) s.passes all)
            (reached_whole plan.setup commands n (place_next commands s.progress) (omega (arith, sent))) (invariant_holds plan commands scope acts).each);
      }

  -- where a cycle has begun, each one before it is recorded
  pub recorded_earlier : (acts : List Act) (some : 0 < plan.every) → (c : Cycling plan commands scope some acts (at acts).progress) → AreRecorded plan commands scope acts c.earlier
  recorded_earlier acts some c =
      let it = c.begins.begins in
      let needs = needs_of plan (at it.before) actions.Begin it.begins in
      subst (λ (xs : List Act). AreRecorded plan commands scope xs c.earlier) (sym it.order)
      (subst (λ (n : ℕ). AreRecorded plan commands scope (it.before ++ Told c.moment ∷ it.behind) n) it.number
      (recorded_if_settled it.before (Told c.moment ∷ it.behind) needs.2 needs.3))

  -- once all is done, each cycle is recorded
  pub recorded_whole : (acts : List Act) → IsFinished (commands_in (at acts).marks) (at acts).progress → AreRecorded plan commands scope acts plan.cycles
  recorded_whole acts all =
      let left = all.0 in
      subst (λ (xs : List Act). AreRecorded plan commands scope xs plan.cycles) (append-nil acts)
      (subst (λ (n : ℕ). AreRecorded plan commands scope (acts ++ []) n) (omega (arith, left)) (recorded_if_settled acts [] all.1 all.2))

  -- where a cycle has begun, less than `wait` milliseconds ago, each cycle that was due that long ago is recorded
  pub recorded_before : (acts : List Act) (some : 0 < plan.every) (wait : ℕ) → Runs plan commands (opening plan scope) acts → ClockRises 0 acts
      → Cycling plan commands scope some acts (at acts).progress → (at acts).progress.moment.elapsed - (at acts).progress.began < wait
      → DueOnesAreRecorded plan commands scope wait acts
  recorded_before acts some wait runs rises c short =
      record {
        count = c.earlier;
        are = recorded_earlier acts some c;
        each = λ n d below due long.
            cond_both (nat_lt n c.earlier) n n (λ _. n < c.earlier) (λ e. ltb-true n c.earlier e)
            (λ e.
            let since = due_no_earlier plan commands scope some acts runs rises c n d (ltb-false n c.earlier e) due in
            let past = c.past in
            absurd (omega (arith, since, past, long, short)));
      }

  -- once all is done, each cycle that is due is recorded
  pub recorded_at_end : (acts : List Act) (some : 0 < plan.every) (wait : ℕ) → Cycling plan commands scope some acts (at acts).progress → IsFinished (commands_in (at acts).marks) (at acts).progress
      → DueOnesAreRecorded plan commands scope wait acts
  recorded_at_end acts some wait c all =
      record { count = plan.cycles; are = recorded_whole acts all; each = λ n d below due long. below }

  -- with nothing in flight that hasn't timed out, a run that goes on with an action that may take its time isn't in a cycle that is out
  -- of time, or all is done
  pub in_time_if_slow : (acts : List Act) → IsUnhindered plan commands scope acts → MayTakeTime (action_at plan (at acts)) → (waiting_of (at acts)).current ≡ 0
      → (is_out_of_time plan (at acts).progress ≡ false) ⊎ IsFinished (commands_in (at acts).marks) (at acts).progress
  in_time_if_slow acts way on none =
      by_test (out_of_time_or_done (s.progress.missed && nat_lt 0 s.progress.unsent) (is_out_of_time plan s.progress) (not s.progress.stops) (nat_eq (waiting_of s).current 0) (may_abandon s.progress.phase) (setup_permits plan s.progress (waiting_of s))
      (has_begun s.progress || nat_eq (commands_in s.marks) 0) (is_finished (commands_in s.marks) s.progress)
      (not_overdue plan s.progress (waiting_of s) s.progress.phase refl on) (eq-eqb (waiting_of s).current 0 none) (may_abandon_there plan s.progress (waiting_of s) s.progress.phase refl on)
      (ap not way.0) way.1 (fits (has_begun s.progress) refl)) where
        -- the model after these acts
        s : Model
        s = at acts

        -- while the station synchronizes, no command is outstanding
        fits : (b : Bool) → has_begun s.progress ≡ b → (b || nat_eq (commands_in s.marks) 0) ≡ true
        fits true e = refl
        fits false e = eq-eqb (commands_in s.marks) 0 (ap commands_in (nil_from_length s.marks
            (let fine = invariant_holds plan commands scope acts in fine.paired ∙ ap (λ (c : ById Asked). length c.waiting) (fine.begins e))))

        -- the lemma above, by the tests
        by_test : (is_out_of_time plan s.progress ≡ false) ⊎ (is_finished (commands_in s.marks) s.progress ≡ true) → (is_out_of_time plan s.progress ≡ false) ⊎ IsFinished (commands_in s.marks) s.progress
        by_test (inl punctual) = inl punctual
        by_test (inr done) = inr (finished_by_test (commands_in s.marks) s.progress done)

-- the law: silence is bounded, once what is in flight has timed out
pub records_once_timed_out : RecordsOnceTimedOut
records_once_timed_out plan commands scope acts runs some rises way on none =
    by_begun ((begun_if_clock_rises plan commands scope some acts runs) rises).1 (in_time_if_slow plan commands scope acts way on none) where
      -- the model after these acts
      s : Model
      s = state_after plan commands scope acts

      -- the lemma above, by whether a cycle has begun, and isn't out of time, or all is done
      by_begun : ((s.progress.left ≡ plan.cycles) × (s.progress.unsent ≡ 0) × (s.progress.began ≡ 0)) ⊎ Cycling plan commands scope some acts s.progress
          → (is_out_of_time plan s.progress ≡ false) ⊎ IsFinished (commands_in s.marks) s.progress
          → IsInTime plan commands scope (2 * plan.every) acts
      by_begun (inl none_begun) (inl punctual) =
          let start = none_begun.2 in
          let short = short_if_punctual plan s.progress some punctual in
          inl (none_begun.0, inl (omega (arith, start, short)))
      by_begun (inl none_begun) (inr all) = inl (none_begun.0, inr (sym none_begun.0 ∙ all.0))
      by_begun (inr c) (inl punctual) = inr (recorded_before plan commands scope acts some (2 * plan.every) runs rises c (short_if_punctual plan s.progress some punctual))
      by_begun (inr c) (inr all) = inr (recorded_at_end plan commands scope acts some (2 * plan.every) c all)

-- where a setup keeps the cycle from being abandoned, though an action is next that may take its time: the station has synchronized, and is
-- in the phase `Ready`; a command of the setup is left; and what the setup sent so far hasn't timed out for sure
pub held_by_setup : (plan : Plan) (longest call turn loss : ℕ) (commands : List Task) (s : Model) → SettingUp plan longest call turn loss commands s → s.progress.stops ≡ false → MayTakeTime (action_at plan s)
    → setup_permits plan s.progress (waiting_of s) ≡ false
    → (s.progress.phase ≡ phase.Ready) × (has_begun s.progress ≡ true) × (s.progress.prepared < plan.setup)
    × (s.progress.moment.elapsed < (s.progress.began + 2 * plan.every) + ((longest + plan.setup * longest) + raws_of_setup plan commands * loss))
held_by_setup plan longest call turn loss commands s setting going on e =
    let setup = not_permitted plan s.progress (waiting_of s) e in
    let within = setting.0 (and_parts s.progress.preparing (not (nat_le plan.setup s.progress.prepared && nat_eq (waiting_of s).commands 0 && (waiting_of s).well)) setup.0).0 setup.1 in
    let is = ready s.progress.phase refl (may_abandon_there plan s.progress (waiting_of s) s.progress.phase refl on) within.1 in
    let well = slow_if_well plan s.progress (waiting_of s) going setup.0 setup.1 setup.2 is within.0
    (subst MayTakeTime (ap (λ (at : Phase). action_in at plan s.progress (waiting_of s)) is) on) in
    let soon = soon_if_well plan longest call turn loss commands s setting is setup well in
    let left = some_unsent plan s.progress (waiting_of s) setup.0 setup.2 well in
    let less : s.progress.prepared ≤ plan.setup = omega (arith, left) in
    let most : s.progress.prepared * longest ≤ plan.setup * longest = mul-le-mul_right longest less in
    let raws : raw_count (take s.progress.prepared (take (plan.setup - 1) commands)) * loss ≤ raws_of_setup plan commands * loss =
    mul-le-mul_right loss (raws_within s.progress.prepared (take (plan.setup - 1) commands)) in
    (is, within.0, left, omega (arith, soon, most, raws)) where
      -- the phase in which a setup is under way
      ready : (at : Phase) → s.progress.phase ≡ at → may_abandon at ≡ true → is_before_requests at ≡ false → s.progress.phase ≡ phase.Ready
      ready phase.Ready is may quiet = is
      ready phase.Down is may quiet = cc
      ready phase.Pausing is may quiet = cc
      ready phase.Draining is may quiet = cc
      ready phase.Clearing is may quiet = cc
      ready (phase.Closing why) is may quiet = cc
      ready (phase.Over why) is may quiet = cc

-- the law: silence is bounded
pub records_in_time : RecordsInTime
records_in_time longest call plan commands scope acts runs some listed few all_few rises returns unasked on =
    subst (λ (n : ℕ). IsInTime plan commands scope n acts) (sym spans)
    (by_time ((begun_if_clock_rises plan commands scope some acts runs) rises).1 (nat_le ((s.progress.began + 2 * plan.every) + span) s.progress.moment.elapsed) refl) where
      -- the model after these acts
      s : Model
      s = state_after plan commands scope acts

      -- the time for null procedures that are lost
      lost : ℕ
      lost = raws_of_setup plan commands * (7 * (longest + call))

      -- how long after the moment at which the cycle is out of time a request may have its deadline
      span : ℕ
      span = (longest + plan.setup * longest) + lost

      -- it is what the bound has beside two periods
      spans : record_bound plan commands longest call ≡ 2 * plan.every + span
      spans =
          let one : 1 + plan.setup ≡ suc plan.setup = omega arith in
          let more = suc-mul plan.setup longest in
          let all : (1 + plan.setup) * longest ≡ longest + plan.setup * longest = ap (λ (n : ℕ). n * longest) one ∙ omega (arith, more) in
          sums (2 * plan.every) ((1 + plan.setup) * longest) lost (longest + plan.setup * longest) all where
            -- the same of a sum
            sums : (a b c d : ℕ) → b ≡ d → a + b + c ≡ a + (d + c)
            sums a b c d e = omega (arith, e)

      -- what is claimed
      Claim : Type 0
      Claim = IsInTime plan commands scope (2 * plan.every + span) acts

      -- what is in flight times out in time, and a setup goes on at once
      both : TimesOut plan longest span s × SettingUp plan longest call (longest + call) (7 * (longest + call)) commands s
      both = times_out plan commands scope longest call some listed few all_few acts runs rises returns unasked

      -- the end of the run wasn't asked for
      going : s.progress.stops ≡ false
      going = stops_as_asked plan commands scope acts runs ∙ unasked

      -- no setup keeps the cycle from being abandoned once all that is in flight has timed out for sure
      way : (s.progress.began + 2 * plan.every) + span ≤ s.progress.moment.elapsed → IsUnhindered plan commands scope acts
      way past = (going, by_test (setup_permits plan s.progress (waiting_of s)) refl) where
        -- the lemma above, whether the setup lets the cycle be abandoned
        by_test : (b : Bool) → setup_permits plan s.progress (waiting_of s) ≡ b → setup_permits plan s.progress (waiting_of s) ≡ true
        by_test true e = e
        by_test false e = let soon = (held_by_setup plan longest call (longest + call) (7 * (longest + call)) commands s both.1 going on e).3 in absurd (omega (arith, soon, past))

      -- a cycle has begun, or none has
      Where : Type 0
      Where = ((s.progress.left ≡ plan.cycles) × (s.progress.unsent ≡ 0) × (s.progress.began ≡ 0)) ⊎ Cycling plan commands scope some acts s.progress

      -- the lemma above, if the cycle isn't out of time, or all is done
      by_why : Where → (is_out_of_time plan s.progress ≡ false) ⊎ IsFinished (commands_in s.marks) s.progress → Claim
      by_why (inl begins) (inl punctual) =
          let start = begins.2 in
          let short = short_if_punctual plan s.progress some punctual in
          inl (begins.0, inl (omega (arith, start, short)))
      by_why (inl begins) (inr all) = inl (begins.0, inr (sym begins.0 ∙ all.0))
      by_why (inr c) (inl punctual) =
          let short = short_if_punctual plan s.progress some punctual in
          inr (recorded_before plan commands scope acts some (2 * plan.every + span) runs rises c (omega (arith, short)))
      by_why (inr c) (inr all) = inr (recorded_at_end plan commands scope acts some (2 * plan.every + span) c all)

      -- the lemma above, by whether all that is in flight has timed out for sure
      by_time : Where → (b : Bool) → nat_le ((s.progress.began + 2 * plan.every) + span) s.progress.moment.elapsed ≡ b → Claim
      by_time at true e =
          let past = leb-true ((s.progress.began + 2 * plan.every) + span) s.progress.moment.elapsed e in
          let gone = none_in_flight ((s.progress.began + 2 * plan.every) + span) s.progress.moment.elapsed s.client.waiting
          past both.0.1 (both.0.2 (read_if_slow plan s.progress (waiting_of s) s.progress.phase refl on)) in
          by_why at (in_time_if_slow plan commands scope acts (way past) on (ap length gone))
      by_time (inl begins) false e =
          let start = begins.2 in
          let low = leb-false ((s.progress.began + 2 * plan.every) + span) s.progress.moment.elapsed e in
          inl (begins.0, inl (omega (arith, low, start)))
      by_time (inr c) false e =
          let low = leb-false ((s.progress.began + 2 * plan.every) + span) s.progress.moment.elapsed e in
          let past = both.0.0 in
          inr (recorded_before plan commands scope acts some (2 * plan.every + span) runs rises c (omega (arith, low, past)))

-- The clock is read before what takes its time.

-- at this progress no action that may take its time is next: the moment read last is out of date; or the phase lets no cycle be
-- abandoned, as the connection is to be cleared or closed, or the run is over
abbrev IsOutOfDate : Progress → Type 0
IsOutOfDate p = (p.clock_due ≡ true) ⊎ (may_abandon p.phase ≡ false)

-- after a call that failed, the connection is to be closed, or the run is over
failed_closes : (up : Bool) (why : Cause) → may_abandon (if up then phase.Closing why else phase.Over why) ≡ false
failed_closes true why = refl
failed_closes false why = refl

-- after an act of each action: the act read a moment, or `IsOutOfDate` holds
out_of_date : (plan : Plan) (commands : List Task) (s : Model) (o : Action) (act : Act) → Performs commands s o act
    → IsListening act ⊎ IsOutOfDate (moved plan commands o (with_progress turned s) act).progress
out_of_date plan commands s o act obeys = by_action o obeys where
  -- what is claimed of an act and the model after it
  Claim : Act → Model → Type 0
  Claim a t = IsListening a ⊎ IsOutOfDate t.progress

  -- after a call that failed for the cause `why`
  failed : (why : Cause) → may_abandon (if is_up s.progress.phase then phase.Closing why else phase.Over why) ≡ false
  failed why = failed_closes (is_up s.progress.phase) why

  -- the lemma above, by the action
  by_action : (o : Action) → Performs commands s o act → Claim act (moved plan commands o (with_progress turned s) act)
  by_action actions.Open b = walk plan commands Claim actions.Open (with_progress turned s) act b (λ m. inr (inr refl), λ n. inr (inl refl))
  by_action actions.Clear b = walk plan commands Claim actions.Clear (with_progress turned s) act b (λ m. inr (inl refl), λ n. inr (inl refl))
  by_action actions.Ask b = walk plan commands Claim actions.Ask (with_progress turned s) act b (λ m. inr (inl refl), λ n. inr (inl refl))
  by_action actions.Prepare b = walk plan commands Claim actions.Prepare (with_progress turned s) act b (λ m. inr (inl refl), λ n. inr (inl refl))
  by_action actions.Send b = walk plan commands Claim actions.Send (with_progress turned s) act b (λ m. inr (inl refl), λ n. inr (inl refl))
  by_action actions.Flush b = walk plan commands Claim actions.Flush (with_progress turned s) act b (λ m. inr (inl refl), λ n. inr (inl refl))
  by_action (actions.Read until) b =
      walk plan commands Claim (actions.Read until) (with_progress turned s) act b
      (λ bytes m. inl refl, λ m. inl refl, inr (inr (failed cause.End)), inr (inr (failed cause.Read)), inr (inr (failed cause.Clock)))
  by_action (actions.Close why) b =
      walk plan commands Claim (actions.Close why) (with_progress turned s) act b
      (inr (closed_along IsOutOfDate plan (waiting_of (with_rest [] (with_progress turned s))) why (turned s.progress) (inr refl) (inl refl)))
  by_action (actions.Stop why) b = absurd b
  by_action o b = walk plan commands Claim o (with_progress turned s) act b (λ m. inl refl, λ n. inr (inr (failed cause.Clock)))

-- the law: the clock is read before what takes its time
pub reads_clock_before : ReadsClockBefore
reads_clock_before plan commands scope earlier act runs on = by_case (out_of_date plan commands s (action_at plan s) act (runs_split plan commands (opening plan scope) earlier [] act runs).1) where
  -- the model before the act
  s : Model
  s = state_after plan commands scope earlier

  -- the model after it
  t : Model
  t = state_after plan commands scope (earlier ++ act ∷ [])

  -- the lemma above, by whether the act read a moment
  by_case : IsListening act ⊎ IsOutOfDate (moved plan commands (action_at plan s) (with_progress turned s) act).progress → IsListening act
  by_case (inl listens) = listens
  by_case (inr (inl due)) =
      absurd (both_ways t.progress.clock_due (read_if_slow plan t.progress (waiting_of t) t.progress.phase refl on)
      (ap (λ (p : Progress). p.clock_due) (progress_after_act plan commands scope earlier act) ∙ due))
  by_case (inr (inr closed)) =
      absurd (both_ways (may_abandon t.progress.phase) (ap (λ (p : Progress). may_abandon p.phase) (progress_after_act plan commands scope earlier act) ∙ closed)
      (may_abandon_there plan t.progress (waiting_of t) t.progress.phase refl on))

-- A read awaits something.

-- what is awaited where a read is next isn't awaited where a command may be sent
no_read_if_sent : (plan : Plan) (p : Progress) (w : Waiting) (until : Until) → AwaitsSomething plan p w until → MayBeSent plan p w → ⊥
no_read_if_sent plan p w until awaits may = by_until until awaits where
  -- no command waits for what is in flight
  not_held : AwaitsSettlements plan p w → 0 < w.commands → ⊥
  not_held (inl (inl none)) some = let here = may.0.2 in omega (arith, none, here)
  not_held (inl (inr (inl bound))) some = by_going may.0.4 where
    -- a chained command goes only once all are settled
    by_going : MayGo p w → ⊥
    by_going (inl free) = both_ways p.next_is_chained free bound
    by_going (inr going) = let none = going.0 in omega (arith, none, some)
  not_held (inl (inr (inr (inl more)))) some = by_retry may.0.6 where
    -- a further attempt goes only once all are settled
    by_retry : MayRetry p w → ⊥
    by_retry (inl none) = omega (arith, none, more)
    by_retry (inr listed) = let none = listed.0 in omega (arith, none, some)
  not_held (inl (inr (inr (inr lacks)))) some = both_ways (lacks_value p) may.0.10 lacks
  not_held (inr set_up) some = both_ways (is_preparing plan p w) may.0.8 set_up.0

  -- something may go
  not_nothing : NothingMayGo plan p w → ⊥
  not_nothing (inl full) = let room = may.0.3.0 in omega (arith, full, room)
  not_nothing (inr (inl (inl seven))) = let room = may.0.3.1 in omega (arith, seven, room)
  not_nothing (inr (inl (inr (inl doubt)))) = both_ways p.exchange.doubtful may.0.3.2 doubt
  not_nothing (inr (inl (inr (inr held)))) = let none = may.0.3.3 in omega (arith, held, none)
  not_nothing (inr (inr (inl held))) = not_held held.0 held.1
  not_nothing (inr (inr (inr (inl far)))) = let few = may.0.5 in omega (arith, few, far)
  not_nothing (inr (inr (inr (inr (inl asked))))) = both_ways p.stops may.1 asked.0
  not_nothing (inr (inr (inr (inr (inr late))))) = may.2 late

  -- no reply is awaited
  no_reply : AwaitsReply plan p w → ⊥
  no_reply (inl begins) = both_ways (has_begun p) begins.0 may.0.1
  no_reply (inr (inl nothing)) = not_nothing nothing.0
  no_reply (inr (inr set_up)) = both_ways (is_preparing plan p w) may.0.8 set_up.0

  -- the lemma above, by what the read waits for
  by_until : (until : Until) → AwaitsSomething plan p w until → ⊥
  by_until Limit (inl pausing) = let other : phase.Pausing ≡ phase.Ready = sym pausing ∙ may.0.0 in cc
  by_until Limit (inr (inl draining)) = let other : phase.Draining ≡ phase.Ready = sym draining ∙ may.0.0 in cc
  by_until Limit (inr (inr ready)) = no_reply ready.1
  by_until Due (is, inl (idle, inl begins)) = both_ways (has_begun p) begins may.0.1
  by_until Due (is, inl (idle, inr on)) = both_ways (is_preparing plan p w) may.0.8 on.0
  by_until Due (is, inr done) = let here = may.0.2 in let none = done.0 in omega (arith, none, here)

-- the law: a read awaits something, and isn't next where a command may be sent
pub reads_await : ReadsAwaitSomething
reads_await = record {
  awaits = λ until plan commands scope acts runs is. needs_of plan (state_after plan commands scope acts) (actions.Read until) is;
  sends = λ until plan commands scope acts runs is may.
      let s = state_after plan commands scope acts in no_read_if_sent plan s.progress (waiting_of s) until (needs_of plan s (actions.Read until) is) may;
  prepares = λ plan commands scope acts runs none.
      let s = state_after plan commands scope acts in
      ap (λ (b : Bool). b && not (nat_le plan.setup s.progress.prepared && nat_eq (waiting_of s).commands 0 && (waiting_of s).well)) (never_prepares plan commands none scope acts runs);
}
