-- What holds if an action is next (`Holds`): of the setup, of a synchronization, of a cycle that is overdue, and so of each action.
use Rattle.gc_station.proofs.Common.{◌≡◌, ℕ, ◌-◌, ◌<◌, ◌⊎◌, ◌&&◌, ◌||◌, Bool, true, false, not, if◌then◌else◌, nat_lt, nat_le, nat_eq, refl, sym, ap, ◌∙◌, subst, inl, inr, arith, ltb-true, ltb-false, leb-true, leb-false, le-leb, eqb-true, eq-eqb, not-true, and_parts, false_from_ne_true, cond_both, and_cases, nat_tests, Plan, Cause, Phase, Down, Pausing, Clearing, Draining, Ready, Closing, Over, Action, Progress, Limit, Due, Waiting, HoldsBefore, MayPrepare, IsOutOfTime, IsGoingOn, IsOverdue, IsPreparedOrOverdue, may_ask, has_begun, is_up, is_dead, is_wanted, is_finished, action_of, action_in, action_on, action_of_phase, action_ready, action_begun, action_beginning, action_to_send, action_waiting, action_without_turns, is_stale, is_resting, is_stopping, is_held_back, action_cycle, action_to_prepare, action_preparing, action_in_setup, is_preparing, is_out_of_time, waits_out, has_no_time_left, is_overdue, action_overdue, may_abandon, setup_permits, SuitsAction}
use Rattle.gc_station.specs.Deciding.{is_idle}
use Rattle.gc_station.proofs.InCycle.{within_window, Awake, Holds, IsAtWork, IsInChainIfStopping, Timely, Wakes, above_zero, awake_reads, awake_up, cycle_for, dead_parts, finished_by_test, has_connection_for, held_back_for, in_chain_if_stopping, not_zero, or_first, resting_by_test, room_for, to_send_for, waiting_for_reply, zero_if_not_above}
use Rattle.gc_station.specs.declared.cause.Cause.TheVariants as cause
use Rattle.gc_station.specs.declared.progress.Action.TheVariants as action

-- for a station at work, `Holds` is true of `action_to_send` with `Prepare`, if the next command of the
-- setup may be sent (`MayPrepare`), and the end of the run wasn't asked for
prepare_for : (plan : Plan) (p : Progress) (w : Waiting) → IsAtWork p → p.stops ≡ false → MayPrepare plan p w → Holds plan p w (action_to_send plan p w action.Prepare)
prepare_for plan p w work unasked may =
    to_send_for plan p w action.Prepare work (λ near room alive. ((work.awake.1, work.begun, may, room, near, unasked, alive), tt, work.awake)) (λ many. inr (inr may, many))

-- for a station at work, `Holds` is true of `action_to_prepare`, if it is preparing, the next
-- command of the setup is the first or those before it are settled and answered well, and the end of the run wasn't asked for
to_prepare_for : (plan : Plan) (p : Progress) (w : Waiting) → (work : IsAtWork p) → (unasked : p.stops ≡ false) → (preparing : is_preparing plan p w ≡ true)
    → (turn : (p.prepared ≡ 0) ⊎ ((w.commands ≡ 0) × (w.well ≡ true)))
    → Holds plan p w (action_to_prepare plan p w)
to_prepare_for plan p w work unasked on first =
    cond_both (nat_lt p.prepared plan.setup) _ (action.Read Limit) (Holds plan p w) (λ e. prepare_for plan p w work unasked (on, ltb-true p.prepared plan.setup e, first))
    (λ e. (inr (inr (work.awake.1, inr (inr (on, no_setup e first)))), awake_reads p work.awake, tt)) where
      -- if there is no such command, there is no setup
      no_setup : nat_lt p.prepared plan.setup ≡ false → (p.prepared ≡ 0) ⊎ ((w.commands ≡ 0) × (w.well ≡ true)) → plan.setup ≡ 0
      no_setup e (inl none) = let all = ltb-false p.prepared plan.setup e in omega (arith, all, none)
      no_setup e (inr it) = absurd (not_prepared p.preparing (nat_le plan.setup p.prepared) (nat_eq w.commands 0) w.well on
          (le-leb plan.setup p.prepared (ltb-false p.prepared plan.setup e)) (eq-eqb w.commands 0 it.0) it.1) where
            -- a setup of which all was sent and answered well is done
            not_prepared : (preparing all settled well : Bool) → (preparing && not (all && settled && well)) ≡ true → all ≡ true → settled ≡ true → well ≡ true → ⊥
            not_prepared true true true true e a b c = cc
            not_prepared false all settled well e a b c = cc
            not_prepared true false settled well e a b c = cc
            not_prepared true true false well e a b c = cc
            not_prepared true true true false e a b c = cc

-- for a station at work, `Holds` is true of `action_in_setup`, if it is preparing, something of the setup was sent, and the end of the
-- run wasn't asked for
in_setup_for : (plan : Plan) (p : Progress) (w : Waiting) → IsAtWork p → p.stops ≡ false → is_preparing plan p w ≡ true → 0 < p.prepared → Holds plan p w (action_in_setup plan p w)
in_setup_for plan p w work unasked on sent =
    let P = Holds plan p w in
    cond_both (is_finished w.commands p) (action.Close cause.Done) _ P (λ none. ((awake_up p work.awake, inr (finished_by_test w.commands p none)), tt, tt))
    (λ more. cond_both (nat_eq w.commands 0) _ _ P
    (λ e. cond_both w.well _ (action.Close cause.SetUp) P (λ well. to_prepare_for plan p w work unasked on (inr (eqb-true w.commands 0 e, well)))
    (λ ill. ((awake_up p work.awake, inr (on, sent, eqb-true w.commands 0 e, ill)), tt, tt)))
    (λ waiting. cond_both (nat_eq w.current 0) _ _ P
    (λ given. room_for plan p w action.Flush work (λ room alive.
    ((work.awake.1, work.begun, inl (inr (on, sent), above_zero w.commands waiting), eqb-true w.current 0 given, room, alive), tt, work.awake)))
    (λ some. waiting_for_reply plan p w work (above_zero w.current some) (inl (inr (on, sent), above_zero w.commands waiting)))))

-- for a station at work, `Holds` is true of `action_preparing`, if it is preparing, and the end of
-- the run wasn't asked for
preparing_for : (plan : Plan) (p : Progress) (w : Waiting) → IsAtWork p → p.stops ≡ false → is_preparing plan p w ≡ true → Holds plan p w (action_preparing plan p w)
preparing_for plan p w work unasked on =
    let P = Holds plan p w in
    cond_both (nat_eq p.prepared 0) _ _ P
    (λ none. let first = eqb-true p.prepared 0 none in
    cond_both (is_finished w.commands p) (action.Close cause.Done) _ P (λ none. ((awake_up p work.awake, inr (finished_by_test w.commands p none)), tt, tt))
    (λ more. cond_both (is_idle plan p) (action.Read Due) _ P (λ idle. ((work.awake.1, inl (idle, inr (on, first))), awake_reads p work.awake, tt))
    (λ busy. to_prepare_for plan p w work unasked on (inl first))))
    (λ sent. in_setup_for plan p w work unasked on (above_zero p.prepared sent))

-- where the test says that the cycle is out of time, it is
pub out_of_time_by_test : (plan : Plan) (p : Progress) → is_out_of_time plan p ≡ true → IsOutOfTime plan p
out_of_time_by_test plan p e =
    let it = and_parts (nat_lt 0 plan.every) (nat_le plan.every ((p.moment.elapsed - p.began) - plan.every)) e in
    (ltb-true 0 plan.every it.0, leb-true plan.every ((p.moment.elapsed - p.began) - plan.every) it.1)

-- for a station at work, `Holds` is true of `action_waiting`, if the cycle is out of time and something is in flight
waits_out_for : (plan : Plan) (p : Progress) (w : Waiting) → IsAtWork p → waits_out plan p w ≡ true → Holds plan p w (action_waiting plan p w)
waits_out_for plan p w work cut =
    let it = and_parts (is_out_of_time plan p) (nat_lt 0 w.current) (and_parts (is_out_of_time plan p && nat_lt 0 w.current) _ cut).0 in
    waiting_for_reply plan p w work (ltb-true 0 w.current it.1) (inr (inr (inr (out_of_time_by_test plan p it.0))))

-- for a station at work, `Holds` is true of `action_begun`, unless the run ends because that was
-- asked for (`is_stopping`)
begun_for : (plan : Plan) (p : Progress) (w : Waiting) → IsAtWork p → is_stopping p w ≡ false → Holds plan p w (action_begun plan p w)
begun_for plan p w work goes =
    cond_both (is_held_back p w) (action_waiting plan p w) _ (Holds plan p w) (λ held. held_back_for plan p w work held)
    (λ free. cond_both (waits_out plan p w) (action_waiting plan p w) (if is_preparing plan p w then action_preparing plan p w else action_cycle plan p w) (Holds plan p w)
    (λ cut. waits_out_for plan p w work cut) (λ uncut. uncut_for (in_chain_if_stopping p w (awake_up p work.awake) work.begun goes free))) where
      -- while the setup isn't done, the end of the run wasn't asked for
      unasked : IsInChainIfStopping p → p.preparing ≡ true → p.stops ≡ false
      unasked only on = false_from_ne_true p.stops (λ stops. let ready = (only stops).2 in let both : true ≡ false = sym on ∙ ready in cc)

      -- the action if nothing is held back or cut: that of the setup until it is done, and then that of the cycle
      uncut_for : IsInChainIfStopping p → Holds plan p w (if is_preparing plan p w then action_preparing plan p w else action_cycle plan p w)
      uncut_for only =
          cond_both (is_preparing plan p w) (action_preparing plan p w) (action_cycle plan p w) (Holds plan p w)
          (λ on. preparing_for plan p w work (unasked only (and_parts p.preparing _ on).0) on) (λ done. cycle_for plan p w (record { work = work; set_up = done }) only)

-- for a station that is `Awake` and synchronizes, `Holds` is true of `action_beginning`
beginning_for : (plan : Plan) (p : Progress) (w : Waiting) → Awake p → has_begun p ≡ false → Holds plan p w (action_beginning plan p w)
beginning_for plan p w awake begun =
    let P = Holds plan p w in
    cond_both (is_finished w.commands p) (action.Close cause.Done) _ P (λ none. ((awake_up p awake, inr (finished_by_test w.commands p none)), tt, tt))
    (λ more. cond_both (is_idle plan p) (action.Read Due) _ P (λ idle. ((awake.1, inl (idle, inl begun)), awake_reads p awake, tt))
    (λ busy. cond_both (may_ask p.moment.elapsed p.exchange) _ (action.Read Limit) P
    (λ may. let free = and_parts (nat_eq p.exchange.hold 0) (nat_le p.exchange.again p.moment.elapsed) may in
    let past = leb-true p.exchange.again p.moment.elapsed free.1 in
    cond_both (is_dead plan p w) (action.Close cause.Dead) action.Ask P
    (λ d. let it = dead_parts plan p w d in ((awake_up p awake, inr (it.0, it.1, λ not_begun. past)), tt, inr awake))
    (λ alive. ((awake.1, begun, past, busy, alive, eqb-true p.exchange.hold 0 free.0), tt, awake)))
    (λ e. (inr (inr (awake.1, inl (begun, waits (and_cases (nat_eq p.exchange.hold 0) (nat_le p.exchange.again p.moment.elapsed) e)))), awake_reads p awake, tt)))) where
      -- a busy answer has the station wait, or the null procedure that was sent last hasn't timed out
      waits : ((nat_eq p.exchange.hold 0 ≡ false) ⊎ (nat_le p.exchange.again p.moment.elapsed ≡ false)) → (0 < p.exchange.hold) ⊎ (p.moment.elapsed < p.exchange.again)
      waits (inl held) = inl (above_zero p.exchange.hold held)
      waits (inr early) = inr (leb-false p.exchange.again p.moment.elapsed early)

-- for a station that is `Awake`, `Holds` is true of `action_ready`, unless the run ends because that was asked for
-- (`is_stopping`)
ready_for : (plan : Plan) (p : Progress) (w : Waiting) → Awake p → is_stopping p w ≡ false → Holds plan p w (action_ready plan p w)
ready_for plan p w awake goes = cond_both (has_begun p) _ _ (Holds plan p w) (λ begun. begun_for plan p w (record { awake = awake; begun = begun }) goes) (λ begun. beginning_for plan p w awake begun)

-- a close for which the phase is set already is as `Wakes` says
closing_wakes : (p : Progress) (why : Cause) → p.phase ≡ Closing why → Wakes p (action.Close why)
closing_wakes p cause.Dead is = inl is
closing_wakes p why is = tt

-- `Holds` is true of `action_of_phase` in each phase, if the moment was read, unless the run ends because that was asked for
-- (`is_stopping`)
of_phase_for : (plan : Plan) (phase : Phase) (p : Progress) (w : Waiting) → p.phase ≡ phase → p.clock_due ≡ false → is_stopping p w ≡ false → Holds plan p w (action_of_phase plan phase p w)
of_phase_for plan Down p w is now goes = (is, now, tt)
of_phase_for plan Pausing p w is now goes = (inl is, (now, λ c. let other : Pausing ≡ Clearing = sym is ∙ c in cc), tt)
of_phase_for plan Clearing p w is now goes = (is, tt, tt)
of_phase_for plan Draining p w is now goes =
    cond_both (is_finished w.commands p) (action.Close cause.Done) (action.Read Limit) (Holds plan p w)
    (λ done. ((ap is_up is, inr (finished_by_test w.commands p done)), tt, tt))
    (λ more. (inr (inl is), (now, λ c. let other : Draining ≡ Clearing = sym is ∙ c in cc), tt))
of_phase_for plan Ready p w is now goes = ready_for plan p w (now, is) goes
of_phase_for plan (Closing why) p w is now goes = ((has_connection_for why p (ap is_up is), inl is), tt, closing_wakes p why is)
of_phase_for plan (Over why) p w is now goes = ((ap is_up is, inl is), tt, tt)

-- `Holds` is true of `action_without_turns` if all turns are used up
without_turns_for : (plan : Plan) (p : Progress) (w : Waiting) (up : Bool) → is_up p.phase ≡ up → p.turns ≡ 0 → Holds plan p w (action_without_turns up)
without_turns_for plan p w true is none = ((is, inr none), tt, tt)
without_turns_for plan p w false is none = ((is, inr (refl, none)), tt, tt)

-- in a phase in which the station may tell of commands, the run goes on
going_by_test : (at : Phase) → may_abandon at ≡ true → IsGoingOn at
going_by_test Clearing e = cc
going_by_test (Closing why) e = cc
going_by_test (Over why) e = cc
going_by_test at e = tt

-- `Holds` is true of `action_overdue`, if the moment was read, and the cycle is overdue
overdue_for : (plan : Plan) (p : Progress) (w : Waiting) → p.clock_due ≡ false → is_overdue plan p w ≡ true → Holds plan p w (action_overdue p w)
overdue_for plan p w now over =
    let P = Holds plan p w in
    let it = and_parts (has_no_time_left plan p) _ over in
    let how = and_parts (nat_eq w.current 0 && may_abandon p.phase) _ it.1 in
    let there = and_parts (nat_eq w.current 0) (may_abandon p.phase) how.0 in
    let rests = and_parts (setup_permits plan p w) _ how.1 in
    let more = and_parts (has_begun p || nat_eq w.commands 0) (not (is_finished w.commands p)) rests.1 in
    let time = no_time_by_test it.0 in
    let none = eqb-true w.current 0 there.0 in
    let overdue : IsOverdue plan p w = (why time, none, going_by_test p.phase there.1) in
    cond_both (nat_lt 0 w.commands) action.Renew _ P
    (λ some. let many = ltb-true 0 w.commands some in
    ((inr overdue, or_first (has_begun p) (nat_eq w.commands 0) more.0 (not_zero w.commands many), none, inr (overdue, many)), now, (now, inr tt)))
    (λ settled. let zero_left = zero_if_not_above w.commands settled in let ready = ready_by_test (is_preparing plan p w) (nat_eq p.prepared 0) (nat_lt 0 w.commands) overdue refl refl rests.0 settled in cond_both (nat_eq p.unsent 0) action.Begin _ P
    (λ sent. let all_sent = eqb-true p.unsent 0 sent in
    let late = late_if_sent time all_sent in
    ((inr overdue, inr overdue, all_sent, zero_left, some_left p.left p.unsent w.commands (not-true (is_finished w.commands p) more.1) all_sent zero_left, late.1, ready), (inr late.0, now), tt))
    (λ unsent. let here = above_zero p.unsent unsent in cond_both (nat_lt 0 p.next_others) action.Pass action.Skip P
    (λ others. ((inr overdue, inr overdue, here, zero_left, ltb-true 0 p.next_others others, inr overdue, ready), now, tt))
    (λ first. ((inr overdue, inr overdue, here, zero_left, inr (inr overdue), ready, inl (zero_if_not_above p.next_others first)), now, tt)))) where
      -- why no time is left for the cycle
      NoTime : Type 0
      NoTime = ((p.missed ≡ true) × (0 < p.unsent)) ⊎ (IsOutOfTime plan p × (p.stops ≡ false))

      -- where the test says that no time is left, none is
      no_time_by_test : has_no_time_left plan p ≡ true → NoTime
      no_time_by_test e = by_test (p.missed && nat_lt 0 p.unsent) refl e where
        -- the lemma above, by whether the cycle is missed, with commands left
        by_test : (b : Bool) → (p.missed && nat_lt 0 p.unsent) ≡ b → (b || (is_out_of_time plan p && not p.stops)) ≡ true → NoTime
        by_test true m f = let both = and_parts p.missed (nat_lt 0 p.unsent) m in inl (both.0, ltb-true 0 p.unsent both.1)
        by_test false m f = let both = and_parts (is_out_of_time plan p) (not p.stops) f in inr (out_of_time_by_test plan p both.0, not-true p.stops both.1)

      -- the same without the end of the run
      why : NoTime → ((p.missed ≡ true) × (0 < p.unsent)) ⊎ IsOutOfTime plan p
      why (inl missed) = inl missed
      why (inr late) = inr late.0

      -- if no command is left, the cycle is out of time, and the end of the run wasn't asked for
      late_if_sent : NoTime → p.unsent ≡ 0 → IsOutOfTime plan p × (p.stops ≡ false)
      late_if_sent (inl missed) sent = let here = missed.1 in absurd (omega (arith, here, sent))
      late_if_sent (inr late) sent = late

      -- the setup is done, or nothing of it was sent, if no command is outstanding
      ready_by_test : (on none some : Bool) → IsOverdue plan p w → is_preparing plan p w ≡ on → nat_eq p.prepared 0 ≡ none → (not on || (none || some)) ≡ true → some ≡ false → IsPreparedOrOverdue plan p w
      ready_by_test false none some overdue e f t s = inl e
      ready_by_test true true some overdue e f t s = inr (eqb-true p.prepared 0 f, overdue)
      ready_by_test true false true overdue e f t s = cc
      ready_by_test true false false overdue e f t s = cc

      -- a cycle is left, if not all is done, but no command is unsent or outstanding
      some_left : (left unsent commands : ℕ) → (nat_eq left 0 && nat_eq unsent 0 && nat_eq commands 0) ≡ false → unsent ≡ 0 → commands ≡ 0 → 0 < left
      some_left left unsent commands e sent settled = grind (arith, nat_tests, e, sent, settled)

-- `Holds` is true of `action_on`
on_for : (plan : Plan) (p : Progress) (w : Waiting) → Holds plan p w (action_on plan p w)
on_for plan p w =
    let P = Holds plan p w in
    cond_both (nat_eq p.turns 0) _ _ P (λ e. without_turns_for plan p w (is_up p.phase) refl (eqb-true p.turns 0 e))
    (λ e. cond_both (is_stale plan p w) (action.Close cause.Stale) _ P (λ old. ((tt, inr old), tt, tt))
    (λ some. cond_both (is_stopping p w) (action.Close cause.Stopped) _ P
    (λ asked. let it = and_parts p.stops (is_resting p w) asked in ((tt, inr (it.0, resting_by_test p w it.1)), tt, tt))
    (λ goes. cond_both p.clock_due action.ReadClock _ P (λ old. (old, old, tt))
    (λ now. cond_both (is_overdue plan p w) _ _ P (λ over. overdue_for plan p w now over) (λ _. of_phase_for plan p.phase p w refl now goes)))))

-- `Holds` is true of `action_in` in each phase
in_for : (plan : Plan) (phase : Phase) (p : Progress) (w : Waiting) → p.phase ≡ phase → Holds plan p w (action_in phase plan p w)
in_for plan (Closing why) p w is = ((has_connection_for why p (ap is_up is), inl is), tt, closing_wakes p why is)
in_for plan (Over why) p w is = ((ap is_up is, inl is), tt, tt)
in_for plan phase p w is = on_for plan p w

-- the conditions of the action that is next hold
pub action_for : (plan : Plan) (p : Progress) (w : Waiting) → HoldsBefore plan p w (action_of plan p w)
action_for plan p w = (in_for plan p.phase p w refl).0

-- the action that is next is `Timely`: it reads the clock alone only if the moment is out of date, begins a cycle only if the
-- cycle is wanted, connects only if the moment was read, and reads only if a read may be made (`CanRead`)
pub action_timely : (plan : Plan) (p : Progress) (w : Waiting) → Timely plan p (action_of plan p w)
action_timely plan p w = (in_for plan p.phase p w refl).1

-- if the beginning of a cycle is next, the cycle is wanted, or the last one is out of time
pub begin_wanted : (plan : Plan) (p : Progress) (w : Waiting) → action_of plan p w ≡ action.Begin → (is_wanted plan p ≡ true) ⊎ IsOutOfTime plan p
begin_wanted plan p w is = (subst (λ (next : Action). Timely plan p next) is (action_timely plan p w)).0

-- the action that is next is as `Wakes` says: it sends a request, resynchronizes or closes a dead line only if requests may be
-- sent and the moment was read, or the phase says already that the dead line is to be closed
pub action_wakes : (plan : Plan) (p : Progress) (w : Waiting) → Wakes p (action_of plan p w)
action_wakes plan p w = (in_for plan p.phase p w refl).2

-- the conditions of an action give what its call needs (`SuitsAction`)
suits_if_holds : (plan : Plan) (p : Progress) (w : Waiting) (next : Action) → HoldsBefore plan p w next → SuitsAction p w.all next
suits_if_holds plan p w action.Ask is = is.1
suits_if_holds plan p w action.Prepare is = within_window _ _ is.3.1
suits_if_holds plan p w action.Send is = (is.2, (within_window _ _ is.3.1))
suits_if_holds plan p w action.Skip is = is.2
suits_if_holds plan p w action.Flush is = within_window _ _ is.4.1
suits_if_holds plan p w next is = tt

-- the action that is next has what its call needs
pub action_suits : (plan : Plan) (p : Progress) (w : Waiting) → SuitsAction p w.all (action_of plan p w)
action_suits plan p w = suits_if_holds plan p w (action_of plan p w) (action_for plan p w)
