-- Each due cycle is recorded by its bound, at each moment that is read, where the calls on the link return in their time. An act is
-- one call on the link, with its result.
use Rattle.gc_station.proofs.Common.{◌≡◌, ◌⊎◌, inl, inr, ℕ, suc, ◌+◌, ◌*◌, ◌-◌, ◌<◌, ◌≤◌, ◌&&◌, Bool, true, false, not, if◌then◌else◌, List, [], ◌∷◌, ◌++◌, length, min, nat_lt, nat_eq, refl, sym, ap, ◌∙◌, subst, arith, append-nil, append_assoc, lt-ltb, eqb-true, eqb-false, false_from_ne_true, both_ways, AllByRecursion, every_weaker, suc-mul, Task, Act, Told, Gave, Silent, MayTakeTime, IsAskedToWait, IsReadBy, AreQuick, CallsReturn, ReadingsReturn, ClockRises, later, has_begun, is_out_of_time, is_wanted, setup_permits, commands_in, Model, opening, action_at, waiting_of, Runs, out_of_time_at, stale_at, longest_timeout, read_end, IsFinished, AwaitsSomething, bound, RecordsByBound, AreRecorded, IsInTime, raws_of_setup, state_after, Scope, latest, asked_after, Plan, Action, Until, Limit, Due}
use Rattle.gc_station.proofs.CallTimes.{latest_append, calls_front, deadlines_within, waits_until, waits_not, waits_in_flight, read_if_slow}
use Rattle.gc_station.proofs.Cycles.{Begun, begun_if_clock_rises}
use Rattle.gc_station.proofs.Dues.{began_rises}
use Rattle.gc_station.proofs.Closings.{needs_of}
use Rattle.gc_station.proofs.Going.{runs_front}
use Rattle.gc_station.proofs.InFlight.{EndsBy, EndsEarly, TimesOut}
use Rattle.gc_station.proofs.InTime.{times_out, short_if_punctual}
use Rattle.gc_station.proofs.Outages.{recorded_before, recorded_whole, in_time_if_slow, held_by_setup}
use Rattle.gc_station.proofs.Periods.{soon_due, wanted_if_out}
use Rattle.gc_station.proofs.Ticking.{rises_before}
use Rattle.gc_station.proofs.UnderWay.{SettingUp, not_permitted}
use Rattle.gc_station.proofs.Stopping.{asked-append, stops_as_asked}
use Rattle.gc_station.specs.declared.progress.Action.TheVariants as actions
use Rattle.gc_station.specs.declared.progress.Phase.TheVariants as phase

-- an action may take its time, or it may not
pub slow_or_quick : (o : Action) → MayTakeTime o ⊎ (MayTakeTime o → ⊥)
slow_or_quick actions.ReadClock = inr (λ x. x)
slow_or_quick actions.Renew = inr (λ x. x)
slow_or_quick actions.Begin = inr (λ x. x)
slow_or_quick actions.Skip = inr (λ x. x)
slow_or_quick actions.Pass = inr (λ x. x)
slow_or_quick actions.Clear = inr (λ x. x)
slow_or_quick (actions.Close why) = inr (λ x. x)
slow_or_quick (actions.Stop why) = inr (λ x. x)
slow_or_quick other = inl tt

-- the moment read last isn't before the start
pub latest_rises : (now : ℕ) (xs : List Act) → ClockRises now xs → now ≤ latest now xs
latest_rises now [] h = omega arith
latest_rises now (Told m ∷ xs) h = let here = h.0 in let on = latest_rises m.elapsed xs h.2 in omega (arith, here, on)
latest_rises now (Gave bytes m ∷ xs) h = let here = h.0 in let on = latest_rises m.elapsed xs h.2 in omega (arith, here, on)
latest_rises now (Silent m ∷ xs) h = let here = h.0 in let on = latest_rises m.elapsed xs h.2 in omega (arith, here, on)
latest_rises now (x ∷ xs) h = latest_rises now xs h

-- if the clock doesn't go back in acts, it doesn't in the last of them
pub rises_behind : (now : ℕ) (xs ys : List Act) → ClockRises now (xs ++ ys) → ClockRises (latest now xs) ys
rises_behind now [] ys h = h
rises_behind now (Told m ∷ xs) ys h = rises_behind m.elapsed xs ys h.2
rises_behind now (Gave bytes m ∷ xs) ys h = rises_behind m.elapsed xs ys h.2
rises_behind now (Silent m ∷ xs) ys h = rises_behind m.elapsed xs ys h.2
rises_behind now (x ∷ xs) ys h = rises_behind now xs ys h

-- if the end of the run wasn't asked for by these acts, it wasn't by the first of them
unasked_before : (xs ys : List Act) → asked_after false (xs ++ ys) ≡ false → asked_after false xs ≡ false
unasked_before xs ys e = false_from_ne_true (asked_after false xs)
    (λ asked. both_ways (asked_after false (xs ++ ys)) e (asked-append false xs ys ∙ ap (λ (b : Bool). asked_after b ys) asked ∙ stays ys)) where
      -- once the end of the run was asked for, it stays so
      stays : (ys : List Act) → asked_after true ys ≡ true
      stays [] = refl
      stays (Told m ∷ ys) = stays ys
      stays (Gave bytes m ∷ ys) = stays ys
      stays (Silent m ∷ ys) = stays ys
      stays (y ∷ ys) = stays ys

module _ (plan : Plan) (commands : List Task) (scope : Scope) where
  -- the model after these acts
  abbrev pub at : List Act → Model
  at acts = state_after plan commands scope acts

  -- the last act that may take its time, of `acts` that come after the acts `earlier`; the acts after it are quick
  pub record LastSlow (earlier acts : List Act) : Type 0 where
    pub before : List Act
    pub act : Act
    pub quick : List Act
    pub order : earlier ++ acts ≡ before ++ act ∷ quick
    pub slow : MayTakeTime (action_at plan (at before))
    pub are : AreQuick plan commands scope (before ++ act ∷ []) quick

  -- all of these acts, which come after the acts `earlier`, are quick, or one of them is the last that may take its time
  pub last_slow : (earlier acts : List Act) → AreQuick plan commands scope earlier acts ⊎ LastSlow earlier acts
  last_slow earlier [] = inl tt
  last_slow earlier (act ∷ acts) = by_others (last_slow (earlier ++ act ∷ []) acts) where
    -- the lemma above, by the acts after the first
    by_others : AreQuick plan commands scope (earlier ++ act ∷ []) acts ⊎ LastSlow (earlier ++ act ∷ []) acts
        → AreQuick plan commands scope earlier (act ∷ acts) ⊎ LastSlow earlier (act ∷ acts)
    by_others (inr found) = inr (record { before = found.before; act = found.act; quick = found.quick; order = sym (append_assoc earlier (act ∷ []) acts) ∙ found.order; slow = found.slow; are = found.are })
    by_others (inl quick) = by_action (slow_or_quick (action_at plan (at earlier))) where
      -- the lemma above, whether the first one may take its time
      by_action : MayTakeTime (action_at plan (at earlier)) ⊎ (MayTakeTime (action_at plan (at earlier)) → ⊥)
          → AreQuick plan commands scope earlier (act ∷ acts) ⊎ LastSlow earlier (act ∷ acts)
      by_action (inl slow) = inr (record { before = earlier; act = act; quick = acts; order = refl; slow = slow; are = quick })
      by_action (inr not_slow) = inl (not_slow, quick)

  -- all of these acts, which come after the acts `earlier`, but the first one are quick
  abbrev pub AreQuickBehind : (earlier acts : List Act) → Type 0
  AreQuickBehind earlier [] = Unit {0}
  AreQuickBehind earlier (act ∷ acts) = AreQuick plan commands scope (earlier ++ act ∷ []) acts

  -- the same where the first one is quick, too
  pub quick_behind : (earlier acts : List Act) → AreQuick plan commands scope earlier acts → AreQuickBehind earlier acts
  quick_behind earlier [] are = tt
  quick_behind earlier (act ∷ acts) are = are.1

  -- if these acts are quick but for the first, and read their first moment by `limit`, they read the last by `limit + readings`
  pub read_by : (readings limit : ℕ) (earlier acts : List Act) → latest 0 earlier ≤ limit → IsReadBy limit acts → AreQuickBehind earlier acts
      → ReadingsReturn plan commands scope readings (earlier ++ acts) → latest 0 (earlier ++ acts) ≤ limit + readings
  read_by readings limit earlier [] past by are back = subst (λ (xs : List Act). latest 0 xs ≤ limit + readings) (sym (append-nil earlier)) (omega (arith, past))
  read_by readings limit earlier (Told m ∷ acts) past by are back =
      let here : latest 0 (earlier ++ Told m ∷ []) ≡ m.elapsed = latest_append 0 earlier (Told m ∷ []) in
      let on = back earlier acts [] (Told m) (ap (λ (xs : List Act). earlier ++ Told m ∷ xs) (sym (append-nil acts))) refl are in
      omega (arith, here, on, by)
  read_by readings limit earlier (Gave bytes m ∷ acts) past by are back =
      let here : latest 0 (earlier ++ Gave bytes m ∷ []) ≡ m.elapsed = latest_append 0 earlier (Gave bytes m ∷ []) in
      let on = back earlier acts [] (Gave bytes m) (ap (λ (xs : List Act). earlier ++ Gave bytes m ∷ xs) (sym (append-nil acts))) refl are in
      omega (arith, here, on, by)
  read_by readings limit earlier (Silent m ∷ acts) past by are back =
      let here : latest 0 (earlier ++ Silent m ∷ []) ≡ m.elapsed = latest_append 0 earlier (Silent m ∷ []) in
      let on = back earlier acts [] (Silent m) (ap (λ (xs : List Act). earlier ++ Silent m ∷ xs) (sym (append-nil acts))) refl are in
      omega (arith, here, on, by)
  read_by readings limit earlier (act ∷ acts) past by are back =
      let here : latest 0 (earlier ++ act ∷ []) ≡ latest 0 earlier = latest_append 0 earlier (act ∷ []) in
      let order = append_assoc earlier (act ∷ []) acts in
      subst (λ (xs : List Act). latest 0 xs ≤ limit + readings) order
      (read_by readings limit (earlier ++ act ∷ []) acts (omega (arith, here, past)) by (quick_behind (earlier ++ act ∷ []) acts are)
      (subst (λ (xs : List Act). ReadingsReturn plan commands scope readings xs) (sym order) back))

  -- what is recorded stays recorded
  recorded_more : (acts more : List Act) (n : ℕ) → AreRecorded plan commands scope acts n → AreRecorded plan commands scope (acts ++ more) n
  recorded_more acts more n are = record { before = are.before; behind = are.behind ++ more; order = ap (λ (xs : List Act). xs ++ more) are.order ∙ append_assoc are.before are.behind more; all = are.all }

  -- of none of the cycles the commands are recorded at the start
  none_recorded : (acts : List Act) → AreRecorded plan commands scope acts 0
  none_recorded acts = record { before = []; behind = acts; order = refl; all = (refl, refl) }

  module _ (some : 0 < plan.every) (wait : ℕ) (before more : List Act) where
    -- all of these acts
    abbrev all : List Act
    all = before ++ more

    -- what is claimed of all of these acts
    abbrev Claim : Type 0
    Claim = IsInTime plan commands scope (suc wait) all

    -- after `before` the moment read last of all acts is at most `wait` after the last cycle counts as begun, or all is done
    abbrev pub IsNear : Type 0
    IsNear = ((at all).progress.moment.elapsed ≤ (at before).progress.began + wait) ⊎ IsFinished (commands_in (at before).marks) (at before).progress

    -- if a cycle that began last, or the start of the clock, isn't long ago after the first of these acts, the due cycles are recorded
    -- after all of them
    near_in_time : Runs plan commands (opening plan scope) all → ClockRises 0 all → Begun plan commands scope some before (at before).progress
        → Begun plan commands scope some all (at all).progress → IsNear → Claim
    near_in_time runs rises (inl none) (inl still) (inl near) = let start = none.2 in inl (still.0, inl (omega (arith, near, start)))
    near_in_time runs rises (inl none) (inr c) (inl near) =
        let start = none.2 in
        inr (record { count = 0; are = none_recorded all; each = λ n d below due long. absurd (omega (arith, near, start, long)) })
    near_in_time runs rises (inl none) (inl still) (inr done) = inl (still.0, inr (sym none.0 ∙ done.0))
    near_in_time runs rises (inl none) (inr c) (inr done) =
        let nothing : plan.cycles ≡ 0 = sym none.0 ∙ done.0 in let fewer = c.fewer in absurd (omega (arith, nothing, fewer))
    near_in_time runs rises (inr c) (inl still) (inl near) =
        let on = began_rises plan commands scope some before more runs rises in
        let start = still.2 in
        inl (still.0, inl (omega (arith, on, near, start)))
    near_in_time runs rises (inr c) (inr last) (inl near) =
        let on = began_rises plan commands scope some before more runs rises in
        inr (recorded_before plan commands scope all some (suc wait) runs rises last (omega (arith, on, near)))
    near_in_time runs rises (inr c) x (inr done) =
        inr (record { count = plan.cycles; are = recorded_more before more plan.cycles (recorded_whole plan commands scope before done); each = λ n d below due long. below })

-- a moment that is read in time behind a call whose wait is over in time is within the bound: of a setup of n commands, with `lost` for null
-- procedures
reaches : (now last before elapsed wait call readings began time n longest lost : ℕ) → last ≤ (before + wait + call) + readings → now ≡ last → elapsed ≡ before
    → elapsed + wait ≤ (began + time) + ((longest + n * longest) + lost) → now ≤ began + (time + (1 + n) * longest + lost + call + readings)
reaches now last before elapsed wait call readings began time n longest lost read is here short =
    let one : 1 + n ≡ suc n = omega arith in
    let more = suc-mul n longest in
    let all : (1 + n) * longest ≡ longest + n * longest = ap (λ (k : ℕ). k * longest) one ∙ omega (arith, more) in
    omega (arith, all, read, is, here, short)

module _ (plan : Plan) (s : Model) where
  -- of a cycle that isn't out of time, no call is asked to wait until after it is
  waits_in_time : 0 < plan.every → is_out_of_time plan s.progress ≡ false → s.progress.began ≤ s.progress.moment.elapsed
      → s.progress.moment.elapsed - s.progress.began < 2 * plan.every → (o : Action) (wait : ℕ) → IsAskedToWait plan s o wait
      → s.progress.moment.elapsed + wait ≤ s.progress.began + 2 * plan.every
  waits_in_time some punctual past short (actions.Read until) wait asked =
      let p = s.progress in
      let end : out_of_time_at plan p ≤ p.began + 2 * plan.every =
      subst (λ (b : Bool). (if b then later (later p.began plan.every) plan.every else 18446744073709551615) ≤ p.began + 2 * plan.every) (sym test) (omega arith)
      in
      let until_end = waits_until (min (read_end plan p until asked.0) (stale_at plan (waiting_of s).fresh)) (out_of_time_at plan p) p.moment.elapsed (longest_timeout plan) (p.began + 2 * plan.every) end
      (omega (arith, past, short)) in
      let same = asked.2 in
      omega (arith, until_end, same) where
        -- cycles have due moments, and this one isn't out of time
        test : (nat_lt 0 plan.every && not (is_out_of_time plan s.progress)) ≡ true
        test = by_tests (nat_lt 0 plan.every) (is_out_of_time plan s.progress) (lt-ltb 0 plan.every some) punctual where
          -- the same by the tests
          by_tests : (a b : Bool) → a ≡ true → b ≡ false → (a && not b) ≡ true
          by_tests true false e f = refl
          by_tests true true e f = cc
          by_tests false b e f = cc
  waits_in_time some punctual past short o wait asked = waits_not s.progress.moment.elapsed (s.progress.began + 2 * plan.every) wait asked (omega (arith, past, short))

-- no other call than a read is asked to wait
waits_in_read : (plan : Plan) (s : Model) (o : Action) (wait : ℕ) → IsAskedToWait plan s o wait → ((until : Until) → o ≡ actions.Read until → ⊥) → wait ≡ 0
waits_in_read plan s (actions.Read until) wait asked none = absurd (none until refl)
waits_in_read plan s o wait asked none = asked

module _ (plan : Plan) (commands : List Task) (scope : Scope) (longest call : ℕ) (some : 0 < plan.every) (listed : plan.setup ≤ length commands) (few : plan.deadline ≤ longest)
    (all_few : AllByRecursion (λ (task : Task). task.deadline ≤ longest) commands) where
  -- the model after these acts
  abbrev reached : List Act → Model
  reached acts = state_after plan commands scope acts

  -- how long after the moment at which the cycle is out of time what is in flight has timed out for sure
  abbrev span : ℕ
  span = (longest + plan.setup * longest) + raws_of_setup plan commands * (7 * (longest + call))

  -- no call is asked to wait past the moment at which what is in flight when the cycle is out of time has timed out, unless all is done
  asked_in_time : (acts : List Act) → Runs plan commands (opening plan scope) acts → ClockRises 0 acts → CallsReturn plan commands scope call acts → asked_after false acts ≡ false
      → MayTakeTime (action_at plan (reached acts)) → (wait : ℕ) → IsAskedToWait plan (reached acts) (action_at plan (reached acts)) wait
      → ((reached acts).progress.moment.elapsed + wait ≤ ((reached acts).progress.began + 2 * plan.every) + span) ⊎ IsFinished (commands_in (reached acts).marks) (reached acts).progress
  asked_in_time acts runs rises calls unasked slow wait asked = by_time (is_out_of_time plan s.progress) refl where
    -- the model after these acts
    s : Model
    s = reached acts

    -- what is claimed
    Claim : Type 0
    Claim = (s.progress.moment.elapsed + wait ≤ (s.progress.began + 2 * plan.every) + span) ⊎ IsFinished (commands_in s.marks) s.progress

    -- what is in flight times out in time, and a setup goes on at once
    both : TimesOut plan longest span s × SettingUp plan longest call (longest + call) (7 * (longest + call)) commands s
    both = times_out plan commands scope longest call some listed few all_few acts runs rises (inr calls) unasked

    -- the end of the run wasn't asked for
    going : s.progress.stops ≡ false
    going = stops_as_asked plan commands scope acts runs ∙ unasked

    -- where a setup keeps the cycle from being abandoned, and nothing is in flight, no read is next
    no_read : is_out_of_time plan s.progress ≡ true → (waiting_of s).current ≡ 0 → setup_permits plan s.progress (waiting_of s) ≡ false
        → (until : Until) → action_at plan s ≡ actions.Read until → ⊥
    no_read late none e until is = by_until until (needs_of plan s (actions.Read until) is) where
      -- what holds in such a setup
      held : (s.progress.phase ≡ phase.Ready) × (has_begun s.progress ≡ true) × (s.progress.prepared < plan.setup)
          × (s.progress.moment.elapsed < (s.progress.began + 2 * plan.every) + span)
      held = held_by_setup plan longest call (longest + call) (7 * (longest + call)) commands s both.1 going slow e

      -- something of it was sent
      sent : 0 < s.progress.prepared
      sent = (not_permitted plan s.progress (waiting_of s) e).1

      -- the lemma above, by what the read waits for
      by_until : (until : Until) → AwaitsSomething plan s.progress (waiting_of s) until → ⊥
      by_until Limit (inl pausing) = let at = held.0 in let other : phase.Pausing ≡ phase.Ready = sym pausing ∙ at in cc
      by_until Limit (inr (inl draining)) = let at = held.0 in let other : phase.Draining ≡ phase.Ready = sym draining ∙ at in cc
      by_until Limit (inr (inr (ready, inl begins))) = both_ways (has_begun s.progress) begins.0 held.1
      by_until Limit (inr (inr (ready, inr (inl flies)))) = let some = flies.1 in omega (arith, none, some)
      by_until Limit (inr (inr (ready, inr (inr set_up)))) = let nothing = set_up.1 in let left = held.2 in omega (arith, nothing, left)
      by_until Due (ready, inl (idle, inl begins)) = both_ways (has_begun s.progress) begins held.1
      by_until Due (ready, inl (idle, inr on)) = let nothing = on.1 in omega (arith, nothing, sent)
      by_until Due (ready, inr done) = both_ways (is_wanted plan s.progress) done.2 (wanted_if_out plan s.progress (soon_due plan commands scope acts runs) late)

    -- the lemma above, where nothing is in flight, though the cycle is out of time: whether the setup lets it be abandoned
    by_setup : is_out_of_time plan s.progress ≡ true → (waiting_of s).current ≡ 0 → (b : Bool) → setup_permits plan s.progress (waiting_of s) ≡ b → Claim
    by_setup late none true e = by_why (in_time_if_slow plan commands scope acts (going, e) slow none) where
      -- the cycle is out of time, so all is done
      by_why : (is_out_of_time plan s.progress ≡ false) ⊎ IsFinished (commands_in s.marks) s.progress → Claim
      by_why (inl punctual) = absurd (both_ways (is_out_of_time plan s.progress) punctual late)
      by_why (inr done) = inr done
    by_setup late none false e =
        let soon = (held_by_setup plan longest call (longest + call) (7 * (longest + call)) commands s both.1 going slow e).3 in
        let zero_wait = waits_in_read plan s (action_at plan s) wait asked (no_read late none e) in
        inl (omega (arith, soon, zero_wait))

    -- the lemma above, where the cycle is out of time: whether something is in flight that hasn't timed out
    by_flight : is_out_of_time plan s.progress ≡ true → (b : Bool) → nat_eq (waiting_of s).current 0 ≡ b → Claim
    by_flight late true e = by_setup late (eqb-true (waiting_of s).current 0 e) (setup_permits plan s.progress (waiting_of s)) refl
    by_flight late false e =
        let limit = (s.progress.began + 2 * plan.every) + span in
        let within = deadlines_within 0 limit s.progress.moment.elapsed s.client.waiting
        (every_weaker (EndsBy limit) (EndsEarly 0 limit) s.client.waiting (λ q by e. let low = by e in omega (arith, low)) both.0.1)
        (both.0.2 (read_if_slow plan s.progress (waiting_of s) s.progress.phase refl slow)) in
        let until = waits_in_flight plan s 0 limit within (eqb-false (waiting_of s).current 0 e) (action_at plan s) wait asked in
        inl (omega (arith, until))

    -- the lemma above, whether the cycle is out of time
    by_time : (b : Bool) → is_out_of_time plan s.progress ≡ b → Claim
    by_time true late = by_flight late (nat_eq (waiting_of s).current 0) refl
    by_time false punctual =
        let until = waits_in_time plan s some punctual both.0.0 (short_if_punctual plan s.progress some punctual) (action_at plan s) wait asked in
        inl (omega (arith, until))

-- the law: each due cycle is recorded by its bound
pub records_by_bound : RecordsByBound
records_by_bound longest call readings plan commands scope acts runs some listed few all_few rises calls back unasked = by_last (last_slow plan commands scope [] acts) where
  -- how long after it was due a cycle is recorded at the latest
  wait : ℕ
  wait = bound plan commands longest call readings

  -- the moment after a run is the one that was read last
  moment_is : (acts : List Act) → Runs plan commands (opening plan scope) acts → ClockRises 0 acts → (state_after plan commands scope acts).progress.moment.elapsed ≡ latest 0 acts
  moment_is acts runs rises = (begun_if_clock_rises plan commands scope some acts runs rises).0

  -- whether a cycle has begun after a run
  begun : (acts : List Act) → Runs plan commands (opening plan scope) acts → ClockRises 0 acts → Begun plan commands scope some acts (state_after plan commands scope acts).progress
  begun acts runs rises = (begun_if_clock_rises plan commands scope some acts runs rises).1

  -- the lemma above, where `act` is the last that may take its time
  by_slow : (before quick : List Act) (act : Act) → MayTakeTime (action_at plan (state_after plan commands scope before)) → AreQuick plan commands scope (before ++ act ∷ []) quick
      → let all = before ++ act ∷ quick in Runs plan commands (opening plan scope) all → ClockRises 0 all → CallsReturn plan commands scope call all
      → ReadingsReturn plan commands scope readings all → asked_after false all ≡ false → IsInTime plan commands scope (suc wait) all
  by_slow before quick act slow are runs rises calls back unasked =
      let runs_there = runs_front plan commands (opening plan scope) before (act ∷ quick) runs in
      let rises_there = rises_before 0 before (act ∷ quick) rises in
      let given = calls.each before quick act refl slow in
      let read = read_by plan commands scope readings (latest 0 before + given.0 + call) before (act ∷ quick) (omega arith) given.2 are back in
      let now = moment_is (before ++ act ∷ quick) runs rises in
      let before_it = moment_is before runs_there rises_there in
      near_in_time plan commands scope some wait before (act ∷ quick) runs rises (begun before runs_there rises_there) (begun (before ++ act ∷ quick) runs rises)
      (by_reach given.0 read now before_it
      (asked_in_time plan commands scope longest call some listed few all_few before runs_there rises_there (calls_front plan commands scope call before (act ∷ quick) calls) (unasked_before before (act ∷ quick) unasked) slow given.0 given.1)) where
        -- the moment read last of all acts is near (`IsNear`), if the last call that may take its time wasn't asked to wait for long
        by_reach : let p = (state_after plan commands scope before).progress in
            let near = (state_after plan commands scope (before ++ act ∷ quick)).progress.moment.elapsed in
            (wait_there : ℕ) → latest 0 (before ++ act ∷ quick) ≤ (latest 0 before + wait_there + call) + readings → near ≡ latest 0 (before ++ act ∷ quick) → p.moment.elapsed ≡ latest 0 before
            → (p.moment.elapsed + wait_there ≤ (p.began + 2 * plan.every) + ((longest + plan.setup * longest) + raws_of_setup plan commands * (7 * (longest + call)))) ⊎ IsFinished (commands_in (state_after plan commands scope before).marks) p
            → IsNear plan commands scope some wait before (act ∷ quick)
        by_reach wait_there read now before_it (inl short) =
            let p = (state_after plan commands scope before).progress in
            inl (reaches _ _ (latest 0 before) p.moment.elapsed wait_there call readings p.began (2 * plan.every) plan.setup longest (raws_of_setup plan commands * (7 * (longest + call))) read now before_it short)
        by_reach wait_there read now before_it (inr done) = inr done

  -- the lemma above, whether an act may take its time
  by_last : AreQuick plan commands scope [] acts ⊎ LastSlow plan commands scope [] acts → IsInTime plan commands scope (suc wait) acts
  by_last (inl quick) =
      let read = read_by plan commands scope readings call [] acts (omega arith) calls.first (quick_behind plan commands scope [] acts quick) back in
      let now = moment_is acts runs rises in
      near_in_time plan commands scope some wait [] acts runs rises (inl (refl, refl, refl)) (begun acts runs rises) (inl (omega (arith, read, now)))
  by_last (inr found) =
      subst (λ (xs : List Act). Runs plan commands (opening plan scope) xs → ClockRises 0 xs → CallsReturn plan commands scope call xs → ReadingsReturn plan commands scope readings xs
      → asked_after false xs ≡ false → IsInTime plan commands scope (suc wait) xs)
      (sym found.order) (by_slow found.before found.quick found.act found.slow found.are) runs rises calls back unasked
