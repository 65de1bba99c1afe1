-- How long calls are asked to wait, and when the first moment behind them is read. An act is one call on the link, with its result.
use Rattle.gc_station.proofs.Common.{◌≡◌, ℕ, ◌+◌, ◌-◌, ◌<◌, ◌≤◌, ◌||◌, Bool, true, false, not, if◌then◌else◌, List, [], ◌∷◌, ◌++◌, length, map, filter, min, max, nat_eq, nat_lt, Option, Some, None, refl, sym, ap, ◌∙◌, subst, arith, append_assoc, MatchOption, option_map_or, cond_both, both_ways, All-from_recursion, All-contains, AllByRecursion, Asked, Pending, IsEarliest, deadlines, Task, Act, Told, Gave, Silent, Closed, Moment, moment_in, MayTakeTime, IsAskedToWait, IsReadBy, CallsReturn, has_begun, is_stale, is_stopping, is_up, action_in, action_without_turns, Model, action_at, waiting_of, with_progress, with_moment, with_rest, lines_completed, is_heard, piece_at, moved, Performs, out_of_time_at, stale_at, longest_timeout, read_end_without_deadline, read_timeout, turned, moment_noted, time_passed, phase_again, is_spared, HasLast, state_after, Scope, latest, Cause, Plan, Action, Phase, Progress, Until, Waiting}
use Rattle.gc_station.specs.Progressing.{is_finished}
use Rattle.gc_station.proofs.Closings.{needs_of}
use Rattle.gc_station.proofs.InFlight.{EndsAfter, EndsEarly}
use Rattle.gc_station.proofs.Walk.{asked_along, came_along, quieted_along, closed_along, walk}
use Rattle.gc_station.specs.declared.cause.Cause.TheVariants as cause
use Rattle.gc_station.specs.declared.progress.Action.TheVariants as actions
use Rattle.gc_station.specs.declared.progress.Phase.TheVariants as phase

-- the moment read last of two rows of acts is that of the second, counted from that of the first
pub latest_append : (now : ℕ) (xs ys : List Act) → latest now (xs ++ ys) ≡ latest (latest now xs) ys
latest_append now [] ys = refl
latest_append now (x ∷ xs) ys = latest_append (latest now (x ∷ [])) xs ys

-- what is read by a moment is read by a later one
pub read_later : (n m : ℕ) (acts : List Act) → n ≤ m → IsReadBy n acts → IsReadBy m acts
read_later n m [] le by = tt
read_later n m (Told x ∷ acts) le by = omega (arith, le, by)
read_later n m (Gave bytes x ∷ acts) le by = omega (arith, le, by)
read_later n m (Silent x ∷ acts) le by = omega (arith, le, by)
read_later n m (act ∷ acts) le by = read_later n m acts le by

-- How long a call is asked to wait.

-- of the requests that haven't timed out each deadline is after `now`, and at least `time` before `limit`
pub deadlines_within : (time limit now : ℕ) (ws : List (Pending Asked)) → AllByRecursion (EndsEarly time limit) ws → AllByRecursion (EndsAfter now) ws
    → AllByRecursion (λ (d : ℕ). (now < d) × (d + time ≤ limit)) (deadlines ws)
deadlines_within time limit now [] by after = tt
deadlines_within time limit now (q ∷ ws) by after = by_test (deadlines_within time limit now ws by.1 after.1) q.given_up refl where
  -- what is claimed, whether the first request has timed out
  Claim : Bool → Type 0
  Claim b = AllByRecursion (λ (d : ℕ). (now < d) × (d + time ≤ limit)) (map (λ (p : Pending Asked). p.deadline) (if not b then q ∷ filter (λ (p : Pending Asked). not p.given_up) ws else filter (λ (p : Pending Asked). not p.given_up) ws))

  -- the lemma above, whether the first request has timed out
  by_test : AllByRecursion (λ (d : ℕ). (now < d) × (d + time ≤ limit)) (deadlines ws) → (b : Bool) → q.given_up ≡ b → Claim q.given_up
  by_test others true e = subst Claim (sym e) others
  by_test others false e = subst Claim (sym e) ((after.0 e, by.0 e), others)

-- a read whose time is over at `end` or before isn't asked to wait past a later moment `limit`
pub waits_until : (first end now longest limit : ℕ) → end ≤ limit → now < limit → now + min (max (min first end - now) 1) longest ≤ limit
waits_until first end now longest limit within before = omega (arith, within, before)

-- a read isn't asked to wait past the earliest deadline
waits_until_deadline : (deadline other stale end now longest limit : ℕ) → deadline ≤ limit → now < deadline
    → now + min (max (min (min (min deadline other) stale) end - now) 1) longest ≤ limit
waits_until_deadline deadline other stale end now longest limit within before = omega (arith, within, before)

-- a call that isn't asked to wait is not asked to wait past a moment that isn't before `now`
pub waits_not : (now limit wait : ℕ) → wait ≡ 0 → now ≤ limit → now + wait ≤ limit
waits_not now limit wait none within = omega (arith, none, within)

-- where something is in flight that hasn't timed out, no call is asked to wait past the earliest deadline, which is at least `time` before
-- `limit`
pub waits_in_flight : (plan : Plan) (s : Model) (time limit : ℕ) → AllByRecursion (λ (d : ℕ). (s.progress.moment.elapsed < d) × (d + time ≤ limit)) (deadlines s.client.waiting)
    → (length (deadlines s.client.waiting) ≡ 0 → ⊥) → (o : Action) (wait : ℕ) → IsAskedToWait plan s o wait → (s.progress.moment.elapsed + wait) + time ≤ limit
waits_in_flight plan s time limit within some (actions.Read until) wait asked = by_deadline asked.0 asked.1 asked.2 where
  -- the lemma above, by the earliest deadline
  by_deadline : (deadline : Option ℕ) → IsEarliest (deadlines s.client.waiting) deadline → wait ≡ read_timeout plan s.progress (waiting_of s).fresh until deadline
      → (s.progress.moment.elapsed + wait) + time ≤ limit
  by_deadline None none is = absurd (some (ap (λ (ds : List ℕ). length ds) none))
  by_deadline (Some d) earliest is =
      let p = s.progress in
      let here = All-contains (λ (d : ℕ). (p.moment.elapsed < d) × (d + time ≤ limit)) (deadlines s.client.waiting) d
      (All-from_recursion (λ (d : ℕ). (p.moment.elapsed < d) × (d + time ≤ limit)) (deadlines s.client.waiting) within) earliest.0
      in
      let until_end = waits_until_deadline d (read_end_without_deadline plan p until) (stale_at plan (waiting_of s).fresh) (out_of_time_at plan p) p.moment.elapsed (longest_timeout plan) d (omega arith) here.0 in
      let early = here.1 in
      omega (arith, until_end, is, early)
waits_in_flight plan s time limit within some o wait asked = let early = by_first (deadlines s.client.waiting) within some in let none : wait ≡ 0 = asked in omega (arith, early, none) where
  -- the moment read last is before the first deadline
  by_first : (ds : List ℕ) → AllByRecursion (λ (d : ℕ). (s.progress.moment.elapsed < d) × (d + time ≤ limit)) ds → (length ds ≡ 0 → ⊥) → s.progress.moment.elapsed + time ≤ limit
  by_first [] all full = absurd (full refl)
  by_first (d ∷ ds) all full = let low = all.0.0 in let high = all.0.1 in omega (arith, low, high)

-- if the action that is next may take its time, the moment was read
pub read_if_slow : (plan : Plan) (p : Progress) (w : Waiting) (at : Phase) → p.phase ≡ at → MayTakeTime (action_in at plan p w) → p.clock_due ≡ false
read_if_slow plan p w (phase.Closing why) is on = absurd on
read_if_slow plan p w (phase.Over why) is on = absurd on
read_if_slow plan p w at is on =
    cond_both (nat_eq p.turns 0) _ _ Now (λ e. without_turns (is_up p.phase))
    (λ e. cond_both (is_stale plan p w) (actions.Close cause.Stale) _ Now (λ e o. absurd o)
    (λ e. cond_both (is_stopping p w) (actions.Close cause.Stopped) _ Now (λ e o. absurd o)
    (λ e. cond_both p.clock_due actions.ReadClock _ Now (λ e o. absurd o) (λ now o. now)))) on where
      -- if the action may take its time, the moment was read
      Now : Action → Type 0
      Now next = MayTakeTime next → p.clock_due ≡ false

      -- without turns no action takes its time
      without_turns : (up : Bool) → Now (action_without_turns up)
      without_turns true o = absurd o
      without_turns false o = absurd o

-- The clock behind a request.

-- the action `o` sent, and its act read no moment: the call may take its time, and isn't asked to wait
pub record SentLast (plan : Plan) (s : Model) (o : Action) (act : Act) : Type 0 where
  pub slow : MayTakeTime o
  pub at_once : (wait : ℕ) → IsAskedToWait plan s o wait → wait ≡ 0
  pub unread : moment_in act ≡ None

-- after a call that failed the phase isn't `Ready`
failed_elsewhere : (up : Bool) (why : Cause) → (if up then phase.Closing why else phase.Over why) ≡ phase.Ready → ⊥
failed_elsewhere true why e = cc
failed_elsewhere false why e = cc

-- after the loss of a connection the phase isn't `Ready`
lost_elsewhere : (plan : Plan) (count : ℕ) (why : Cause) (p : Progress) → phase_again plan count why p ≡ phase.Ready → ⊥
lost_elsewhere plan count why p =
    cond_both (is_finished count p) (phase.Over cause.Done) _ Off (λ e ready. cc)
    (λ e. cond_both (is_spared plan why p || nat_lt 0 p.tries) phase.Pausing (phase.Over why) Off (λ e ready. cc) (λ e ready. cc)) where
      -- the phase isn't `Ready`
      Off : Phase → Type 0
      Off at = at ≡ phase.Ready → ⊥

-- after an act of each action: if the moment is out of date in the phase `Ready`, once the station has synchronized, a request was sent
pub sent_last : (plan : Plan) (commands : List Task) (s : Model) (o : Action) (act : Act) → Performs commands s o act
    → let p = (moved plan commands o (with_progress turned s) act).progress in p.clock_due ≡ true → p.phase ≡ phase.Ready → has_begun p ≡ true → SentLast plan s o act
sent_last plan commands s o act obeys = by_action o obeys where
  -- the model before the act, with its turn taken
  u : Model
  u = with_progress turned s

  -- what is claimed of an act of an action and the progress after it
  Of : Action → Act → Progress → Type 0
  Of o a p = p.clock_due ≡ true → p.phase ≡ phase.Ready → has_begun p ≡ true → SentLast plan s o a

  -- the same of the model after it
  Claim : Action → Act → Model → Type 0
  Claim o a t = Of o a t.progress

  -- after a call that failed
  failed : (o : Action) (a : Act) (up : Bool) (why : Cause) → (if up then phase.Closing why else phase.Over why) ≡ phase.Ready → SentLast plan s o a
  failed o a up why ready = absurd (failed_elsewhere up why ready)

  -- the moment was read where bytes came
  read : (until : Until) (bytes : List ℕ) (m : Moment) → (piece_at plan until bytes m u).progress.clock_due ≡ false
  read until bytes m =
      let mid = with_moment m (with_progress (moment_noted m) u) in
      came_along (λ (x : Model). x.progress.clock_due ≡ false) (λ x line e. e) (is_heard u.progress.phase) u.progress.exchange.word bytes mid refl
      (asked_along (λ (q : Progress). q.clock_due ≡ false) (λ q line e. e) mid.progress (lines_completed mid.rest bytes) refl) refl

  -- a phase after a clearing isn't `Ready` if the station has synchronized
  drains : (begun : Bool) → (if begun then phase.Draining else phase.Ready) ≡ phase.Ready → begun ≡ true → ⊥
  drains true ready e = cc
  drains false ready e = cc

  -- the lemma above, by the action
  by_action : (o : Action) → Performs commands s o act → Claim o act (moved plan commands o u act)
  by_action actions.Open b = walk plan commands (Claim actions.Open) actions.Open u act b (λ m due ready begun. cc, λ n due ready begun. absurd (lost_elsewhere plan _ cause.Open u.progress ready))
  by_action actions.Clear b =
      walk plan commands (Claim actions.Clear) actions.Clear u act b
      (λ m due ready begun. absurd (drains (has_begun u.progress) ready begun), λ n due ready begun. failed actions.Clear _ _ _ ready)
  by_action actions.Ask b =
      walk plan commands (Claim actions.Ask) actions.Ask u act b
      (λ m due ready begun. record { slow = tt; at_once = λ wait e. e; unread = refl }, λ n due ready begun. record { slow = tt; at_once = λ wait e. e; unread = refl })
  by_action actions.Prepare b =
      walk plan commands (Claim actions.Prepare) actions.Prepare u act b
      (λ m due ready begun. record { slow = tt; at_once = λ wait e. e; unread = refl }, λ n due ready begun. record { slow = tt; at_once = λ wait e. e; unread = refl })
  by_action actions.Send b =
      walk plan commands (Claim actions.Send) actions.Send u act b
      (λ m due ready begun. record { slow = tt; at_once = λ wait e. e; unread = refl }, λ n due ready begun. record { slow = tt; at_once = λ wait e. e; unread = refl })
  by_action actions.Flush b =
      walk plan commands (Claim actions.Flush) actions.Flush u act b
      (λ m due ready begun. record { slow = tt; at_once = λ wait e. e; unread = refl }, λ n due ready begun. record { slow = tt; at_once = λ wait e. e; unread = refl })
  by_action (actions.Read until) b =
      walk plan commands (Claim (actions.Read until)) (actions.Read until) u act b (
        λ bytes m due ready begun. absurd (both_ways (piece_at plan until bytes m u).progress.clock_due (read until bytes m) due),
        λ m. quieted_along (Of (actions.Read until) (Silent m)) plan s.progress.phase (time_passed until m u.progress) (λ due ready begun. cc) (λ due ready begun. cc) (λ due ready begun. cc),
        λ due ready begun. failed (actions.Read until) _ _ _ ready,
        λ due ready begun. failed (actions.Read until) _ _ _ ready,
        λ due ready begun. failed (actions.Read until) _ _ _ ready,
      )
  by_action (actions.Close why) b =
      walk plan commands (Claim (actions.Close why)) (actions.Close why) u act b
      (closed_along (Of (actions.Close why) Closed) plan (waiting_of (with_rest [] u)) why u.progress (λ due ready begun. cc) (λ due ready begun. absurd (lost_elsewhere plan _ why u.progress ready)))
  by_action (actions.Stop why) b = absurd b
  by_action o b = walk plan commands (Claim o) o u act b (λ m due ready begun. cc, λ n due ready begun. failed o _ _ _ ready)

-- Calls that return in time.

-- what is read by a moment among acts is so among the first of them
pub by_front : (n : ℕ) (xs ys : List Act) → IsReadBy n (xs ++ ys) → IsReadBy n xs
by_front n [] ys by = tt
by_front n (Told m ∷ xs) ys by = by
by_front n (Gave bytes m ∷ xs) ys by = by
by_front n (Silent m ∷ xs) ys by = by
by_front n (x ∷ xs) ys by = by_front n xs ys by

-- if the calls of acts return, those of the first of them do
pub calls_front : (plan : Plan) (commands : List Task) (scope : Scope) (call : ℕ) (xs ys : List Act) → CallsReturn plan commands scope call (xs ++ ys) → CallsReturn plan commands scope call xs
calls_front plan commands scope call xs ys calls =
    record {
      first = by_front call xs ys calls.first;
      each = λ earlier later act e slow.
          let order = ap (λ (zs : List Act). zs ++ ys) e ∙ append_assoc earlier (act ∷ later) ys in
          let given = calls.each earlier (later ++ ys) act order slow in
          (given.0, given.1, by_front (latest 0 earlier + given.0 + call) (act ∷ later) ys given.2);
    }

-- the read of this act was of a moment that wasn't out of date, and returned at most `call` after its wait
pub record ReadsInTime (plan : Plan) (s : Model) (call : ℕ) (until : Until) (act : Act) : Type 0 where
  pub read : s.progress.clock_due ≡ false
  pub wait : ℕ
  pub asked : IsAskedToWait plan s (actions.Read until) wait
  pub by : IsReadBy ((s.progress.moment.elapsed + wait) + call) (act ∷ [])

-- the act returned in time: a reading of the clock `call` after the moment read last, and a read as `ReadsInTime` says
abbrev pub IsTimely : Plan → Model → (call : ℕ) → Action → Act → Type 0
IsTimely plan s call actions.ReadClock act = IsReadBy (s.progress.moment.elapsed + call) (act ∷ [])
IsTimely plan s call (actions.Read until) act = ReadsInTime plan s call until act
IsTimely plan s call o act = Unit {0}

module _ (plan : Plan) (commands : List Task) (scope : Scope) (call : ℕ) where
  -- if the moment is out of date in the phase `Ready`, once the station has synchronized, the last of these acts sent a request
  abbrev pub SentBefore : List Act → Model → Type 0
  SentBefore done t =
      t.progress.clock_due ≡ true → t.progress.phase ≡ phase.Ready → has_begun t.progress ≡ true
      → HasLast done (λ earlier last. SentLast plan (state_after plan commands scope earlier) (action_at plan (state_after plan commands scope earlier)) last)

  -- so calls that return do so in time in the phase `Ready`, once the station has synchronized
  pub timely : (done : List Act) (act : Act) → CallsReturn plan commands scope call (done ++ act ∷ []) → let s = state_after plan commands scope done in
      s.progress.moment.elapsed ≡ latest 0 done → SentBefore done s → s.progress.phase ≡ phase.Ready → has_begun s.progress ≡ true
      → IsTimely plan s call (action_at plan s) act
  timely done act calls now sent ready begun = by_action (action_at plan s) refl where
    -- the model before the act
    s : Model
    s = state_after plan commands scope done

    -- behind a request
    behind : HasLast done (λ earlier last. SentLast plan (state_after plan commands scope earlier) (action_at plan (state_after plan commands scope earlier)) last)
        → IsReadBy (s.progress.moment.elapsed + call) (act ∷ [])
    behind last =
        let it = last.3 in
        let order = ap (λ (xs : List Act). xs ++ act ∷ []) last.2 ∙ append_assoc last.0 (last.1 ∷ []) (act ∷ []) in
        let given = calls.each last.0 (act ∷ []) last.1 order it.slow in
        let none = it.at_once given.0 given.1 in
        let limit = latest 0 last.0 + given.0 + call in
        let by = subst (λ (o : Option Moment). MatchOption o (IsReadBy limit (act ∷ [])) (λ m. m.elapsed ≤ limit)) it.unread given.2 in
        let same : latest 0 done ≡ latest 0 last.0 =
        ap (λ (xs : List Act). latest 0 xs) last.2 ∙ latest_append 0 last.0 (last.1 ∷ []) ∙ ap (λ (o : Option Moment). option_map_or (λ m. m.elapsed) o (latest 0 last.0)) it.unread in
        read_later limit (s.progress.moment.elapsed + call) (act ∷ []) (omega (arith, none, same, now)) by

    -- the lemma above, by the action
    by_action : (o : Action) → action_at plan s ≡ o → IsTimely plan s call o act
    by_action actions.ReadClock is = behind (sent (needs_of plan s actions.ReadClock is) ready begun)
    by_action (actions.Read until) is =
        let slow = subst MayTakeTime (sym is) tt in
        let given = calls.each done [] act refl slow in
        record {
          read = read_if_slow plan s.progress (waiting_of s) s.progress.phase refl slow;
          wait = given.0;
          asked = subst (λ (o : Action). IsAskedToWait plan s o given.0) is given.1;
          by = read_later (latest 0 done + given.0 + call) ((s.progress.moment.elapsed + given.0) + call) (act ∷ []) (omega (arith, now)) given.2;
        }
    by_action o is = tt
