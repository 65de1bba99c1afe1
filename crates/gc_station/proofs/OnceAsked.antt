-- How long a run goes on once its end was asked for: what a read waits for then, and how many requests are sent. Each request leaves less
-- that may be sent: a command of the cycle, or one of the null procedures after the last command (`requests_left`). An act is one call on
-- the link, with its result.
use Rattle.gc_station.proofs.Common.{◌≡◌, inl, inr, ℕ, suc, ◌+◌, ◌*◌, ◌-◌, ◌<◌, ◌≤◌, ◌&&◌, ◌||◌, Bool, true, false, not, if◌then◌else◌, List, [], ◌∷◌, ◌++◌, length, map, Option, None, nat_lt, nat_le, nat_eq, refl, sym, ap, ◌∙◌, subst, arith, append_assoc, length-map, both_ways, cond_both, and_parts, false_from_ne_true, nat_tests, expired, WINDOW, rest_behind, Task, one_more_in_window, Act, Gave, Silent, Moment, has_begun, is_up, is_unquiet, is_out_of_time, may_abandon, is_resting, is_stopping, is_stale, is_overdue, is_between_chains, is_cut, is_preparing, action_in, action_without_turns, commands_in, commands_before, Model, opening, action_at, waiting_of, with_progress, with_rest, lines_completed, is_heard, after_piece, moved, losing, with_losses, after, Performs, Runs, requests_by, requests_sent, EndsSoonOnceAsked, turned, loses_all, is_over, time_passed, quieted, HoldsBefore, AwaitsSomething, WantsNull, state_after, WhereNext, Scope, asked_after, Cause, Mark, Plan, Action, Phase, Progress, Until, Limit, Due, Waiting}
use Rattle.gc_station.specs.RecordedInTime.{MayTakeTime}
use Rattle.gc_station.proofs.Asked.{begun_if_nothing_lost}
use Rattle.gc_station.proofs.Closings.{came_phase, needs_of, runs_split}
use Rattle.gc_station.proofs.Counts.{with_losses_progress}
use Rattle.gc_station.proofs.EachRun.{invariant_holds}
use Rattle.gc_station.proofs.Facts.{action_for}
use Rattle.gc_station.proofs.InCycle.{above_zero, in_chain_by_test}
use Rattle.gc_station.proofs.Always.{always_of_progress}
use Rattle.gc_station.proofs.Going.{after_all-append}
use Rattle.gc_station.proofs.InTime.{asked_stays}
use Rattle.gc_station.proofs.Invariant.{Invariant, is_before_requests}
use Rattle.gc_station.proofs.NoneEnded.{NoneEndedBefore, none_ended_holds}
use Rattle.gc_station.proofs.Outages.{not_overdue}
use Rattle.gc_station.proofs.Records.{commands-append}
use Rattle.gc_station.proofs.Stopping.{asked-append, stops_as_asked}
use Rattle.gc_station.proofs.Turns.{no_act_once_over}
use Rattle.gc_station.proofs.Walk.{came_along, asked_along, quieted_along, closed_along, moved_changed, model_sent, walk, piece_before}
use Rattle.gc_station.proofs.Nulls.{tail_nulls, nulls_within, nulls_more, NullsAreOfTable, nulls_of_table, nulls_expired, nulls_left, requests_left, nulls_few, nulls_if_some, nulls_if_far, nulls_after, nulls_after_most, nulls_after_begun, Listens, line_heard}
use Rattle.gc_station.specs.declared.cause.Cause.TheVariants as cause
use Rattle.gc_station.specs.declared.progress.Action.TheVariants as actions
use Rattle.gc_station.specs.declared.progress.Phase.TheVariants as phase

-- Acts.

module _ (plan : Plan) (commands : List Task) (s : Model) (act : Act) (fine : Invariant plan commands s) (before : NoneEndedBefore s.progress) where
  -- the model before the act, with its turn taken
  abbrev u : Model
  u = with_progress turned s

  -- after an act of this action: with the requests that it sends, no more may be sent than before
  abbrev pub Fewer : (o : Action) → Act → Model → Type 0
  Fewer o a t = requests_by o + requests_left t.progress t.marks ≤ requests_left s.progress s.marks

  -- null procedures are calls of the table
  nulls : NullsAreOfTable s.marks s.client.waiting
  nulls = nulls_of_table commands s.marks s.client.waiting fine.own

  -- as many may be sent
  same : 0 + requests_left s.progress s.marks ≤ requests_left s.progress s.marks
  same = omega arith

  -- after a command was sent
  sent_fewer : (behind' : ℕ) (marks' : List (Option Mark)) → 0 < s.progress.unsent → 1 + (8 * (s.progress.unsent - 1) + nulls_left behind' marks') ≤ requests_left s.progress s.marks
  sent_fewer behind' marks' some = let few = nulls_few behind' marks' in omega (arith, few, some)

  -- after a null procedure was sent
  flushed_fewer : HoldsBefore plan s.progress (waiting_of s) actions.Flush → 1 + (8 * s.progress.unsent + nulls_left (one_more_in_window s.progress.exchange.behind) (s.marks ++ None ∷ [])) ≤ requests_left s.progress s.marks
  flushed_fewer needs = by_why needs.2 where
    -- one null procedure more
    more : tail_nulls (s.marks ++ None ∷ []) ≡ suc (tail_nulls s.marks)
    more = nulls_more s.marks

    -- fewer than seven come after the last command
    few : tail_nulls s.marks < 7
    few = let within = nulls_within s.marks in let paired = fine.paired in let room = needs.4.1 in omega (arith, within, paired, room)

    -- the lemma above, by why it is wanted
    by_why : WantsNull plan s.progress (waiting_of s) → 1 + (8 * s.progress.unsent + nulls_left (one_more_in_window s.progress.exchange.behind) (s.marks ++ None ∷ [])) ≤ requests_left s.progress s.marks
    by_why (inl waits) =
        let some : 0 < commands_in s.marks = waits.1 in
        let append = commands-append s.marks (None ∷ []) in
        let now = nulls_if_some (one_more_in_window s.progress.exchange.behind) (s.marks ++ None ∷ []) (omega (arith, append, some)) in
        let was = nulls_if_some s.progress.exchange.behind s.marks some in
        omega (arith, now, was, more, few)
    by_why (inr wants) =
        let far : 7 ≤ s.progress.exchange.behind = wants.1 in
        let still : 7 ≤ one_more_in_window s.progress.exchange.behind = cond_both (nat_lt s.progress.exchange.behind WINDOW) (s.progress.exchange.behind + 1) s.progress.exchange.behind (λ (n : ℕ). 7 ≤ n) (λ e. omega (arith, far)) (λ e. far) in
        let now = nulls_if_far (one_more_in_window s.progress.exchange.behind) (s.marks ++ None ∷ []) still in
        let was = nulls_if_far s.progress.exchange.behind s.marks far in
        omega (arith, now, was, more, few)

  -- after a read that gave bytes
  gave_fewer : (until : Until) (bytes : List ℕ) (m : Moment) → let t = moved plan commands (actions.Read until) u (Gave bytes m) in 0 + requests_left t.progress t.marks ≤ requests_left s.progress s.marks
  gave_fewer until bytes m =
      let x = piece_before m s in
      let n = nulls_left s.progress.exchange.behind s.marks in
      let lengths : length (map (expired m.elapsed) s.client.waiting) ≡ length s.client.waiting = length-map s.client.waiting (expired m.elapsed) in
      let paired = fine.paired in
      let window = fine.window in
      let told : Listens n x = (nulls_expired m.elapsed s.marks s.client.waiting nulls, omega (arith, paired, lengths), omega (arith, window, lengths), omega arith) in
      let P : Model → Type 0 = λ (t : Model). Listens n t × (t.progress.unsent ≡ s.progress.unsent) in
      let it : P (after_piece (is_heard s.progress.phase) s.progress.exchange.word bytes x) = came_along P (λ t line h. (line_heard n t line h.0, h.1)) (is_heard s.progress.phase) s.progress.exchange.word bytes x
      (told, refl) (asked_along (λ (q : Progress). P (record (with_rest (rest_behind x.rest bytes) x) { progress = q })) (λ q line h. h) x.progress (lines_completed x.rest bytes) (told, refl)) (told, refl) in
      let unsent = it.1 in
      let few = it.0.3 in
      omega (arith, unsent, few)

  -- once the end of the run was asked for, an act leaves no more that may be sent, and less if it sends a request, unless the station
  -- resynchronizes
  others_fewer : (o : Action) → (o ≡ actions.Renew → ⊥) → Performs commands s o act → HoldsBefore plan s.progress (waiting_of s) o → s.progress.stops ≡ true → Fewer o act (moved plan commands o u act)
  others_fewer actions.Begin other b needs asked = absurd (both_ways s.progress.stops needs.5 asked)
  others_fewer actions.Prepare other b needs asked = absurd (both_ways s.progress.stops needs.5 asked)
  others_fewer actions.Renew other b needs asked = absurd (other refl)
  others_fewer actions.Ask other b needs asked =
      let none = before needs.1 in
      let more : one_more_in_window s.progress.exchange.behind ≡ s.progress.exchange.behind = ap one_more_in_window none ∙ sym none in
      let fewer : nulls_left (one_more_in_window s.progress.exchange.behind) s.marks ≡ nulls_left s.progress.exchange.behind s.marks = ap (λ (n : ℕ). nulls_left n s.marks) more in
      walk plan commands (Fewer actions.Ask) actions.Ask u act b (λ m. omega (arith, fewer), λ n. omega (arith, fewer))
  others_fewer actions.Send other b needs asked =
      walk plan commands (Fewer actions.Send) actions.Send u act b (
        λ m. sent_fewer (model_sent plan commands u).progress.exchange.behind (model_sent plan commands u).marks needs.2,
        λ n. sent_fewer (model_sent plan commands u).progress.exchange.behind (model_sent plan commands u).marks needs.2,
      )
  others_fewer actions.Flush other b needs asked = walk plan commands (Fewer actions.Flush) actions.Flush u act b (λ m. flushed_fewer needs, λ n. flushed_fewer needs)
  others_fewer actions.Skip other b needs asked = walk plan commands (Fewer actions.Skip) actions.Skip u act b (λ m. omega arith, λ n. same)
  others_fewer actions.Pass other b needs asked = walk plan commands (Fewer actions.Pass) actions.Pass u act b (λ m. omega arith, λ n. same)
  others_fewer (actions.Read until) other b needs asked =
      walk plan commands (Fewer (actions.Read until)) (actions.Read until) u act b (
        λ bytes m. gave_fewer until bytes m,
        λ m. quieted_along (λ (q : Progress). 0 + requests_left q s.marks ≤ requests_left s.progress s.marks) plan s.progress.phase (time_passed until m u.progress) same same same,
        same,
        same,
        same,
      )
  others_fewer (actions.Close why) other b needs asked =
      walk plan commands (Fewer (actions.Close why)) (actions.Close why) u act b
      (closed_along (λ (q : Progress). 0 + requests_left q s.marks ≤ requests_left s.progress s.marks) plan (waiting_of (with_rest [] u)) why u.progress same same)
  others_fewer (actions.Stop why) other b needs asked = absurd b
  others_fewer o other b needs asked = walk plan commands (Fewer o) o u act b (λ m. same, λ n. same)

  -- after an act of this action: with the requests that it sends, no more may be sent than before
  abbrev pub LeavesFewer : Action → Model → Type 0
  LeavesFewer o t = requests_by o + (8 * t.progress.unsent + nulls_after t) ≤ requests_left s.progress s.marks

  -- once the end of the run was asked for, an act leaves no more that may be sent, and less if it sends a request
  pub acts_fewer : (o : Action) → Performs commands s o act → HoldsBefore plan s.progress (waiting_of s) o → s.progress.stops ≡ true → LeavesFewer o (moved plan commands o u act)
  acts_fewer actions.Renew b needs asked =
      let n = nulls_left s.progress.exchange.behind s.marks in
      let none : 0 + (8 * s.progress.unsent + 0) ≤ 8 * s.progress.unsent + n = omega arith in
      let most = cond_both (has_begun s.progress) n 0 (λ (m : ℕ). 0 + (8 * s.progress.unsent + m) ≤ 8 * s.progress.unsent + n) (λ e. omega arith) (λ e. omega arith) in
      walk plan commands (λ (a : Act). LeavesFewer actions.Renew) actions.Renew u act b (λ m. none, λ x. most)
  acts_fewer o b needs asked =
      let all = others_fewer o (λ e. cc) b needs asked in
      let most = nulls_after_most (moved plan commands o u act) in
      omega (arith, all, most)

-- Where the run may end.

-- the action closes the connection, or ends the run
abbrev pub IsEnd : Action → Type 0
IsEnd (actions.Close why) = Unit {0}
IsEnd (actions.Stop why) = Unit {0}
IsEnd _ = ⊥

-- where a run may end whose end was asked for, it ends
pub ends_there : (plan : Plan) (p : Progress) (w : Waiting) (at : Phase) → is_stopping p w ≡ true → IsEnd (action_in at plan p w)
ends_there plan p w (phase.Closing why) stopping = tt
ends_there plan p w (phase.Over why) stopping = tt
ends_there plan p w at stopping =
    cond_both (nat_eq p.turns 0) _ _ IsEnd (λ e. without_turns (is_up p.phase))
    (λ e. cond_both (is_stale plan p w) (actions.Close cause.Stale) _ IsEnd (λ _. tt)
    (λ _. cond_both (is_stopping p w) (actions.Close cause.Stopped) _ IsEnd (λ _. tt) (λ goes. absurd (both_ways (is_stopping p w) goes stopping)))) where
      -- without turns the run ends
      without_turns : (up : Bool) → IsEnd (action_without_turns up)
      without_turns true = tt
      without_turns false = tt

-- if the action that is next is neither, and the end of the run was asked for, it may not end here
pub not_resting : (plan : Plan) (p : Progress) (w : Waiting) (o : Action) → action_in p.phase plan p w ≡ o → (IsEnd o → ⊥) → p.stops ≡ true → is_resting p w ≡ false
not_resting plan p w o is goes asked = false_from_ne_true (is_resting p w) (λ rests. goes (subst IsEnd is (ends_there plan p w p.phase (ap (λ (b : Bool). b && is_resting p w) asked ∙ rests))))

-- by the tests of `is_resting`: there is a connection, the station has synchronized, and where it is between two chains, something is in
-- flight that hasn't timed out
pub resting_parts : (up begun none between cut : Bool) → ((not up || not begun) || (none && (between || cut))) ≡ false → (up ≡ true) × (begun ≡ true) × (between ≡ true → none ≡ false) × (cut ≡ true → none ≡ false)
resting_parts true true false between cut e = (refl, refl, λ b. refl, λ b. refl)
resting_parts true true true false false e = (refl, refl, λ b. cc, λ b. cc)
resting_parts true true true true cut e = cc
resting_parts true true true false true e = cc
resting_parts true false none between cut e = cc
resting_parts false begun none between cut e = cc

-- No chain is unbroken on a connection that isn't quiet.

-- if a chain isn't broken, the phase isn't one before requests
abbrev IsQuietIfUnbroken : Progress → Type 0
IsQuietIfUnbroken p = p.chain_unbroken ≡ true → is_before_requests p.phase ≡ false

-- a silence changes no other phase than those before requests
quieted_phase : (plan : Plan) (at : Phase) (p : Progress) → is_before_requests at ≡ false → (quieted plan at p).phase ≡ p.phase
quieted_phase plan phase.Ready p e = refl
quieted_phase plan (phase.Closing why) p e = refl
quieted_phase plan (phase.Over why) p e = refl
quieted_phase plan phase.Down p e = cc
quieted_phase plan phase.Pausing p e = cc
quieted_phase plan phase.Clearing p e = cc
quieted_phase plan phase.Draining p e = cc

-- a call that failed isn't followed by a phase before requests
failed_quiet : (up : Bool) (why : Cause) → is_before_requests (if up then phase.Closing why else phase.Over why) ≡ false
failed_quiet true why = refl
failed_quiet false why = refl

module _ (plan : Plan) (commands : List Task) where
  -- an act of each action preserves it
  quiet_moved : (s : Model) (o : Action) (act : Act) → Performs commands s o act → HoldsBefore plan s.progress (waiting_of s) o → IsQuietIfUnbroken s.progress
      → IsQuietIfUnbroken (moved plan commands o (with_progress turned s) act).progress
  quiet_moved s actions.Open act b needs h =
      walk plan commands (λ a t. IsQuietIfUnbroken t.progress) actions.Open (with_progress turned s) act b
      (λ m c. absurd (both_ways (is_before_requests s.progress.phase) (h c) (ap is_before_requests needs)), λ n c. cc)
  quiet_moved s actions.Clear act b needs h =
      walk plan commands (λ a t. IsQuietIfUnbroken t.progress) actions.Clear (with_progress turned s) act b (
        λ m c. absurd (both_ways (is_before_requests s.progress.phase) (h c) (ap is_before_requests needs)),
        λ n c. absurd (both_ways (is_before_requests s.progress.phase) (h c) (ap is_before_requests needs)),
      )
  quiet_moved s actions.Renew act b needs h = walk plan commands (λ a t. IsQuietIfUnbroken t.progress) actions.Renew (with_progress turned s) act b (λ m c. cc, λ n c. failed_quiet (is_up s.progress.phase) cause.Clock)
  quiet_moved s actions.Begin act b needs h = walk plan commands (λ a t. IsQuietIfUnbroken t.progress) actions.Begin (with_progress turned s) act b (λ m c. cc, λ n c. failed_quiet (is_up s.progress.phase) cause.Clock)
  quiet_moved s actions.Skip act b needs h = walk plan commands (λ a t. IsQuietIfUnbroken t.progress) actions.Skip (with_progress turned s) act b (λ m c. cc, λ n c. failed_quiet (is_up s.progress.phase) cause.Clock)
  quiet_moved s actions.Pass act b needs h = walk plan commands (λ a t. IsQuietIfUnbroken t.progress) actions.Pass (with_progress turned s) act b (λ m c. cc, λ n c. failed_quiet (is_up s.progress.phase) cause.Clock)
  quiet_moved s actions.ReadClock act b needs h = walk plan commands (λ a t. IsQuietIfUnbroken t.progress) actions.ReadClock (with_progress turned s) act b (λ m. h, λ n c. failed_quiet (is_up s.progress.phase) cause.Clock)
  quiet_moved s actions.Prepare act b needs h = walk plan commands (λ a t. IsQuietIfUnbroken t.progress) actions.Prepare (with_progress turned s) act b (λ m c. cc, λ n c. cc)
  quiet_moved s actions.Send act b needs h =
      walk plan commands (λ a t. IsQuietIfUnbroken t.progress) actions.Send (with_progress turned s) act b
      (λ m c. ap is_before_requests needs.0, λ n c. failed_quiet (is_up s.progress.phase) (cause.Write (commands_before plan commands (turned s.progress)) n))
  quiet_moved s actions.Flush act b needs h =
      walk plan commands (λ a t. IsQuietIfUnbroken t.progress) actions.Flush (with_progress turned s) act b
      (λ m. h, λ n c. failed_quiet (is_up s.progress.phase) (cause.Write (commands_before plan commands (turned s.progress)) n))
  quiet_moved s actions.Ask act b needs h =
      walk plan commands (λ a t. IsQuietIfUnbroken t.progress) actions.Ask (with_progress turned s) act b
      (λ m. h, λ n c. failed_quiet (is_up s.progress.phase) (cause.Write (commands_before plan commands (turned s.progress)) n))
  quiet_moved s (actions.Read until) act b needs h =
      let u = with_progress turned s in
      walk plan commands (λ a t. (t ≡ moved plan commands (actions.Read until) u a) → IsQuietIfUnbroken t.progress) (actions.Read until) u act b (
        λ bytes m e c.
            let was : s.progress.chain_unbroken ≡ true = sym (ap (λ (x : Model). x.progress.chain_unbroken) (moved_changed plan commands (actions.Read until) u (Gave bytes m))) ∙ c in
            ap is_before_requests (came_phase (is_heard s.progress.phase) s.progress.exchange.word bytes (piece_before m s)) ∙ h was,
        λ m e c.
            let was : s.progress.chain_unbroken ≡ true = sym (ap (λ (x : Model). x.progress.chain_unbroken) (moved_changed plan commands (actions.Read until) u (Silent m))) ∙ c in
            ap is_before_requests (quieted_phase plan s.progress.phase (time_passed until m u.progress) (h was)) ∙ h was,
        λ e c. failed_quiet (is_up s.progress.phase) cause.End,
        λ e c. failed_quiet (is_up s.progress.phase) cause.Read,
        λ e c. failed_quiet (is_up s.progress.phase) cause.Clock,
      ) refl
  quiet_moved s (actions.Close why) act b needs h =
      walk plan commands (λ a t. IsQuietIfUnbroken t.progress) (actions.Close why) (with_progress turned s) act b
      (closed_along IsQuietIfUnbroken plan (waiting_of (with_rest [] (with_progress turned s))) why (turned s.progress) (λ c. cc) (λ c. cc))
  quiet_moved s (actions.Stop why) act b needs h = absurd b

  -- it holds after each run
  quiet_holds : (scope : Scope) (acts : List Act) → Runs plan commands (opening plan scope) acts → IsQuietIfUnbroken (state_after plan commands scope acts).progress
  quiet_holds scope acts runs =
      always_of_progress plan commands (opening plan scope) (λ (p : Progress) (done : List Act). IsQuietIfUnbroken p) (λ done act runs' b h.
      let s = state_after plan commands scope done in
      quiet_moved s (action_at plan s) act b (action_for plan s.progress (waiting_of s)) h) (λ c. cc) acts runs

-- The law.

-- in the middle of a chain in a missed cycle, with nothing in flight, the cycle is overdue
missed_overdue : (plan : Plan) (p : Progress) (w : Waiting) → p.missed ≡ true → is_between_chains p ≡ false → nat_eq w.current 0 ≡ true → may_abandon p.phase ≡ true → has_begun p ≡ true → is_overdue plan p w ≡ true
missed_overdue plan p w missed chained none may begun =
    let it = in_chain_by_test p chained in
    by_tests p.missed (nat_lt 0 p.unsent) (is_out_of_time plan p && not p.stops) (nat_eq w.current 0) (may_abandon p.phase) (is_preparing plan p w) (nat_eq p.prepared 0 || nat_lt 0 w.commands) (has_begun p) (nat_eq w.commands 0)
    (nat_eq p.left 0) (nat_eq p.unsent 0) missed (grind (arith, nat_tests, it.0)) none may
    (ap (λ (b : Bool). b && not (nat_le plan.setup p.prepared && nat_eq w.commands 0 && w.well)) it.2) begun (grind (arith, nat_tests, it.0)) where
      -- the lemma above, by each test
      by_tests : (missed some late none may preparing other begun settled left done : Bool) → missed ≡ true → some ≡ true → none ≡ true → may ≡ true → preparing ≡ false → begun ≡ true → done ≡ false
          → (((missed && some) || late) && ((none && may) && ((not preparing || other) && ((begun || settled) && not (left && done && settled))))) ≡ true
      by_tests true true late true true false other true settled true false a b c d e f g = refl
      by_tests true true late true true false other true settled false false a b c d e f g = refl
      by_tests false some late none may preparing other begun settled left done a b c d e f g = cc
      by_tests true false late none may preparing other begun settled left done a b c d e f g = cc
      by_tests true true late false may preparing other begun settled left done a b c d e f g = cc
      by_tests true true late true false preparing other begun settled left done a b c d e f g = cc
      by_tests true true late true true true other begun settled left done a b c d e f g = cc
      by_tests true true late true true false other false settled left done a b c d e f g = cc
      by_tests true true late true true false other true settled left true a b c d e f g = cc

-- while a setup is sent the station is between two chains
between_if_preparing : (plan : Plan) (p : Progress) (w : Waiting) → is_preparing plan p w ≡ true → is_between_chains p ≡ true
between_if_preparing plan p w on = by_tests (nat_eq p.unsent 0 || not p.next_is_chained) p.preparing (and_parts p.preparing (not (nat_le plan.setup p.prepared && nat_eq w.commands 0 && w.well)) on).0 where
  -- the lemma above, by the tests
  by_tests : (a b : Bool) → b ≡ true → (a || b) ≡ true
  by_tests true b e = refl
  by_tests false b e = e

-- once no command is left the station is between two chains
between_if_sent : (p : Progress) → p.unsent ≡ 0 → is_between_chains p ≡ true
between_if_sent p none = ap (λ (n : ℕ). (nat_eq n 0 || not p.next_is_chained) || p.preparing) none

-- what may still be sent of a model: nothing, if what is outstanding is lost
abbrev may_send : Model → ℕ
may_send s = if loses_all s.progress then 0 else requests_left s.progress s.marks

module _ (plan : Plan) (commands : List Task) (scope : Scope) where
  -- an act leaves no more that may be sent, and less if it sends a request, once the end of the run was asked for
  leaves_fewer : (earlier : List Act) (act : Act) → Runs plan commands (opening plan scope) earlier → asked_after false earlier ≡ true
      → let s = state_after plan commands scope earlier in Performs commands s (action_at plan s) act → requests_by (action_at plan s) + may_send (after plan commands s act) ≤ may_send s
  leaves_fewer earlier act runs asked obeys = by_test (loses_all s.progress) refl where
    -- the model before the act
    s : Model
    s = state_after plan commands scope earlier

    -- the next action
    o : Action
    o = action_at plan s

    -- the model after the act, before what is outstanding is lost
    t : Model
    t = moved plan commands o (with_progress turned s) act

    -- the end of the run was asked for
    stops : s.progress.stops ≡ true
    stops = stops_as_asked plan commands scope earlier runs ∙ asked

    -- with the requests that the act sends, no more may be sent
    fewer : requests_by o + (8 * t.progress.unsent + nulls_after t) ≤ requests_left s.progress s.marks
    fewer = acts_fewer plan commands s act (invariant_holds plan commands scope earlier) (none_ended_holds plan commands scope earlier runs) o obeys (action_for plan s.progress (waiting_of s)) stops

    -- while the station synchronizes, the run ends
    ended : has_begun s.progress ≡ false → requests_by o + may_send (with_losses t) ≤ 0
    ended begins = by_action o obeys (ends_there plan s.progress (waiting_of s) s.progress.phase (ap (λ (b : Bool). b && is_resting s.progress (waiting_of s)) stops ∙ rests (is_up s.progress.phase) (has_begun s.progress) (nat_eq (waiting_of s).current 0 && (is_between_chains s.progress || is_cut s.progress)) begins)) where
      -- the run may end here
      rests : (up begun other : Bool) → begun ≡ false → ((not up || not begun) || other) ≡ true
      rests true false other e = refl
      rests false false other e = refl
      rests up true other e = cc

      -- by the action, which is a close
      by_action : (o : Action) → Performs commands s o act → IsEnd o → requests_by o + may_send (with_losses (moved plan commands o (with_progress turned s) act)) ≤ 0
      by_action (actions.Close why) b end =
          let begins' : has_begun (moved plan commands (actions.Close why) (with_progress turned s) act).progress ≡ false =
          closed_along (λ (q : Progress). has_begun q ≡ false) plan (waiting_of (with_rest [] (with_progress turned s))) why (turned s.progress) begins begins in
          lost (moved plan commands (actions.Close why) (with_progress turned s) act) begins' where
            -- what is outstanding is lost
            lost : (x : Model) → has_begun x.progress ≡ false → 0 + may_send (with_losses x) ≤ 0
            lost x e =
                let gone : loses_all (with_losses x).progress ≡ true = ap loses_all (with_losses_progress x) ∙ ap (λ (b : Bool). not b || is_over x.progress) e in
                let none : may_send (with_losses x) ≡ 0 = ap (λ (b : Bool). if b then 0 else requests_left (with_losses x).progress (with_losses x).marks) gone in
                omega (arith, none)
      by_action (actions.Stop why) b end = absurd b
      by_action next b end = absurd end

    -- the lemma above, whether all was lost before the act
    by_test : (b : Bool) → loses_all s.progress ≡ b → requests_by o + may_send (after plan commands s act) ≤ may_send s
    by_test false e = subst (λ (n : ℕ). requests_by o + may_send (with_losses t) ≤ n) (ap (λ (b : Bool). if b then 0 else requests_left s.progress s.marks) (sym e)) (by_losses (loses_all t.progress) refl) where
      -- by whether all is lost after it
      by_losses : (b : Bool) → loses_all t.progress ≡ b → requests_by o + may_send (losing b t) ≤ requests_left s.progress s.marks
      by_losses false f =
          let same = nulls_after_begun t (begun_if_nothing_lost t f) in
          let all : requests_by o + requests_left t.progress t.marks ≤ requests_left s.progress s.marks = omega (arith, fewer, same) in
          subst (λ (c : Bool). requests_by o + (if c then 0 else requests_left t.progress t.marks) ≤ requests_left s.progress s.marks) (sym f) all
      by_losses true f =
          let none : may_send (losing true t) ≡ 0 = ap (λ (b : Bool). if b then 0 else requests_left (losing true t).progress (losing true t).marks) f in
          omega (arith, none, fewer)
    by_test true e = by_begun (has_begun s.progress) refl where
      -- nothing may be sent
      none : may_send s ≡ 0
      none = ap (λ (b : Bool). if b then 0 else requests_left s.progress s.marks) e

      -- by whether the station has synchronized
      by_begun : (b : Bool) → has_begun s.progress ≡ b → requests_by o + may_send (after plan commands s act) ≤ may_send s
      by_begun false f = let zero = ended f in omega (arith, zero)
      by_begun true f = absurd (no_act_once_over plan commands s act (over (has_begun s.progress) (is_over s.progress) f e) obeys) where
        -- the run is over
        over : (begun gone : Bool) → begun ≡ true → (not begun || gone) ≡ true → gone ≡ true
        over true gone f e = e
        over false gone f e = cc

  -- the requests that acts send were left to be sent
  sends_few : (earlier later : List Act) → Runs plan commands (opening plan scope) (earlier ++ later) → asked_after false earlier ≡ true
      → requests_sent plan commands (state_after plan commands scope earlier) later ≤ may_send (state_after plan commands scope earlier)
  sends_few earlier [] runs asked = omega arith
  sends_few earlier (act ∷ later) runs asked =
      let s = state_after plan commands scope earlier in
      let split = runs_split plan commands (opening plan scope) earlier later act runs in
      let there : state_after plan commands scope (earlier ++ act ∷ []) ≡ after plan commands s act = after_all-append plan commands (opening plan scope) earlier (act ∷ []) in
      let still : asked_after false (earlier ++ act ∷ []) ≡ true = asked-append false earlier (act ∷ []) ∙ ap (λ (b : Bool). asked_after b (act ∷ [])) asked ∙ asked_stays act in
      let rest = subst (λ (x : Model). requests_sent plan commands x later ≤ may_send x) there
      (sends_few (earlier ++ act ∷ []) later (subst (λ (xs : List Act). Runs plan commands (opening plan scope) xs) (sym (append_assoc earlier (act ∷ []) later)) runs) still) in
      let one = leaves_fewer earlier act split.0 asked split.1 in
      omega (arith, rest, one)

-- the law: a run ends soon once its end was asked for
pub ends_soon : EndsSoonOnceAsked
ends_soon = record {
  waits = waits;
  opens = λ plan commands scope acts runs is asked.
      let s = state_after plan commands scope acts in
      let rests = not_resting plan s.progress (waiting_of s) actions.Open is (λ e. e) (stops_as_asked plan commands scope acts runs ∙ asked) in
      let parts = resting_parts (is_up s.progress.phase) (has_begun s.progress) (nat_eq (waiting_of s).current 0) (is_between_chains s.progress) (is_cut s.progress) rests in
      both_ways (is_up s.progress.phase) (ap is_up (needs_of plan s actions.Open is)) parts.0;
  asks = λ plan commands scope acts runs is asked.
      let s = state_after plan commands scope acts in
      let rests = not_resting plan s.progress (waiting_of s) actions.Ask is (λ e. e) (stops_as_asked plan commands scope acts runs ∙ asked) in
      let parts = resting_parts (is_up s.progress.phase) (has_begun s.progress) (nat_eq (waiting_of s).current 0) (is_between_chains s.progress) (is_cut s.progress) rests in
      both_ways (has_begun s.progress) (needs_of plan s actions.Ask is).1 parts.1;
  sends = λ plan commands scope earlier later runs asked.
      let s = state_after plan commands scope earlier in
      let few = sends_few plan commands scope earlier later runs asked in
      let nulls = nulls_few s.progress.exchange.behind s.marks in
      let most : may_send s ≤ 8 * s.progress.unsent + 7 = cond_both (loses_all s.progress) 0 (requests_left s.progress s.marks) (λ (n : ℕ). n ≤ 8 * s.progress.unsent + 7) (λ e. omega arith) (λ e. omega (arith, nulls)) in
      omega (arith, few, most);
} where
  -- what a read waits for
  waits : (until : Until) → WhereNext (actions.Read until) (λ plan commands scope acts. asked_after false acts ≡ true → 0 < (waiting_of (state_after plan commands scope acts)).current)
  waits until plan commands scope acts runs is asked = by_until until (needs_of plan s (actions.Read until) is) where
    -- the model before the read
    s : Model
    s = state_after plan commands scope acts

    -- what is outstanding
    w : Waiting
    w = waiting_of s

    -- the run may not end here
    parts : (is_up s.progress.phase ≡ true) × (has_begun s.progress ≡ true) × (is_between_chains s.progress ≡ true → nat_eq w.current 0 ≡ false) × (is_cut s.progress ≡ true → nat_eq w.current 0 ≡ false)
    parts = resting_parts (is_up s.progress.phase) (has_begun s.progress) (nat_eq w.current 0) (is_between_chains s.progress) (is_cut s.progress)
        (not_resting plan s.progress w (actions.Read until) is (λ e. e) (stops_as_asked plan commands scope acts runs ∙ asked))

    -- something is in flight between two chains
    between : is_between_chains s.progress ≡ true → 0 < w.current
    between e = above_zero w.current (parts.2 e)

    -- and while a connection is drained
    draining : s.progress.phase ≡ phase.Draining → (b : Bool) → is_between_chains s.progress ≡ b → (c : Bool) → s.progress.missed ≡ c → (d : Bool) → nat_eq w.current 0 ≡ d → 0 < w.current
    draining at true e c f d g = between e
    draining at false e c f false g = above_zero w.current g
    draining at false e true f true g =
        absurd (both_ways (is_overdue plan s.progress w) (not_overdue plan s.progress w s.progress.phase refl (subst MayTakeTime (sym is) tt))
        (missed_overdue plan s.progress w f e g (ap may_abandon at) parts.1))
    draining at false e false f true g =
        let broken : s.progress.chain_unbroken ≡ false = false_from_ne_true s.progress.chain_unbroken
        (λ c. both_ways (is_before_requests s.progress.phase) (quiet_holds plan commands scope acts runs c) (ap is_before_requests at)) in
        let cut : is_cut s.progress ≡ true = ap (λ (x : Phase). is_unquiet x && not s.progress.chain_unbroken && not s.progress.missed) at
        ∙ ap (λ (b : Bool). true && not b && not s.progress.missed) broken ∙ ap (λ (b : Bool). true && not false && not b) f in
        above_zero w.current (parts.3 cut)

    -- the lemma above, by what the read waits for
    by_until : (until : Until) → AwaitsSomething plan s.progress w until → 0 < w.current
    by_until Limit (inl pausing) = absurd (both_ways (is_up s.progress.phase) (ap is_up pausing) parts.0)
    by_until Limit (inr (inl at)) = draining at (is_between_chains s.progress) refl s.progress.missed refl (nat_eq w.current 0) refl
    by_until Limit (inr (inr (at, inl begins))) = absurd (both_ways (has_begun s.progress) begins.0 parts.1)
    by_until Limit (inr (inr (at, inr (inl nothing)))) = nothing.1
    by_until Limit (inr (inr (at, inr (inr set_up)))) = between (between_if_preparing plan s.progress w set_up.0)
    by_until Due (at, inl (idle, inl begins)) = absurd (both_ways (has_begun s.progress) begins parts.1)
    by_until Due (at, inl (idle, inr on)) = between (between_if_preparing plan s.progress w on.0)
    by_until Due (at, inr done) = between (between_if_sent s.progress done.0)
