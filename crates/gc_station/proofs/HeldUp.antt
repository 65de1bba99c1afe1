-- A text without raw commands is never held up: if each command is a call of the table, the requests sent after the last call of
-- the table that a reply ended are as many as the outstanding ones, once a reply has ended one. Until then only null procedures are
-- sent. An act is one call on the link, with its result; steps of the
-- client are to send, to hear a line, to read the clock and to restart.
use Rattle.gc_station.proofs.Common.{◌≡◌, ◌⊎◌, inl, inr, ℕ, zero, suc, ◌+◌, ◌-◌, ◌<◌, ◌≤◌, ◌&&◌, Bool, true, false, not, List, [], ◌∷◌, ◌++◌, length, map, drop, Option, Some, None, refl, sym, ap, ◌∙◌, subst, arith, if◌then◌else◌, nat_lt, nat_eq, slice_get, AllByRecursion, ltb-true, ltb-false, lt-ltb, eqb-true, and_right, both_ways, cond-true, nat_tests, length-map, length-append, nil_from_length, every_drop, is_of_table, Asked, Step, Hear, Expire, Restart, sent_on, course_at, ById, heard, hears, settles_at, send_unless_full, settle, expired, pending_of, Pending, WINDOW, length-settle, call_at, Occasion, Task, has_room, one_more_in_window, is_some_of_table, ends_with_table, client_stepped, client_after, Moment, Act, Told, Put, Cut, Gave, Silent, behind_step, Mark, Plan, Action, Progress, Waiting, AreOfTable, AwaitsFirstReply, IsNotHeldUp, TheTableIsNeverHeldUp, has_begun, is_dead, action_to_send, action_room, action_waiting, width_of, commands_in, occasion_of, put_part, request_part, first_request_part, client_part, sync_part, part_of_act, turned, time_passed, is_over, loses_all, HoldsBefore, state_after, Model, opening, action_at, waiting_of, is_heard, with_progress, with_rest, lines_completed, moved, losing, after, Performs, with_losses, request_or_null, mark_sent, mark_setup_sent, place_next}
use Rattle.std.proofs.Common.{length-drop}
use Rattle.gc_client.specs.Prelude.{Send}
use Rattle.gc_texts.proofs.TaskMoments.{at_any_moment}
use Rattle.gc_station.proofs.Always.{always}
use Rattle.gc_station.proofs.Behind.{behind_by}
use Rattle.gc_station.proofs.Counts.{losing_progress}
use Rattle.gc_station.proofs.EachRun.{invariant_holds}
use Rattle.gc_station.proofs.Facts.{action_for}
use Rattle.gc_station.proofs.GoesBehind.{behind_counted, all_heard_steps}
use Rattle.gc_station.proofs.Invariant.{Invariant}
use Rattle.gc_station.proofs.NoneEnded.{NoneEnded, NoneEndedBefore, none_ended, none_ended_holds}
use Rattle.gc_station.proofs.Parting.{leads, keeps_new_client}
use Rattle.gc_station.proofs.Records.{commands-append}
use Rattle.gc_station.proofs.Turns.{no_act_once_over}
use Rattle.gc_station.proofs.Walk.{came_along, asked_along, quieted_along, closed_along, walk, piece_before}
use Rattle.gc_station.proofs.Words.{renews_only}
use Rattle.gc_station.proofs.Losing.{loses_nothing}
use Rattle.gc_station.proofs.Lists.{all_append}
use Rattle.gc_station.specs.declared.progress.Action.TheVariants as action

-- Steps of the client.

-- an outstanding request is a call of the table
abbrev pub IsTableCall : Pending Asked → Type 0
IsTableCall p = is_of_table p.call ≡ true

-- a step sends calls of the table alone, and isn't a restart
abbrev SendsTableCalls : Step Asked → Type 0
SendsTableCalls (Send target call deadline) = is_of_table call ≡ true
SendsTableCalls (Hear line) = Unit {0}
SendsTableCalls (Expire now) = Unit {0}
SendsTableCalls Restart = ⊥

-- only calls of the table wait at the client c, at most seven, and `b`, which counts the requests after the last call of the
-- table that a reply ended, is how many wait
record Level (c : ById Asked) (b : ℕ) : Type 0 where
  tables : AllByRecursion IsTableCall c.waiting
  few : length c.waiting ≤ WINDOW
  same : b ≡ length c.waiting

-- requests that are calls of the table still are once they may have timed out
pub expired_tables : (now : ℕ) (ps : List (Pending Asked)) → AllByRecursion IsTableCall ps → AllByRecursion IsTableCall (map (expired now) ps)
expired_tables now [] all = tt
expired_tables now (p ∷ ps) all = (all.0, expired_tables now ps all.1)

-- the last request that a reply settles is a call of the table, if all are
pub settle_tables : (k : ℕ) (line : List ℕ) (ps : List (Pending Asked)) → k < length ps → AllByRecursion IsTableCall ps → is_some_of_table (slice_get (settle k line ps) k) ≡ true
settle_tables k line [] low all = absurd (omega (arith, low))
settle_tables zero line (p ∷ ps) low all = all.0
settle_tables (suc k) line (p ∷ ps) low all = settle_tables k line ps (omega (arith, low)) all.1

-- `one_more_in_window` of a number below seven is that number plus 1
one_more_below : (n : ℕ) → n < WINDOW → one_more_in_window n ≡ n + 1
one_more_below n low = cond-true (nat_lt n WINDOW) (n + 1) n (lt-ltb n WINDOW low)

-- a send of a call of the table preserves `Level`, whether the window is full (`full`), so that the send is refused, or not
level_sent : (c : ById Asked) (b target : ℕ) (call : Asked) (deadline : ℕ) → is_of_table call ≡ true → Level c b → (full : Bool) → nat_eq (length c.waiting) WINDOW ≡ full
    → Level (sent_on (course_at c) target call (send_unless_full c target call deadline full)).client (one_more_in_window b)
level_sent c b target call deadline table h true e =
    let seven = eqb-true (length c.waiting) 7 e in
    let same : one_more_in_window b ≡ length c.waiting = ap one_more_in_window (h.same ∙ seven) ∙ sym seven in
    record { tables = h.tables; few = h.few; same = same }
level_sent c b target call deadline table h false e =
    let low : length c.waiting < WINDOW = less (length c.waiting) h.few e in
    let more = length-append c.waiting (pending_of target call deadline ∷ []) in
    record {
      tables = all_append IsTableCall c.waiting (pending_of target call deadline ∷ []) h.tables (table, tt);
      few = omega (arith, more, low);
      same = ap one_more_in_window h.same ∙ one_more_below (length c.waiting) low ∙ sym more;
    } where
      -- a number that is at most seven, and isn't seven, is below seven
      less : (n : ℕ) → n ≤ 7 → nat_eq n 7 ≡ false → n < 7
      less n few other = grind (arith, nat_tests, few, other)

-- after a line that settled requests, up to the one at the place k, `Level` holds of how many wait then
level_settled : (c : ById Asked) (b : ℕ) (line : List ℕ) (k : ℕ) → k < length c.waiting → AllByRecursion IsTableCall c.waiting → length c.waiting ≤ WINDOW
    → Level (settles_at c line k true).client (if ends_with_table (settle k line c.waiting) then length (drop (k + 1) c.waiting) else b)
level_settled c b line k low tables few =
    let many = length-settle k line c.waiting low in
    let at : length (settle k line c.waiting) - 1 ≡ k = omega (arith, many) in
    let ends : ends_with_table (settle k line c.waiting) ≡ true = ap (λ n. is_some_of_table (slice_get (settle k line c.waiting) n)) at ∙ settle_tables k line c.waiting low tables in
    let left = length-drop (k + 1) c.waiting in
    record {
      tables = every_drop IsTableCall c.waiting (k + 1) tables;
      few = omega (arith, left, few);
      same = ap (λ (t : Bool). if t then length (drop (k + 1) c.waiting) else b) ends;
    }

-- a line preserves `Level`, with the count after it: how many requests wait then, if the line settled requests of which the last
-- is a call of the table; and else b
level_heard : (c : ById Asked) (b : ℕ) (line : List ℕ) (o : Option ℕ) → Level c b
    → Level (hears c line o).client (if ends_with_table (hears c line o).settlements then length (hears c line o).client.waiting else b)
level_heard c b line None h = h
level_heard c b line (Some id) h = by_test _ _ refl where
  -- the lemma above, by whether the id is of an outstanding request (`true`)
  by_test : (k : ℕ) (fits : Bool) → nat_lt k (length c.waiting) ≡ fits
      → Level (settles_at c line k fits).client (if ends_with_table (settles_at c line k fits).settlements then length (settles_at c line k fits).client.waiting else b)
  by_test k false e = h
  by_test k true e = level_settled c b line k (ltb-true k (length c.waiting) e) h.tables h.few

-- only calls of the table wait at the client c, at most seven, and `b` is seven, as a reply has ended none yet
record Unended (c : ById Asked) (b : ℕ) : Type 0 where
  tables : AllByRecursion IsTableCall c.waiting
  few : length c.waiting ≤ WINDOW
  far : b ≡ WINDOW

-- a send of a call of the table preserves `Unended`, whether the window is full (`full`) or not
unended_sent : (c : ById Asked) (b target : ℕ) (call : Asked) (deadline : ℕ) → is_of_table call ≡ true → Unended c b → (full : Bool) → nat_eq (length c.waiting) WINDOW ≡ full
    → Unended (sent_on (course_at c) target call (send_unless_full c target call deadline full)).client (one_more_in_window b)
unended_sent c b target call deadline table h full e =
    let all = level_sent c (length c.waiting) target call deadline table (record { tables = h.tables; few = h.few; same = refl }) full e in
    record { tables = all.tables; few = all.few; far = ap one_more_in_window h.far }

-- after a line `Level` holds if it settled requests, and otherwise still `Unended`
unended_heard : (c : ById Asked) (b : ℕ) (line : List ℕ) (o : Option ℕ) → Unended c b
    → let n = if ends_with_table (hears c line o).settlements then length (hears c line o).client.waiting else b in
    Unended (hears c line o).client n ⊎ Level (hears c line o).client n
unended_heard c b line None h = inl h
unended_heard c b line (Some id) h = by_test _ _ refl where
  -- the lemma above, by whether the id is of an outstanding request (`true`)
  by_test : (k : ℕ) (fits : Bool) → nat_lt k (length c.waiting) ≡ fits
      → let n = if ends_with_table (settles_at c line k fits).settlements then length (settles_at c line k fits).client.waiting else b in
      Unended (settles_at c line k fits).client n ⊎ Level (settles_at c line k fits).client n
  by_test k false e = inl h
  by_test k true e = inr (level_settled c b line k (ltb-true k (length c.waiting) e) h.tables h.few)

-- a step that sends calls of the table alone preserves `Level`
level_step : (c : ById Asked) (b : ℕ) (step : Step Asked) → SendsTableCalls step → Level c b → Level (client_stepped c step) (behind_step c b step)
level_step c b (Send target call deadline) table h = level_sent c b target call deadline table h (nat_eq (length c.waiting) WINDOW) refl
level_step c b (Hear line) table h = level_heard c b line (heard line) h
level_step c b (Expire now) table h =
    let many = length-map c.waiting (expired now) in
    record { tables = expired_tables now c.waiting h.tables; few = subst (λ n. n ≤ WINDOW) (sym many) h.few; same = h.same ∙ sym many }
level_step c b Restart table h = absurd table

-- steps that send calls of the table alone preserve `Level`
level_steps : (c : ById Asked) (b : ℕ) (steps : List (Step Asked)) → AllByRecursion SendsTableCalls steps → Level c b → Level (client_after c steps) (behind_by c b steps)
level_steps c b [] all h = h
level_steps c b (step ∷ steps) all h = level_steps (client_stepped c step) (behind_step c b step) steps all.1 (level_step c b step all.0 h)

-- a step that sends calls of the table alone preserves `Unended`, or `Level` holds after it
unended_step : (c : ById Asked) (b : ℕ) (step : Step Asked) → SendsTableCalls step → Unended c b
    → Unended (client_stepped c step) (behind_step c b step) ⊎ Level (client_stepped c step) (behind_step c b step)
unended_step c b (Send target call deadline) table h = inl (unended_sent c b target call deadline table h (nat_eq (length c.waiting) WINDOW) refl)
unended_step c b (Hear line) table h = unended_heard c b line (heard line) h
unended_step c b (Expire now) table h =
    let many = length-map c.waiting (expired now) in
    inl (record { tables = expired_tables now c.waiting h.tables; few = subst (λ n. n ≤ WINDOW) (sym many) h.few; far = h.far })
unended_step c b Restart table h = absurd table

-- steps that send calls of the table alone preserve `Unended`, or `Level` holds after them
unended_steps : (c : ById Asked) (b : ℕ) (steps : List (Step Asked)) → AllByRecursion SendsTableCalls steps → Unended c b
    → Unended (client_after c steps) (behind_by c b steps) ⊎ Level (client_after c steps) (behind_by c b steps)
unended_steps c b [] all h = inl h
unended_steps c b (step ∷ steps) all h =
    by_case (λ still. unended_steps (client_stepped c step) (behind_step c b step) steps all.1 still) (unended_step c b step all.0 h) where
      -- what is claimed
      Claim : Type 0
      Claim = Unended (client_after c (step ∷ steps)) (behind_by c b (step ∷ steps)) ⊎ Level (client_after c (step ∷ steps)) (behind_by c b (step ∷ steps))

      -- the lemma above, by what holds after the first step
      by_case : (Unended (client_stepped c step) (behind_step c b step) → Claim)
          → Unended (client_stepped c step) (behind_step c b step) ⊎ Level (client_stepped c step) (behind_step c b step) → Claim
      by_case rest (inl still) = rest still
      by_case rest (inr level) = inr (level_steps (client_stepped c step) (behind_step c b step) steps all.1 level)

-- Acts.

-- if the text of a task asks for a call of the table, the task does so on any occasion
pub of_table_at_any_moment : (task : Task) (occasion : Occasion) → is_of_table task.command.call ≡ true → is_of_table (call_at task occasion) ≡ true
of_table_at_any_moment task occasion is =
    at_any_moment (λ call. is_of_table call ≡ true) task occasion refl (λ raw other e same. absurd (both_ways (is_of_table task.command.call) (ap is_of_table e) is)) is

-- the step that sends the first of these commands sends a call of the table, if all of them are
first_tables : (now : ℕ) (mark : Mark) (left : List Task) → AreOfTable left → AllByRecursion SendsTableCalls (first_request_part now mark left).steps
first_tables now mark [] all = tt
first_tables now mark (task ∷ others) all = (of_table_at_any_moment task (occasion_of mark) all.0, tt)

-- the step that sends the first of these commands of the setup, or a null procedure if there is none, sends a call of the table,
-- if all of them are
setup_tables : (plan : Plan) (now : ℕ) (mark : Mark) (left : List Task) → AreOfTable left → AllByRecursion SendsTableCalls (request_part now (request_or_null plan mark left)).steps
setup_tables plan now mark [] all = (refl, tt)
setup_tables plan now mark (task ∷ others) all = first_tables now mark (task ∷ others) all

-- no chain goes on, and nothing of the setup was sent
abbrev NothingBegun : Progress → Type 0
NothingBegun p = (p.chain_unbroken ≡ false) × (p.prepared ≡ 0)

-- and no command is outstanding
abbrev NothingSent : Model → Type 0
NothingSent s = (commands_in s.marks ≡ 0) × NothingBegun s.progress

-- what every run of calls of the table keeps. `behind` counts the requests after the last call of the table that a reply ended.
-- While the station synchronizes, nothing is begun; afterwards, until the run is over, a reply has ended no request and nothing but null
-- procedures was sent, or `behind` is the number of outstanding requests
record CountsWaiting (s : Model) : Type 0 where
  begins : has_begun s.progress ≡ false → NothingBegun s.progress
  level : has_begun s.progress ≡ true → is_over s.progress ≡ false → (Unended s.client s.progress.exchange.behind × NothingSent s) ⊎ Level s.client s.progress.exchange.behind

-- if the station has synchronized, and the run isn't over, the model stays at the end of an act, as nothing is lost
kept_model : (t : Model) → has_begun t.progress ≡ true → is_over t.progress ≡ false → with_losses t ≡ t
kept_model t begun going = ap (λ (b : Bool). losing b t) (loses_nothing (has_begun t.progress) (is_over t.progress) begun going)

-- if no command is among some marks, none is among the last of them
none_dropped : (n : ℕ) (marks : List (Option Mark)) → commands_in marks ≡ 0 → commands_in (drop n marks) ≡ 0
none_dropped zero marks none = none
none_dropped (suc n) [] none = refl
none_dropped (suc n) (None ∷ marks) none = none_dropped n marks none
none_dropped (suc n) (Some mark ∷ marks) none = absurd (omega (arith, none))

module _ (plan : Plan) (commands : List Task) where
  -- with seven requests behind the last call of the table, an act sends no command, and leaves it so that nothing is begun
  nothing_sent : (s : Model) (o : Action) (act : Act) → HoldsBefore plan s.progress (waiting_of s) o → Performs commands s o act → NoneEnded s.progress → NothingSent s
      → NothingSent (moved plan commands o (with_progress turned s) act)
  nothing_sent s action.Send act is obeys far h = let near = is.5 in absurd (omega (arith, near, far))
  nothing_sent s action.Prepare act is obeys far h = let near = is.4 in absurd (omega (arith, near, far))
  nothing_sent s action.Renew act is obeys far h = walk plan commands (λ a. NothingSent) action.Renew (with_progress turned s) act obeys (λ m. (h.0, (refl, refl)), λ n. h)
  nothing_sent s action.Begin act is obeys far h = walk plan commands (λ a. NothingSent) action.Begin (with_progress turned s) act obeys (λ m. (h.0, (refl, h.1.1)), λ n. h)
  nothing_sent s action.Skip act is obeys far h = walk plan commands (λ a. NothingSent) action.Skip (with_progress turned s) act obeys (λ m. (h.0, (refl, h.1.1)), λ n. h)
  nothing_sent s action.Pass act is obeys far h = walk plan commands (λ a. NothingSent) action.Pass (with_progress turned s) act obeys (λ m. (h.0, (refl, h.1.1)), λ n. h)
  nothing_sent s action.Open act is obeys far h = walk plan commands (λ a. NothingSent) action.Open (with_progress turned s) act obeys (λ m. h, λ n. (h.0, (refl, refl)))
  nothing_sent s action.Flush act is obeys far h =
      let more = commands-append s.marks (None ∷ []) in
      let none = h.0 in
      let still : commands_in (s.marks ++ None ∷ []) ≡ 0 = omega (arith, more, none) in
      walk plan commands (λ a. NothingSent) action.Flush (with_progress turned s) act obeys (λ m. (still, h.1), λ n. (still, h.1))
  nothing_sent s (action.Read until) act is obeys far h =
      walk plan commands (λ a. NothingSent) (action.Read until) (with_progress turned s) act obeys (
        λ bytes m. came_along NothingSent (λ t line h. (none_dropped (length (hears t.client line (heard line)).settlements) t.marks h.0, h.1))
            (is_heard s.progress.phase) s.progress.exchange.word bytes (piece_before m s) h
            (asked_along (λ (q : Progress). (commands_in s.marks ≡ 0) × NothingBegun q) (λ q line h. h) (piece_before m s).progress (lines_completed s.rest bytes) h) h,
        λ m. quieted_along (λ (q : Progress). (commands_in s.marks ≡ 0) × NothingBegun q) plan s.progress.phase (time_passed until m (turned s.progress)) h h h,
        h,
        h,
        h,
      )
  nothing_sent s (action.Close why) act is obeys far h =
      walk plan commands (λ a. NothingSent) (action.Close why) (with_progress turned s) act obeys
      (closed_along (λ (q : Progress). (commands_in s.marks ≡ 0) × NothingBegun q) plan (waiting_of (with_rest [] (with_progress turned s))) why (turned s.progress)
      (h.0, (refl, h.1.1)) (h.0, (refl, refl)))
  nothing_sent s (action.Stop why) act is obeys far h = absurd obeys
  nothing_sent s o act is obeys far h = walk plan commands (λ a. NothingSent) o (with_progress turned s) act obeys (λ m. h, λ n. h)

  -- if the station resynchronizes, nothing is begun
  nothing_begun_anew : (s : Model) (o : Action) (act : Act) (m : Moment) → o ≡ action.Renew → act ≡ Told m → NothingBegun (moved plan commands o (with_progress turned s) act).progress
  nothing_begun_anew s o act m is told =
      subst (λ (x : Action). NothingBegun (moved plan commands x (with_progress turned s) act).progress) (sym is)
      (subst (λ (x : Act). NothingBegun (moved plan commands action.Renew (with_progress turned s) x).progress) (sym told) (refl, refl))

module _ (plan : Plan) (commands : List Task) (all : AreOfTable commands) where
  -- an act that puts bytes sends calls of the table alone
  put_tables : (s : Model) (o : Action) → AllByRecursion SendsTableCalls (put_part plan commands s o).steps
  put_tables s action.Flush = (refl, tt)
  put_tables s action.Prepare =
      setup_tables plan s.progress.moment.elapsed (mark_setup_sent commands s) (drop s.progress.prepared commands)
      (every_drop (λ task. is_of_table task.command.call ≡ true) commands s.progress.prepared all)
  put_tables s action.Send =
      first_tables s.progress.moment.elapsed (mark_sent plan commands s) (drop (place_next commands s.progress) commands)
      (every_drop (λ task. is_of_table task.command.call ≡ true) commands (place_next commands s.progress) all)
  put_tables s o = tt

  -- an act sends calls of the table alone
  client_tables : (s : Model) (o : Action) (act : Act) → AllByRecursion SendsTableCalls (client_part plan commands s o act).steps
  client_tables s o (Told m) = (tt, tt)
  client_tables s o (Silent m) = (tt, tt)
  client_tables s o (Gave piece m) = (tt, all_heard_steps SendsTableCalls (λ line. tt) (is_heard s.progress.phase) s.rest piece)
  client_tables s o (Put bytes) = put_tables s o
  client_tables s o (Cut bytes count) = put_tables s o
  client_tables s o act = tt

  module _ (s : Model) (act : Act) (fine : Invariant plan commands s) (before : NoneEndedBefore s.progress)
      (obeys : Performs commands s (action_at plan s) act) (h : CountsWaiting s) where
    -- the action that the act performs
    abbrev o : Action
    o = action_at plan s

    -- the conditions of that action hold
    its : HoldsBefore plan s.progress (waiting_of s) o
    its = action_for plan s.progress (waiting_of s)

    -- the model after the act, before what is outstanding is lost
    abbrev t : Model
    t = moved plan commands o (with_progress turned s) act

    -- the model after the act
    abbrev u : Model
    u = with_losses t

    -- the loss of what is outstanding changes no progress
    same_progress : u.progress ≡ t.progress
    same_progress = losing_progress (loses_all t.progress) t

    -- the steps of the client at the act
    abbrev steps : List (Step Asked)
    steps = (client_part plan commands s o act).steps

    -- they lead to its client after the act, before what is outstanding is lost, if the station has synchronized before it
    steps_client : has_begun s.progress ≡ true → client_after s.client steps ≡ t.client
    steps_client begun =
        let part : (part_of_act plan commands s o act).steps ≡ steps = ap (λ (b : Bool). (if b then client_part plan commands s o act else sync_part s o act).steps) begun in
        ap (client_after s.client) (sym part) ∙ (leads plan commands s o act fine its obeys).client

    -- what is claimed of the model after the act, with this client and this count
    abbrev Claim : (c : ById Asked) (n : ℕ) → Type 0
    Claim c n = (Unended c n × NothingSent t) ⊎ Level c n

    -- it holds after the act, before what is outstanding is lost, if the station has synchronized before it and after it, and the run
    -- wasn't over before it
    level_moved : has_begun s.progress ≡ true → has_begun t.progress ≡ true → is_over s.progress ≡ false → Claim t.client t.progress.exchange.behind
    level_moved begun still going =
        subst (λ (c : ById Asked). Claim c t.progress.exchange.behind) (steps_client begun)
        (subst (λ (n : ℕ). Claim (client_after s.client steps) n) (sym (behind_counted plan commands s o act fine its obeys begun still))
        (by_case (h.level begun going))) where
          -- the claim, by what holds before the act
          by_case : (Unended s.client s.progress.exchange.behind × NothingSent s) ⊎ Level s.client s.progress.exchange.behind → Claim (client_after s.client steps) (behind_by s.client s.progress.exchange.behind steps)
          by_case (inr level) = inr (level_steps s.client s.progress.exchange.behind steps (client_tables s o act) level)
          by_case (inl (none, sent)) = on (unended_steps s.client s.progress.exchange.behind steps (client_tables s o act) none) where
            -- then nothing is begun by the act
            on : Unended (client_after s.client steps) (behind_by s.client s.progress.exchange.behind steps) ⊎ Level (client_after s.client steps) (behind_by s.client s.progress.exchange.behind steps)
                → Claim (client_after s.client steps) (behind_by s.client s.progress.exchange.behind steps)
            on (inl still) = inl (still, nothing_sent plan commands s o act its obeys none.far sent)
            on (inr level) = inr level

    -- the run wasn't over before the act
    wasnt_over : (b : Bool) → is_over s.progress ≡ b → is_over s.progress ≡ false
    wasnt_over true e = absurd (no_act_once_over plan commands s act e obeys)
    wasnt_over false e = e

    -- what is so of the model after the act is so of that before what is outstanding is lost, if nothing is
    not_lost : has_begun u.progress ≡ true → is_over u.progress ≡ false → t ≡ u
    not_lost still going = sym (kept_model t (sym (ap has_begun same_progress) ∙ still) (sym (ap is_over same_progress) ∙ going))

    -- `CountsWaiting` holds after the act, by whether the station had synchronized before
    counts_waiting_by_begun : (b : Bool) → has_begun s.progress ≡ b → CountsWaiting u
    counts_waiting_by_begun true begun = record {
      begins = λ anew.
          let it = renews_only plan commands s o act obeys begun (sym (ap has_begun same_progress) ∙ anew) in
          subst NothingBegun (sym same_progress) (nothing_begun_anew plan commands s o act it.1 it.0 it.2);
      level = λ still going.
          subst (λ (x : Model). (Unended x.client x.progress.exchange.behind × NothingSent x) ⊎ Level x.client x.progress.exchange.behind) (not_lost still going)
          (level_moved begun (sym (ap has_begun same_progress) ∙ still) (wasnt_over (is_over s.progress) refl));
    }
    counts_waiting_by_begun false begins =
        let kept = keeps_new_client plan commands s o act its obeys begins (fine.begins begins) in
        let sent = nothing_sent plan commands s o act its obeys (before begins) (none_waits begins, h.begins begins) in
        let far = none_ended plan commands s o act its obeys begins (before begins) in
        record {
          begins = λ anew. subst NothingBegun (sym same_progress) sent.1;
          level = λ still going.
              subst (λ (x : Model). (Unended x.client x.progress.exchange.behind × NothingSent x) ⊎ Level x.client x.progress.exchange.behind) (not_lost still going)
              (inl (subst (λ (c : ById Asked). Unended c t.progress.exchange.behind) (sym kept.0) (record { tables = tt; few = omega arith; far = far }), sent));
        } where
          -- while the station synchronizes no command is outstanding
          none_waits : has_begun s.progress ≡ false → commands_in s.marks ≡ 0
          none_waits begins =
              let none : length s.marks ≡ 0 = fine.paired ∙ ap (λ (c : ById Asked). length c.waiting) (fine.begins begins) in
              ap commands_in (nil_from_length s.marks none)

  -- each act preserves `CountsWaiting`
  counts_waiting_after : (s : Model) (act : Act) → Invariant plan commands s → NoneEndedBefore s.progress → Performs commands s (action_at plan s) act → CountsWaiting s
      → CountsWaiting (after plan commands s act)
  counts_waiting_after s act fine before obeys h = counts_waiting_by_begun s act fine before obeys h (has_begun s.progress) refl

-- a number isn't less than one that it reaches
not_less : (n m : ℕ) → m ≤ n → nat_lt n m ≡ false
not_less n m least = grind (arith, nat_tests, least)

-- if the window is full, `action_room` is the action of a station that waits
full_waits : (plan : Plan) (p : Progress) (w : Waiting) (o : Action) → nat_lt w.all WINDOW ≡ false → action_room plan p w o ≡ action_waiting plan p w
full_waits plan p w o full =
    let all : WINDOW ≤ w.all = ltb-false w.all WINDOW full in
    let more : nat_lt (w.all + p.exchange.last_ended) WINDOW ≡ false = not_less (w.all + p.exchange.last_ended) WINDOW (omega (arith, all)) in
    let lacks : has_room (width_of plan) w.all w.current p.exchange ≡ false = ap (λ (b : Bool). b && not p.exchange.doubtful && nat_eq p.exchange.hold 0) (and_right (nat_lt w.current (width_of plan)) (nat_lt (w.all + p.exchange.last_ended) WINDOW) more) in
    ap (λ (b : Bool). if b && not (is_dead plan p w) then o else action_waiting plan p w) lacks

-- if as many requests were sent after the last call of the table that a reply ended (`behind`) as are outstanding,
-- `action_to_send` is the action o as soon as there is room (`action_room`)
to_send_is_room : (plan : Plan) (p : Progress) (w : Waiting) (o : Action) → p.exchange.behind ≡ w.all → action_to_send plan p w o ≡ action_room plan p w o
to_send_is_room plan p w o e = by_test (nat_lt p.exchange.behind WINDOW) refl where
  -- the lemma above, by whether the count is below seven
  by_test : (b : Bool) → nat_lt p.exchange.behind WINDOW ≡ b
      → (if b then action_room plan p w o else (if nat_eq w.current 0 then action_room plan p w action.Flush else action_waiting plan p w)) ≡ action_room plan p w o
  by_test true is = refl
  by_test false is =
      let full : nat_lt w.all WINDOW ≡ false = ap (λ n. nat_lt n WINDOW) (sym e) ∙ is in
      either_way (nat_eq w.current 0) (full_waits plan p w action.Flush full) ∙ sym (full_waits plan p w o full) where
        -- the station waits, whether a null procedure is wanted, since all outstanding requests have timed out (b), or not
        either_way : (b : Bool) → action_room plan p w action.Flush ≡ action_waiting plan p w → (if b then action_room plan p w action.Flush else action_waiting plan p w) ≡ action_waiting plan p w
        either_way true f = f
        either_way false f = refl

-- the law: if all commands are calls of the table, the outstanding requests are those sent after the last such call that a reply
-- ended, if one did; so a command that may be sent is sent as soon as there is room
pub never_held_up : TheTableIsNeverHeldUp
never_held_up plan commands scope acts runs all begun going = by_case (free.level begun going) where
  -- the model after the acts
  s : Model
  s = state_after plan commands scope acts

  -- what every run keeps
  free : CountsWaiting s
  free = always plan commands (opening plan scope) (λ (done : List Act) (t : Model). CountsWaiting t)
      (λ done act before obeys h.
      counts_waiting_after plan commands all (state_after plan commands scope done) act (invariant_holds plan commands scope done) (none_ended_holds plan commands scope done before) obeys h)
      (record { begins = λ e. (refl, refl); level = λ e f. cc }) acts runs

  -- the lemma above, whether a reply has ended a request
  by_case : (Unended s.client s.progress.exchange.behind × NothingSent s) ⊎ Level s.client s.progress.exchange.behind → AwaitsFirstReply s ⊎ IsNotHeldUp plan s
  by_case (inl (none, sent)) = inl (none.far, sent.0, sent.1.0, sent.1.1)
  by_case (inr level) =
      inr (level.same, to_send_is_room plan s.progress (waiting_of s) action.Send level.same, to_send_is_room plan s.progress (waiting_of s) action.Prepare level.same)
