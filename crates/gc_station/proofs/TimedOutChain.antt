-- A chain whose command has timed out doesn't go on: that command isn't answered well any more. An act is one call on the link, with its
-- result. A mark says which command an outstanding request is of, or `None` of a null procedure.
use Rattle.gc_station.proofs.Common.{◌≡◌, inl, inr, ℕ, zero, suc, ◌+◌, ◌<◌, Bool, true, false, not, if◌then◌else◌, List, [], ◌∷◌, ◌++◌, length, map, filter, drop, Option, Some, None, nat_lt, nat_le, nat_eq, refl, sym, ap, ◌∙◌, subst, arith, both_ways, eqb-true, or_left, nat_tests, length-map, Asked, Table, NullProc, Pending, WINDOW, hears, heard, expired, deadlines, pending_of, settles_at, settle, fits, place_in, send_unless_full, Late, length-settle, Task, is_reply, client_sent, Act, Moment, later, commands_in, records_of, end_of, is_well, last_well, Model, waiting_of, with_progress, with_moment, line_came, line_doubted, line_settles, is_heard, sent_to, asks_for, null_request, first_unsent_record, moved, Performs, mark_next, commands_left, turned, moment_noted, HoldsBefore, MayGo, Reads, Mark, Plan, Action, Progress}
use Rattle.std.proofs.Common.{length-append, length-drop}
use Rattle.gc_client.specs.Prelude.{Answered}
use Rattle.gc_station.proofs.Making.{unwell_end}
use Rattle.gc_station.proofs.InCycle.{within_window}
use Rattle.gc_station.proofs.Records.{commands-append, records-none, last-append}
use Rattle.gc_station.proofs.Walk.{came_along, walk}
use Rattle.gc_station.specs.declared.progress.Action.TheVariants as actions

-- Requests of commands that have timed out.

-- each of these requests that is of a command has timed out
abbrev pub CommandsTimedOut : List (Option Mark) → List (Pending Asked) → Type 0
CommandsTimedOut [] qs = Unit {0}
CommandsTimedOut (mark ∷ marks) [] = Unit {0}
CommandsTimedOut (None ∷ marks) (q ∷ qs) = CommandsTimedOut marks qs
CommandsTimedOut (Some mark ∷ marks) (q ∷ qs) = (q.given_up ≡ true) × CommandsTimedOut marks qs

-- it is so of the requests after the first ones
timed_dropped : (n : ℕ) (marks : List (Option Mark)) (qs : List (Pending Asked)) → CommandsTimedOut marks qs → CommandsTimedOut (drop n marks) (drop n qs)
timed_dropped zero marks qs h = h
timed_dropped (suc n) [] qs h = tt
timed_dropped (suc n) (mark ∷ marks) [] h = none (drop n marks) where
  -- without requests nothing is claimed
  none : (ms : List (Option Mark)) → CommandsTimedOut ms []
  none [] = tt
  none (m ∷ ms) = tt
timed_dropped (suc n) (None ∷ marks) (q ∷ qs) h = timed_dropped n marks qs h
timed_dropped (suc n) (Some mark ∷ marks) (q ∷ qs) h = timed_dropped n marks qs h.1

-- it stays so at a moment
timed_expired : (now : ℕ) (marks : List (Option Mark)) (qs : List (Pending Asked)) → CommandsTimedOut marks qs → CommandsTimedOut marks (map (expired now) qs)
timed_expired now [] qs h = tt
timed_expired now (mark ∷ marks) [] h = tt
timed_expired now (None ∷ marks) (q ∷ qs) h = timed_expired now marks qs h
timed_expired now (Some mark ∷ marks) (q ∷ qs) h = (or_left q.given_up (nat_le q.deadline now) h.0, timed_expired now marks qs h.1)

-- and once a null procedure was sent
timed_flushed : (one : Pending Asked) (marks : List (Option Mark)) (qs : List (Pending Asked)) → length marks ≡ length qs → CommandsTimedOut marks qs
    → CommandsTimedOut (marks ++ None ∷ []) (qs ++ one ∷ [])
timed_flushed one [] [] same h = tt
timed_flushed one [] (q ∷ qs) same h = absurd (omega (arith, same))
timed_flushed one (m ∷ marks) [] same h = absurd (omega (arith, same))
timed_flushed one (None ∷ marks) (q ∷ qs) same h = timed_flushed one marks qs (omega (arith, same)) h
timed_flushed one (Some mark ∷ marks) (q ∷ qs) same h = (h.0, timed_flushed one marks qs (omega (arith, same)) h.1)

-- it is so where nothing is in flight that hasn't timed out
pub timed_if_none : (marks : List (Option Mark)) (qs : List (Pending Asked)) → deadlines qs ≡ [] → CommandsTimedOut marks qs
timed_if_none [] qs none = tt
timed_if_none (m ∷ marks) [] none = tt
timed_if_none (m ∷ marks) (q ∷ qs) none = by_test (timed_if_none marks qs) q.given_up refl where
  -- if this one hasn't timed out, it is in flight
  left : Bool → List ℕ
  left b = map (λ (p : Pending Asked). p.deadline) (if not b then q ∷ filter (λ (p : Pending Asked). not p.given_up) qs else filter (λ (p : Pending Asked). not p.given_up) qs)

  -- the lemma above, by the first mark
  by_mark : (m : Option Mark) → q.given_up ≡ true → CommandsTimedOut marks qs → CommandsTimedOut (m ∷ marks) (q ∷ qs)
  by_mark None given rest = rest
  by_mark (Some mark) given rest = (given, rest)

  -- the lemma above, whether the first request has timed out
  by_test : (deadlines qs ≡ [] → CommandsTimedOut marks qs) → (b : Bool) → q.given_up ≡ b → CommandsTimedOut (m ∷ marks) (q ∷ qs)
  by_test others true e = by_mark m e (others (sym (ap left e) ∙ none))
  by_test others false e = let some : q.deadline ∷ deadlines qs ≡ [] = sym (ap left e) ∙ none in cc

-- Records.

-- none of the records of such requests is of a command that was answered well
none_well : (line : List ℕ) (reads : Reads) (utc k : ℕ) (marks : List (Option Mark)) (qs : List (Pending Asked)) → CommandsTimedOut marks qs
    → last_well false (records_of reads utc marks (settle k line qs)) ≡ false
none_well line reads utc k [] qs h = refl
none_well line reads utc zero (m ∷ marks) [] h = refl
none_well line reads utc (suc k) (m ∷ marks) [] h = refl
none_well line reads utc zero (None ∷ marks) (q ∷ qs) h = ap (last_well false) (records-none reads utc marks)
none_well line reads utc zero (Some mark ∷ marks) (q ∷ qs) h =
    ap (last_well (is_well (end_of reads mark.expected q.call (if q.given_up then Late else Answered line)))) (records-none reads utc marks)
    ∙ ap (λ (b : Bool). is_well (end_of reads mark.expected q.call (if b then Late else Answered line))) h.0
none_well line reads utc (suc k) (None ∷ marks) (q ∷ qs) h = none_well line reads utc k marks qs h
none_well line reads utc (suc k) (Some mark ∷ marks) (q ∷ qs) h = none_well line reads utc k marks qs h.1

-- if a line settles all commands, the last record isn't of one that was answered well
last_not_well : (line : List ℕ) (reads : Reads) (utc k : ℕ) (marks : List (Option Mark)) (qs : List (Pending Asked)) (before : Bool) → CommandsTimedOut marks qs → 0 < commands_in marks
    → commands_in (drop (suc k) marks) ≡ 0 → length marks ≡ length qs → last_well before (records_of reads utc marks (settle k line qs)) ≡ false
last_not_well line reads utc k [] qs before h some none same = absurd (omega (arith, some))
last_not_well line reads utc k (m ∷ marks) [] before h some none same = absurd (omega (arith, same))
last_not_well line reads utc zero (None ∷ marks) (q ∷ qs) before h some none same = absurd (omega (arith, some, none))
last_not_well line reads utc zero (Some mark ∷ marks) (q ∷ qs) before h some none same =
    ap (last_well (is_well (end_of reads mark.expected q.call (if q.given_up then Late else Answered line)))) (records-none reads utc marks)
    ∙ ap (λ (b : Bool). is_well (end_of reads mark.expected q.call (if b then Late else Answered line))) h.0
last_not_well line reads utc (suc k) (None ∷ marks) (q ∷ qs) before h some none same = last_not_well line reads utc k marks qs before h some none (omega (arith, same))
last_not_well line reads utc (suc k) (Some mark ∷ marks) (q ∷ qs) before h some none same = none_well line reads utc k marks qs h.1

-- Models.

-- marks and requests are one for one, each command that is outstanding has timed out, and without one the last command wasn't answered
-- well: so no chained command may follow
abbrev pub CannotGoOn : Model → Type 0
CannotGoOn s = (length s.marks ≡ length s.client.waiting) × CommandsTimedOut s.marks s.client.waiting × (commands_in s.marks ≡ 0 → last_well false s.records ≡ false)

-- a line that settles requests keeps it so
some_heard : (x : Model) (line : List ℕ) (k : ℕ) → k < length x.client.waiting → CannotGoOn x → CannotGoOn (line_settles (is_reply line) (settles_at x.client line k true) x)
some_heard x line k below h =
    let ws = x.client.waiting in
    let many = length-settle k line ws below in
    let e : length (settle k line ws) ≡ suc k = omega (arith, many) in
    let f : k + 1 ≡ suc k = omega arith in
    let left = length-drop (suc k) ws in
    let left' = length-drop (suc k) x.marks in
    let same = h.0 in
    let paired : length (drop (suc k) x.marks) ≡ length (drop (suc k) ws) = omega (arith, left, left', same) in (
      subst (λ (i : ℕ). length (drop i x.marks) ≡ length (drop (k + 1) ws)) (sym e) (subst (λ (j : ℕ). length (drop (suc k) x.marks) ≡ length (drop j ws)) (sym f) paired),
      subst (λ (i : ℕ). CommandsTimedOut (drop i x.marks) (drop (k + 1) ws)) (sym e)
          (subst (λ (j : ℕ). CommandsTimedOut (drop (suc k) x.marks) (drop j ws)) (sym f) (timed_dropped (suc k) x.marks ws h.1)),
      λ none. last-append false x.records (records_of x.reads x.progress.moment.utc x.marks (settle k line ws))
          ∙ by_test (sym (ap (λ (i : ℕ). commands_in (drop i x.marks)) e) ∙ none) (nat_eq (commands_in x.marks) 0) refl,
    ) where
      -- the last record, whether commands were outstanding
      by_test : commands_in (drop (suc k) x.marks) ≡ 0 → (b : Bool) → nat_eq (commands_in x.marks) 0 ≡ b
          → last_well (last_well false x.records) (records_of x.reads x.progress.moment.utc x.marks (settle k line x.client.waiting)) ≡ false
      by_test none true g =
          ap (λ (b : Bool). last_well b (records_of x.reads x.progress.moment.utc x.marks (settle k line x.client.waiting))) (h.2 (eqb-true (commands_in x.marks) 0 g))
          ∙ none_well line x.reads x.progress.moment.utc k x.marks x.client.waiting h.1
      by_test none false g =
          last_not_well line x.reads x.progress.moment.utc k x.marks x.client.waiting (last_well false x.records) h.1 (grind (arith, nat_tests, g)) none h.0

-- each line keeps it so
line_heard : (x : Model) (line : List ℕ) → CannotGoOn x → CannotGoOn (line_came x line)
line_heard x line h = by_id (heard line) where
  -- a line that settles nothing leaves the records
  same : commands_in x.marks ≡ 0 → last_well false (x.records ++ records_of x.reads x.progress.moment.utc x.marks []) ≡ false
  same none =
      last-append false x.records (records_of x.reads x.progress.moment.utc x.marks [])
      ∙ ap (last_well (last_well false x.records)) (records-none x.reads x.progress.moment.utc x.marks) ∙ h.2 none

  -- by the id of the line
  by_id : (o : Option ℕ) → CannotGoOn (line_settles (is_reply line) (hears x.client line o) (line_doubted line x))
  by_id None = (h.0, h.1, same)
  by_id (Some id) = by_test (place_in x.client id) (fits x.client (Some id)) refl where
    -- whether a request has that id
    by_test : (k : ℕ) (b : Bool) → nat_lt k (length x.client.waiting) ≡ b → CannotGoOn (line_settles (is_reply line) (settles_at x.client line k b) (line_doubted line x))
    by_test k true e = some_heard (line_doubted line x) line k (grind (arith, nat_tests, e)) h
    by_test k false e = (h.0, h.1, same)

-- a moment keeps it so
moment_read : (m : Moment) (s : Model) → CannotGoOn s → CannotGoOn (with_moment m s)
moment_read m s h =
    let many : length (map (expired m.elapsed) s.client.waiting) ≡ length s.client.waiting = length-map s.client.waiting (expired m.elapsed) in
    let same = h.0 in
    (omega (arith, many, same), timed_expired m.elapsed s.marks s.client.waiting h.1, h.2)

-- nor is the last command once its record was made
unsent_last : (p : Progress) (m : Moment) (mark : Mark) (left : List Task) (before : Bool) → before ≡ false → last_well before (first_unsent_record p m mark left) ≡ false
unsent_last p m mark [] before e = e
unsent_last p m mark (task ∷ others) before e = unwell_end p

module _ (plan : Plan) (commands : List Task) where
  -- a null procedure keeps it so, if there is room for one
  null_asked : (s : Model) → length s.client.waiting < WINDOW → CannotGoOn s → CannotGoOn (asks_for (null_request plan) s)
  null_asked s room h =
      let both = by_test (nat_eq (length s.client.waiting) WINDOW) refl in
      let more = commands-append s.marks (None ∷ []) in
      (both.0, both.1, λ none. h.2 (omega (arith, none, more))) where
        -- the request
        one : Pending Asked
        one = pending_of 0 (Table NullProc) (later s.progress.moment.elapsed plan.deadline)

        -- the first two parts of the lemma above, whether the window is full
        by_test : (b : Bool) → nat_eq (length s.client.waiting) WINDOW ≡ b
            → (length (s.marks ++ None ∷ []) ≡ length (sent_to WINDOW s.client (null_request plan).command s.progress.moment.elapsed plan.deadline).waiting)
            × CommandsTimedOut (s.marks ++ None ∷ []) (sent_to WINDOW s.client (null_request plan).command s.progress.moment.elapsed plan.deadline).waiting
        by_test true e = let full : length s.client.waiting ≡ WINDOW = eqb-true (length s.client.waiting) WINDOW e in absurd (omega (arith, full, room))
        by_test false e =
            let a = length-append s.marks (None ∷ []) in
            let b = length-append s.client.waiting (one ∷ []) in
            let same = h.0 in
            let paired : length (s.marks ++ None ∷ []) ≡ length (s.client.waiting ++ one ∷ []) = omega (arith, a, b, same) in
            subst (λ (b : Bool). let sending = client_sent s.client (send_unless_full s.client 0 (Table NullProc) (later s.progress.moment.elapsed plan.deadline) b) in
            (length (s.marks ++ None ∷ []) ≡ length sending.waiting) × CommandsTimedOut (s.marks ++ None ∷ []) sending.waiting)
            (sym e) (paired, timed_flushed one s.marks s.client.waiting h.0 h.1)

  -- once the end of the run was asked for, an act of each action keeps it so
  pub goes_not_on : (s : Model) (o : Action) (act : Act) → Performs commands s o act → HoldsBefore plan s.progress (waiting_of s) o → s.progress.stops ≡ true
      → CannotGoOn s → CannotGoOn (moved plan commands o (with_progress turned s) act)
  goes_not_on s actions.Begin act obeys needs stops h = absurd (both_ways s.progress.stops needs.5 stops)
  goes_not_on s actions.Prepare act obeys needs stops h = absurd (both_ways s.progress.stops needs.5 stops)
  goes_not_on s actions.Send act obeys needs stops h = absurd (by_going needs.4) where
    -- the next command may not be sent
    by_going : MayGo s.progress (waiting_of s) → ⊥
    by_going (inl free) = both_ways s.progress.next_is_chained free (needs.7 stops)
    by_going (inr going) = both_ways (last_well false s.records) (h.2 going.0) going.1
  goes_not_on s actions.Flush act obeys needs stops h =
      let on = null_asked (with_progress turned s) (within_window _ _ needs.4.1) h in
      walk plan commands (λ (a : Act) (t : Model). CannotGoOn t) actions.Flush (with_progress turned s) act obeys (λ m. on, λ n. on)
  goes_not_on s actions.Skip act obeys needs stops h =
      walk plan commands (λ (a : Act) (t : Model). CannotGoOn t) actions.Skip (with_progress turned s) act obeys (
        λ m. let told = moment_read m s h in
            let rs = first_unsent_record (turned s.progress) m (mark_next plan commands (turned s.progress)) (commands_left commands (turned s.progress)) in (
              told.0,
              told.1,
              λ none. last-append false s.records rs ∙ unsent_last (turned s.progress) m (mark_next plan commands (turned s.progress))
                  (commands_left commands (turned s.progress)) (last_well false s.records) (h.2 none),
            ),
        λ n. (h.0, h.1, λ none. last-append false s.records [] ∙ h.2 none),
      )
  goes_not_on s actions.Open act obeys needs stops h = walk plan commands (λ (a : Act) (t : Model). CannotGoOn t) actions.Open (with_progress turned s) act obeys (λ m. h, λ n. h)
  goes_not_on s actions.Clear act obeys needs stops h = walk plan commands (λ (a : Act) (t : Model). CannotGoOn t) actions.Clear (with_progress turned s) act obeys (λ m. h, λ n. h)
  goes_not_on s actions.Ask act obeys needs stops h = walk plan commands (λ (a : Act) (t : Model). CannotGoOn t) actions.Ask (with_progress turned s) act obeys (λ m. h, λ n. h)
  goes_not_on s (actions.Read until) act obeys needs stops h =
      walk plan commands (λ (a : Act) (t : Model). CannotGoOn t) (actions.Read until) (with_progress turned s) act obeys (
        λ bytes m. let told = moment_read m s h in
            came_along CannotGoOn line_heard (is_heard s.progress.phase) s.progress.exchange.word bytes (with_moment m (with_progress (moment_noted m) (with_progress turned s))) told told told,
        λ m. moment_read m s h,
        h,
        h,
        h,
      )
  goes_not_on s (actions.Close why) act obeys needs stops h = walk plan commands (λ (a : Act) (t : Model). CannotGoOn t) (actions.Close why) (with_progress turned s) act obeys h
  goes_not_on s (actions.Stop why) act obeys needs stops h = absurd obeys
  goes_not_on s o act obeys needs stops h =
      walk plan commands (λ (a : Act) (t : Model). CannotGoOn t) o (with_progress turned s) act obeys (λ m. moment_read m s h, λ n. h)
