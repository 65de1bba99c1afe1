-- After a busy answer nothing is asked before its command's deadline has passed: the act that adds such a record notes a moment before
-- which nothing is asked (`hold`), at least that deadline later, and a doubt. The moment stays noted until it is read, or a later one. An act
-- is one call on the link, with its result.
use Rattle.gc_station.proofs.Common.{◌≡◌, ◌⊎◌, inl, inr, ℕ, ◌<◌, ◌≤◌, ◌||◌, Bool, true, false, List, [], ◌∷◌, ◌++◌, map, max, nat_lt, nat_eq, if◌then◌else◌, Option, Some, None, refl, sym, ap, ◌∙◌, subst, arith, append_assoc, append-nil, slice_get, AllByRecursion, cond_both, ltb-false, or_right, nat_tests, append_cancel_left, none-some, same_Some, Asked, Pending, lists_code, line_of, Skipped, NoValue, Missed, as_zero, Expected, Task, hold_left, calls_for_renewal, Act, Told, Gave, Silent, Closed, Moment, Mark, Plan, Action, Progress, moment_in, code_in, code_of, says_busy, wait_for, busy_after, busy_after_settlements, has_begun, lacks_value, later, end_of, record_of, records_of, any_unexpected, Model, opening, action_at, waiting_of, is_heard, after_piece, first_unsent_record, line_busy, line_came, line_news, losing, moved, after, after_all, with_moment, with_progress, with_rest, Performs, Runs, lines_completed, piece_heard, commands_left, expected_at, mark_next, turned, moment_noted, loses_all, time_passed, client_part, SendsRequest, HoldsBefore, Record, state_after, Scope, Reads, rest_behind}
use Rattle.gc_station.specs.WhileBusy.{BringsBusy, Reaches, StaysSynchronized, WaitsFor, NothingIsSentWhileBusy}
use Rattle.gc_station.proofs.AsText.{ExpectsAsText, KeepsToText, expected_there, kept_all, line_keeps}
use Rattle.gc_station.proofs.Expecting.{none_asked}
use Rattle.gc_station.proofs.Facts.{action_for}
use Rattle.gc_station.proofs.Going.{after_all-append, runs_behind}
use Rattle.gc_station.proofs.Lists.{all_append, all_on}
use Rattle.gc_station.proofs.Listed.{expected_as}
use Rattle.gc_station.proofs.Meets.{answer_line}
use Rattle.gc_station.proofs.Moments.{of_one}
use Rattle.gc_station.proofs.Quiets.{others_send_no_request}
use Rattle.gc_station.proofs.HoldingBack.{doubt_stays, noted_in}
use Rattle.gc_station.proofs.Starts.{noted_after, set_up_anew_after_a_doubt}
use Rattle.gc_station.proofs.Walk.{came_along, asked_along, quieted_along, closed_along, moved_changed, walk}
use Rattle.gc_station.proofs.Counts.{with_losses_progress}
use Rattle.gc_station.proofs.Closings.{runs_split}
use Rattle.gc_catalogue.specs.declared.answer.Reading.TheVariants as reading
use Rattle.gc_client.specs.Rule
use Rattle.gc_station.specs.declared.progress.Action.TheVariants as action

-- The wait that records call for.

-- one more record makes the longest wait no shorter
wait_grows : (longest : ℕ) (expected : Expected) (code : Option ℕ) → longest ≤ busy_after longest expected code
wait_grows longest expected None = omega arith
wait_grows longest expected (Some code) =
    cond_both (says_busy expected code) (max longest (wait_for expected)) longest (λ n. longest ≤ n) (λ e. omega arith) (λ e. omega arith)

-- nor do more settlements
waits_grow : (reads : Reads) (longest : ℕ) (marks : List (Option Mark)) (xs : List (Rule.Settlement Asked)) → longest ≤ busy_after_settlements reads longest marks xs
waits_grow reads longest [] xs = omega arith
waits_grow reads longest (mark ∷ marks) [] = omega arith
waits_grow reads longest (None ∷ marks) (x ∷ xs) = waits_grow reads longest marks xs
waits_grow reads longest (Some mark ∷ marks) (x ∷ xs) =
    let code = code_of reads x.call x.outcome in
    let one = wait_grows longest mark.expected code in
    let more = waits_grow reads (busy_after longest mark.expected code) marks xs in
    omega (arith, one, more)

-- a busy answer calls for its command's deadline, and at least a millisecond
busy_calls : (longest : ℕ) (expected : Expected) (code : ℕ) → lists_code expected.busy code ≡ true → lists_code expected.accepted code ≡ false
    → wait_for expected ≤ busy_after longest expected (Some code)
busy_calls longest expected code busy not_accepted = rw (busy, not_accepted) (omega arith)

-- a request that a reply ended, whose record has this line, was ended by that line
ended_by_line : (reads : Reads) (expected : Expected) (call : Asked) (outcome : Rule.Outcome) (line : List ℕ)
    → line_of (end_of reads expected call outcome) ≡ Some line → outcome ≡ Rule.Answered line
ended_by_line reads expected call (Rule.Answered l) line e =
    ap Rule.Answered (same_Some l line (sym (answer_line expected (reads expected.form call l) (reads expected.form call (as_zero l)) l) ∙ e))
ended_by_line reads expected call Rule.Late line e = cc
ended_by_line reads expected call Rule.Lost line e = cc

-- what the text says of busy answers is the same in the setup
same_in_setup : (is_setup : Bool) (attempt : ℕ) (expected : Expected) → let k = expected_as is_setup attempt expected in
    (k.busy ≡ expected.busy) × (k.accepted ≡ expected.accepted) × (k.wait ≡ expected.wait)
same_in_setup true attempt expected = (refl, refl, refl)
same_in_setup false attempt expected = (refl, refl, refl)

module _ (plan : Plan) (commands : List Task) (scope : Scope) where
  -- a mark has of busy answers what the text says of its command
  busy_as_text : (mark : Mark) → ExpectsAsText plan commands scope (Some mark) → let k = expected_at commands mark.place in
      (mark.expected.busy ≡ k.busy) × (mark.expected.accepted ≡ k.accepted) × (mark.expected.wait ≡ k.wait)
  busy_as_text mark placed =
      let it = same_in_setup (nat_eq mark.cycle 0) mark.expected.turn.attempt (expected_at commands mark.place) in (
        ap (λ (k : Expected). k.busy) placed ∙ it.0,
        ap (λ (k : Expected). k.accepted) placed ∙ it.1,
        ap (λ (k : Expected). k.wait) placed ∙ it.2,
      )

  -- if the record is of a busy answer to this task, `Holds` is true of its task
  abbrev IfBusy : (Holds : Task → Type 0) → Record → Type 0
  IfBusy Holds r =
      (task : Task) (line : List ℕ) (code : ℕ) → slice_get commands r.place ≡ Some task → line_of r.end ≡ Some line → scope.reads None r.command.call line ≡ reading.Refused code
      → lists_code task.busy code ≡ true → lists_code task.accepted code ≡ false → Holds task

  -- the longest wait after settlements is at least the deadline of each of their busy answers, and a millisecond
  busy_calls_each : (utc longest : ℕ) (marks : List (Option Mark)) (xs : List (Rule.Settlement Asked)) → AllByRecursion (ExpectsAsText plan commands scope) marks
      → AllByRecursion (IfBusy (λ task. (task.deadline ≤ busy_after_settlements scope.reads longest marks xs) × (0 < busy_after_settlements scope.reads longest marks xs)))
      (records_of scope.reads utc marks xs)
  busy_calls_each utc longest [] xs all = tt
  busy_calls_each utc longest (mark ∷ marks) [] all = tt
  busy_calls_each utc longest (None ∷ marks) (x ∷ xs) all = busy_calls_each utc longest marks xs all.1
  busy_calls_each utc longest (Some mark ∷ marks) (x ∷ xs) all =
      (first, busy_calls_each utc (busy_after longest mark.expected (code_of scope.reads x.call x.outcome)) marks xs all.1) where
        -- the first of them
        first : IfBusy (λ task. let n = busy_after_settlements scope.reads longest (Some mark ∷ marks) (x ∷ xs) in (task.deadline ≤ n) × (0 < n))
            (record_of scope.reads utc mark x)
        first task line code at has refuses busy not_accepted =
            let there = expected_there commands mark.place task at in
            let outcome = ended_by_line scope.reads mark.expected x.call x.outcome line has in
            let codes : code_of scope.reads x.call x.outcome ≡ Some code = ap (code_of scope.reads x.call) outcome ∙ ap code_in refuses in
            let says = busy_as_text mark all.0 in
            let calls = busy_calls longest mark.expected code
            (ap (λ k. lists_code k code) (says.0 ∙ ap (λ (k : Expected). k.busy) there) ∙ busy)
            (ap (λ k. lists_code k code) (says.1 ∙ ap (λ (k : Expected). k.accepted) there) ∙ not_accepted) in
            let wait : mark.expected.wait ≡ task.deadline = says.2 ∙ ap (λ (k : Expected). k.wait) there in
            let here = ap (busy_after longest mark.expected) codes in
            let more = waits_grow scope.reads (busy_after longest mark.expected (code_of scope.reads x.call x.outcome)) marks xs in
            (omega (arith, calls, wait, here, more), omega (arith, calls, here, more))

  -- One act.

  -- of these records, which the act adds, each busy answer came with a moment that the act reads; the progress notes that nothing is asked
  -- before that moment and its command's deadline, and that a synchronization is called for
  abbrev HoldsFor : Act → Progress → Record → Type 0
  HoldsFor act p r =
      IfBusy (λ task. (m : Moment) × (moment_in act ≡ Some m) × (later m.elapsed task.deadline ≤ p.exchange.hold) × (0 < p.exchange.hold) × (p.exchange.doubtful ≡ true)) r

  -- it is so by a progress that notes a later moment, or the same, and the doubt, too
  holds_more : (act : Act) (p q : Progress) (r : Record) → p.exchange.hold ≤ q.exchange.hold → (p.exchange.doubtful ≡ true → q.exchange.doubtful ≡ true) → HoldsFor act p r → HoldsFor act q r
  holds_more act p q r more doubt h task line code at has refuses busy not_accepted =
      let it = h task line code at has refuses busy not_accepted in
      let hold = it.2 in
      let some = it.3 in
      (it.0, it.1, omega (arith, hold, more), omega (arith, some, more), doubt it.4)

  -- the model `t` has the records `old`, and news, each of which is as `HoldsFor` says
  record AddsHold (old : List Record) (act : Act) (t : Model) : Type 0 where
    news : List Record
    added : t.records ≡ old ++ news
    held : AllByRecursion (HoldsFor act t.progress) news

  -- the same with the moment of the act, which is the one read last, and with marks that are as the text says
  record HoldsAt (old : List Record) (act : Act) (m : Moment) (t : Model) : Type 0 where
    adds : AddsHold old act t
    at : t.progress.moment ≡ m
    text : KeepsToText plan commands scope t

  -- a line that is heard keeps it so
  line_holds : (old : List Record) (act : Act) (m : Moment) → moment_in act ≡ Some m → (s : Model) (line : List ℕ) → HoldsAt old act m s → HoldsAt old act m (line_came s line)
  line_holds old act m reads s line h = record {
    adds = record {
      news = h.adds.news ++ line_news line s;
      added = ap (λ rs. rs ++ line_news line s) h.adds.added ∙ append_assoc old h.adds.news (line_news line s);
      held = all_append (HoldsFor act q) h.adds.news (line_news line s)
          (all_on (HoldsFor act p) (HoldsFor act q) h.adds.news (λ r. holds_more act p q r no_less still) h.adds.held) news_held;
    };
    at = h.at;
    text = line_keeps plan commands scope s line h.text;
  } where
    -- the progress before the line
    p : Progress
    p = s.progress

    -- and after it
    q : Progress
    q = (line_came s line).progress

    -- the longest wait that the line calls for
    n : ℕ
    n = line_busy line s

    -- no earlier moment is noted
    no_less : p.exchange.hold ≤ q.exchange.hold
    no_less = cond_both (nat_lt 0 n) (max p.exchange.hold (later p.moment.elapsed n)) p.exchange.hold (λ k. p.exchange.hold ≤ k) (λ e. omega arith) (λ e. omega arith)

    -- a doubt stays
    still : p.exchange.doubtful ≡ true → q.exchange.doubtful ≡ true
    still doubt = ap (λ (d : Bool). ((d || calls_for_renewal s.client line) || any_unexpected false (line_news line s)) || nat_lt 0 n) doubt

    -- what is noted if the line calls for a wait
    noted : 0 < n → (q.exchange.hold ≡ max p.exchange.hold (later p.moment.elapsed n)) × (q.exchange.doubtful ≡ true)
    noted some =
        let e : nat_lt 0 n ≡ true = grind (arith, nat_tests, some) in (
          ap (λ (b : Bool). if b then max p.exchange.hold (later p.moment.elapsed n) else p.exchange.hold) e,
          ap (λ (b : Bool). ((p.exchange.doubtful || calls_for_renewal s.client line) || any_unexpected false (line_news line s)) || b) e
              ∙ or_right ((p.exchange.doubtful || calls_for_renewal s.client line) || any_unexpected false (line_news line s)) true refl,
        )

    -- each busy answer that the line brings
    one_held : (r : Record) → IfBusy (λ task. (task.deadline ≤ n) × (0 < n)) r → HoldsFor act q r
    one_held r b task line' code there has refuses busy not_accepted =
        let it = b task line' code there has refuses busy not_accepted in
        let within = it.0 in
        let some = it.1 in
        let both = noted some in
        let hold = both.0 in
        let last = ap (λ (x : Moment). x.elapsed) h.at in
        (m, reads, omega (arith, within, some, hold, last), omega (arith, some, hold), both.1)

    -- all of them
    news_held : AllByRecursion (HoldsFor act q) (line_news line s)
    news_held =
        all_on (IfBusy (λ task. (task.deadline ≤ n) × (0 < n))) (HoldsFor act q) (line_news line s) one_held
        (subst (λ (f : Reads). AllByRecursion (IfBusy (λ task. let k = busy_after_settlements f 0 s.marks x in (task.deadline ≤ k) × (0 < k))) (records_of f s.progress.moment.utc s.marks x))
        (sym h.text.reads) (busy_calls_each s.progress.moment.utc 0 s.marks x h.text.marks)) where
          -- what the line settles
          x : List (Rule.Settlement Asked)
          x = (Rule.hears s.client line (Rule.heard line)).settlements

  -- so does a piece
  came_holds : (act : Act) (m : Moment) → moment_in act ≡ Some m → (ready : Bool) (word piece : List ℕ) (s : Model) → s.progress.moment ≡ m → KeepsToText plan commands scope s
      → AddsHold s.records act (after_piece ready word piece s)
  came_holds act m reads ready word piece s at k =
      (came_along (HoldsAt s.records act m) (line_holds s.records act m reads) ready word piece s
      (record { adds = none_new (with_rest (rest_behind s.rest piece) s) refl; at = at; text = record { reads = k.reads; marks = k.marks; records = k.records; listed = k.listed; firsts = k.firsts; agreed = k.agreed } })
      (record {
        adds = none_new (piece_heard false piece s) refl;
        at = asked_along (λ (q : Progress). q.moment ≡ m) (λ q line e. e) s.progress (lines_completed s.rest piece) at;
        text = record { reads = k.reads; marks = k.marks; records = k.records; listed = k.listed; firsts = k.firsts; agreed = k.agreed };
      })
      (record { adds = none_new s refl; at = at; text = k })).adds where
        -- without news
        none_new : (t : Model) → t.records ≡ s.records → AddsHold s.records act t
        none_new t same = record { news = []; added = same ∙ sym (append-nil s.records); held = tt }

  -- a record of a command that isn't sent is of no answer
  unsent_held : (act : Act) (q p : Progress) (m : Moment) (mark : Mark) (left : List Task) → AllByRecursion (HoldsFor act q) (first_unsent_record p m mark left)
  unsent_held act q p m mark [] = tt
  unsent_held act q p m mark (task ∷ others) = ((λ t line code at has refuses busy not_accepted. absurd (by_missed p.missed (lacks_value p) line has)), tt) where
    -- such a command has no line, whether its cycle is missed, and whether a value isn't there
    by_missed : (missed lacks : Bool) (line : List ℕ) → line_of (if missed then Missed else if lacks then NoValue else Skipped) ≡ Some line → ⊥
    by_missed true lacks line e = none-some line e
    by_missed false true line e = none-some line e
    by_missed false false line e = none-some line e

  -- nor is one of a command that is lost
  lost_held : (act : Act) (q : Progress) (reads : Reads) (utc : ℕ) (marks : List (Option Mark)) (ps : List (Pending Asked))
      → AllByRecursion (HoldsFor act q) (records_of reads utc marks (map Rule.lost ps))
  lost_held act q reads utc [] ps = tt
  lost_held act q reads utc (mark ∷ marks) [] = tt
  lost_held act q reads utc (None ∷ marks) (p ∷ ps) = lost_held act q reads utc marks ps
  lost_held act q reads utc (Some mark ∷ marks) (p ∷ ps) =
      ((λ task line code at has refuses busy not_accepted. absurd (none-some line has)), lost_held act q reads utc marks ps)

  -- the loss of what is outstanding keeps it so
  losing_holds : (old : List Record) (act : Act) (all : Bool) (t : Model) → AddsHold old act t → AddsHold old act (losing all t)
  losing_holds old act false t a = a
  losing_holds old act true t a =
      let new = records_of t.reads t.progress.moment.utc t.marks (map Rule.lost t.client.waiting) in
      record {
        news = a.news ++ new;
        added = ap (λ rs. rs ++ new) a.added ∙ append_assoc old a.news new;
        held = all_append (HoldsFor act t.progress) a.news new a.held (lost_held act t.progress t.reads t.progress.moment.utc t.marks t.client.waiting);
      }

  -- without news it is so
  none_held : (act : Act) (s t : Model) → t.records ≡ s.records → AddsHold s.records act t
  none_held act s t same = record { news = []; added = same ∙ sym (append-nil s.records); held = tt }

  -- an act of each action is so
  moved_holds : (o : Action) (s : Model) (act : Act) → KeepsToText plan commands scope s → AddsHold s.records act (moved plan commands o s act)
  moved_holds action.Skip s (Told m) k = record {
    news = first_unsent_record s.progress m (mark_next plan commands s.progress) (commands_left commands s.progress);
    added = refl;
    held = unsent_held (Told m) (moved plan commands action.Skip s (Told m)).progress s.progress m (mark_next plan commands s.progress) (commands_left commands s.progress);
  }
  moved_holds action.Skip s act k = none_held act s (moved plan commands action.Skip s act) (append-nil s.records)
  moved_holds (action.Read until) s (Gave bytes m) k =
      let mid = with_moment m (with_progress (moment_noted m) s) in
      let came = came_holds (Gave bytes m) m refl (is_heard s.progress.phase) s.progress.exchange.word bytes mid refl
      (record { reads = k.reads; marks = k.marks; records = k.records; listed = k.listed; firsts = k.firsts; agreed = k.agreed }) in
      record { news = came.news; added = came.added; held = came.held }
  moved_holds (action.Read until) s act k = none_held act s (moved plan commands (action.Read until) s act) refl
  moved_holds o s act k = none_held act s (moved plan commands o s act) (ap (λ (x : Model). x.records) (moved_changed plan commands o s act))

  -- so is an act with all that follows it
  after_holds : (s : Model) (act : Act) → KeepsToText plan commands scope s → AddsHold s.records act (after plan commands s act)
  after_holds s act k =
      let t = moved plan commands (action_at plan s) (with_progress turned s) act in
      losing_holds s.records act (loses_all t.progress) t (moved_holds (action_at plan s) (with_progress turned s) act
      (record { reads = k.reads; marks = k.marks; records = k.records; listed = k.listed; firsts = k.firsts; agreed = k.agreed }))

  -- an act that brings a busy answer
  busy_holds : (acts : List Act) (act : Act) → (b : BringsBusy plan commands scope acts act) → let p = (after plan commands (state_after plan commands scope acts) act).progress in
      (m : Moment) × (moment_in act ≡ Some m) × (later m.elapsed b.task.deadline ≤ p.exchange.hold) × (0 < p.exchange.hold) × (p.exchange.doubtful ≡ true)
  busy_holds acts act b =
      let s = state_after plan commands scope acts in
      let t = after plan commands s act in
      let a = after_holds s act (kept_all plan commands scope acts) in
      let w = b.written in
      let same : s.records ++ a.news ≡ s.records ++ (w.earlier ++ b.answer ∷ w.later) =
      sym a.added ∙ sym (ap (λ (u : Model). u.records) (after_all-append plan commands (opening plan scope) acts (act ∷ []))) ∙ w.written in
      of_one plan commands scope (HoldsFor act t.progress) a.news w.earlier b.answer w.later (append_cancel_left s.records a.news (w.earlier ++ b.answer ∷ w.later) same) a.held
      b.task b.line b.code b.of_task b.its_line b.refuses b.busy b.not_accepted

-- Until the wait is over.

module _ (plan : Plan) (commands : List Task) (moment : ℕ) where
  -- nothing is asked before the moment by this progress
  abbrev IsHeldBy : Progress → Type 0
  IsHeldBy p = (moment ≤ p.exchange.hold) × (0 < p.exchange.hold)

  -- the act reads the moment, or a later one
  abbrev ReadsIt : Act → Type 0
  ReadsIt act = (m : Moment) × (moment_in act ≡ Some m) × (moment ≤ m.elapsed)

  -- either of the two
  abbrev Still : Act → Progress → Type 0
  Still act p = IsHeldBy p ⊎ ReadsIt act

  -- so it is after a moment is read, if nothing was asked before it
  still_told : (act : Act) (m : Moment) → moment_in act ≡ Some m → (hold : ℕ) → (moment ≤ hold) × (0 < hold)
      → ((moment ≤ hold_left hold m.elapsed) × (0 < hold_left hold m.elapsed)) ⊎ ReadsIt act
  still_told act m reads hold h =
      let least = h.0 in
      cond_both (nat_lt m.elapsed hold) hold 0 (λ n. ((moment ≤ n) × (0 < n)) ⊎ ReadsIt act) (λ e. inl h)
      (λ e. let past = ltb-false m.elapsed hold e in inr (m, reads, omega (arith, least, past)))

  -- a line that is heard keeps it so
  line_still : (act : Act) (s : Model) (line : List ℕ) → Still act s.progress → Still act (line_came s line).progress
  line_still act s line (inr it) = inr it
  line_still act s line (inl h) =
      let n = line_busy line s in
      let least = h.0 in
      let some = h.1 in
      inl (cond_both (nat_lt 0 n) (max s.progress.exchange.hold (later s.progress.moment.elapsed n)) s.progress.exchange.hold (λ k. (moment ≤ k) × (0 < k))
      (λ e. (omega (arith, least), omega (arith, some))) (λ e. h))

  -- so does an act of each action
  moved_still : (o : Action) (s : Model) (act : Act) → Performs commands s o act → IsHeldBy s.progress → Still act (moved plan commands o s act).progress
  moved_still (action.Read until) s act obeys h =
      walk plan commands (λ a t. Still a t.progress) (action.Read until) s act obeys (
        (λ bytes m.
            let mid = with_moment m (with_progress (moment_noted m) s) in
            let told = still_told (Gave bytes m) m refl s.progress.exchange.hold h in
            came_along (λ (t : Model). Still (Gave bytes m) t.progress) (line_still (Gave bytes m)) (is_heard s.progress.phase) s.progress.exchange.word bytes mid told
            (asked_along (Still (Gave bytes m)) (λ q line e. e) mid.progress (lines_completed mid.rest bytes) told) told),
        (λ m.
            let p = time_passed until m s.progress in
            let told = still_told (Silent m) m refl s.progress.exchange.hold h in
            quieted_along (Still (Silent m)) plan s.progress.phase p told told told),
        inl h,
        inl h,
        inl h,
      )
  moved_still (action.Close why) s act obeys h =
      walk plan commands (λ a t. Still a t.progress) (action.Close why) s act obeys
      (closed_along (Still Closed) plan (waiting_of (with_rest [] s)) why s.progress (inl h) (inl h))
  moved_still action.ReadClock s act obeys h = walk plan commands (λ a t. Still a t.progress) action.ReadClock s act obeys (λ m. still_told (Told m) m refl s.progress.exchange.hold h, λ n. inl h)
  moved_still action.Renew s act obeys h = walk plan commands (λ a t. Still a t.progress) action.Renew s act obeys (λ m. still_told (Told m) m refl s.progress.exchange.hold h, λ n. inl h)
  moved_still action.Begin s act obeys h = walk plan commands (λ a t. Still a t.progress) action.Begin s act obeys (λ m. still_told (Told m) m refl s.progress.exchange.hold h, λ n. inl h)
  moved_still action.Skip s act obeys h = walk plan commands (λ a t. Still a t.progress) action.Skip s act obeys (λ m. still_told (Told m) m refl s.progress.exchange.hold h, λ n. inl h)
  moved_still action.Pass s act obeys h = walk plan commands (λ a t. Still a t.progress) action.Pass s act obeys (λ m. still_told (Told m) m refl s.progress.exchange.hold h, λ n. inl h)
  moved_still (action.Stop why) s act obeys h = absurd obeys
  moved_still o s act obeys h = walk plan commands (λ a t. Still a t.progress) o s act obeys (λ m. inl h, λ n. inl h)

  -- so do acts
  acts_still : (s : Model) (acts : List Act) → Runs plan commands s acts → IsHeldBy s.progress → IsHeldBy (after_all plan commands s acts).progress ⊎ Reaches moment acts
  acts_still s [] runs h = inl h
  acts_still s (act ∷ acts) runs h = by_first (λ still. acts_still (after plan commands s act) acts runs.1 still) first where
    -- after the first of them
    first : Still act (after plan commands s act).progress
    first =
        let t = moved plan commands (action_at plan s) (with_progress turned s) act in
        subst (Still act) (sym (with_losses_progress t)) (moved_still (action_at plan s) (with_progress turned s) act runs.0 h)

    -- at the end of all
    AtEnd : List Act → Type 0
    AtEnd xs = IsHeldBy (after_all plan commands (after plan commands s act) acts).progress ⊎ Reaches moment xs

    -- so it is by the others, if it is by these
    by_others : AtEnd acts → AtEnd (act ∷ acts)
    by_others (inl held) = inl held
    by_others (inr r) = inr (record {
      front = act ∷ r.front;
      act = r.act;
      others = r.others;
      order = ap (λ xs. act ∷ xs) r.order;
      read = r.read;
      tells = r.tells;
      reached = r.reached;
    })

    -- the lemma above, by what holds after the first
    by_first : (IsHeldBy (after plan commands s act).progress → AtEnd acts) → Still act (after plan commands s act).progress → AtEnd (act ∷ acts)
    by_first others (inr it) = inr (record { front = []; act = act; others = acts; order = refl; read = it.0; tells = it.1; reached = it.2 })
    by_first others (inl still) = by_others (others still)

-- a doubt stays until the station resynchronizes, whatever connections are closed and made
stays_doubtful : (plan : Plan) (commands : List Task) (s : Model) (acts : List Act) → Runs plan commands s acts → StaysSynchronized plan commands s acts
    → has_begun s.progress ≡ true → s.progress.exchange.doubtful ≡ true → (after_all plan commands s acts).progress.exchange.doubtful ≡ true
stays_doubtful plan commands s [] runs stays begun doubt = doubt
stays_doubtful plan commands s (act ∷ acts) runs stays begun doubt =
    stays_doubtful plan commands (after plan commands s act) acts runs.1 stays.1 stays.0
    (noted_after plan commands s act runs.0 begun stays.0 (doubt_stays s.client (noted_in s.progress) (client_part plan commands s (action_at plan s) act).steps doubt))

-- no request is sent while nothing is asked
none_sent : (plan : Plan) (commands : List Task) (s : Model) (o : Action) (act : Act) → Performs commands s o act → SendsRequest act
    → HoldsBefore plan s.progress (waiting_of s) o → 0 < s.progress.exchange.hold → ⊥
none_sent plan commands s action.Ask act obeys sends needs held = let none = needs.5 in omega (arith, held, none)
none_sent plan commands s action.Prepare act obeys sends needs held = let none = needs.3.3 in omega (arith, held, none)
none_sent plan commands s action.Send act obeys sends needs held = let none = needs.3.3 in omega (arith, held, none)
none_sent plan commands s action.Flush act obeys sends needs held = let none = needs.4.3 in omega (arith, held, none)
none_sent plan commands s o act obeys sends needs held = others_send_no_request plan commands o s act obeys (λ is. cc, λ is. cc, λ is. cc, λ is. cc) sends

-- the law: after a busy answer nothing is asked before its command's deadline has passed, and then the station synchronizes, and the setup
-- is sent anew
pub nothing_is_sent_while_busy : NothingIsSentWhileBusy
nothing_is_sent_while_busy = record {
  waits = λ plan commands scope earlier behind act request runs brings sends.
      let it = busy_holds plan commands scope earlier act brings in
      let s = state_after plan commands scope earlier in
      let t = after plan commands s act in
      let rest = runs_behind plan commands (opening plan scope) earlier (act ∷ (behind ++ request ∷ [])) runs in
      let split = runs_split plan commands t behind [] request rest.1 in
      by_wait plan commands t behind request it.0 brings.task.deadline act it.1 split.1 sends it.3 (acts_still plan commands (later it.0.elapsed brings.task.deadline) t behind split.0 (it.2, it.3));
  renews = λ plan commands scope earlier behind act runs brings asks stays.
      let end = state_after plan commands scope (earlier ++ act ∷ behind) in
      let t = after plan commands (state_after plan commands scope earlier) act in
      let rest = runs_behind plan commands (opening plan scope) earlier (act ∷ behind) runs in
      let doubt = ap (λ (u : Model). u.progress.exchange.doubtful) (after_all-append plan commands (opening plan scope) earlier (act ∷ behind))
      ∙ stays_doubtful plan commands t behind rest.1 stays.1 stays.0 (busy_holds plan commands scope earlier act brings).4 in
      none_asked plan end (action_at plan end) (action_for plan end.progress (waiting_of end)) asks doubt;
  set_up = λ plan commands scope earlier behind act runs brings.
      set_up_anew_after_a_doubt plan commands scope earlier behind act runs (λ begun still. (busy_holds plan commands scope earlier act brings).4);
} where
  -- the first clause, by whether the moment was read
  by_wait : (plan : Plan) (commands : List Task) (t : Model) (behind : List Act) (request : Act) (m : Moment) (wait : ℕ) (act : Act) → moment_in act ≡ Some m
      → let u = after_all plan commands t behind in Performs commands u (action_at plan u) request → SendsRequest request → 0 < t.progress.exchange.hold
      → ((later m.elapsed wait ≤ u.progress.exchange.hold) × (0 < u.progress.exchange.hold)) ⊎ Reaches (later m.elapsed wait) behind → WaitsFor wait act behind
  by_wait plan commands t behind request m wait act reads obeys sends some (inr r) = record { m = m; brought = reads; waited = r }
  by_wait plan commands t behind request m wait act reads obeys sends some (inl held) =
      let u = after_all plan commands t behind in
      absurd (none_sent plan commands u (action_at plan u) request obeys sends (action_for plan u.progress (waiting_of u)) held.1)
