-- Each record is of its very request: an answer came after it, with its id, and in time; a late reply came too late; and a lost
-- one is lost for a cause. Each act preserves `IsHonest` (of `Waiting`): the outstanding requests were put among the acts, and
-- the records are true. An act is one call on the link, with its result.
use Rattle.gc_station.proofs.Common.{◌≡◌, inl, inr, ℕ, ◌+◌, ◌%◌, ◌<◌, ◌≤◌, false, List, [], ◌∷◌, ◌++◌, length, drop, Option, Some, None, refl, sym, ap, ◌∙◌, subst, arith, append_assoc, append-nil, AllByRecursion, slice_get, Asked, Table, NullProc, WINDOW, IDS, ById, pending_of, sends, send_keeps_ids, head_of_drop, End, call_at, no_needs, Task, client_sent, Mark, Plan, Moment, Action, Progress, Until, Upcoming, Act, Told, Untold, Put, Cut, Gave, Silent, Ended, Broke, Opened, Unopened, first_deadline, deadline_after, AnswerIsJustified, LateIsJustified, LostIsJustified, IsByExpectation, AnswersAreAsExpected, later, IsAsking, turned, moment_noted, early_noted, cycle_begun, skipped, attempts_left_out, unsent_at, cleared, null_sent, resynchronized, sent, request_noted, loses_all, setup_sent, commands_in, occasion_of, record_with, HoldsBefore, Record, state_after, OfEachRecord, moment_in, Puts, ReadsClock, IsOpening, ReadsLink, Model, opening, action_at, waiting_of, next_request_text, null_text, first_text, with_progress, is_heard, asks_first, asks_next, after_pass, with_more_passes, next_left_out, with_listed, listed_after_skip, with_more_records, unsent_record, first_unsent_record, after_clock, after_put, after_open, after_read, Performs, moved, Runs, cycle_length, place_to_send, text_or_null, asks_setup, null_request, request_or_null, asks_for, mark_sent, mark_setup_sent, occasion_at, mark_next, place_next, upcoming_after, first_upcoming, Scope}
use Rattle.std.proofs.Common.{length-append}
use Rattle.gc_station.proofs.InCycle.{within_window}
use Rattle.gc_station.proofs.EachRun.{invariant_holds}
use Rattle.gc_station.proofs.Outs.{prepare_cycle, prepare_place, send_cycle, send_place, sending_asks}
use Rattle.gc_station.proofs.Facts.{action_for}
use Rattle.gc_station.proofs.Invariant.{Invariant}
use Rattle.gc_station.proofs.Going.{after_all-append}
use Rattle.gc_station.proofs.Growing.{losing_records}
use Rattle.gc_station.proofs.Lists.{all_append, all_on, AllRisingAt, rising_more}
use Rattle.gc_station.proofs.Losing.{losing_honest}
use Rattle.gc_station.proofs.Waiting.{TimedOutAsRead, StillWaits, IsJustified, Honest, IsHonest, Marked, AsksThen, WasMade, asked_more, asked_with_equal_id, asked_number_below, as_read_without_moment, all_true_more, honest_without_moment, honest_after_moment}
use Rattle.gc_station.proofs.Pieces.{piece_honest}
use Rattle.gc_station.proofs.Midway.{with_sent, sent_with_room}
use Rattle.gc_station.proofs.Walk.{unsent_along}
use Rattle.gc_station.specs.declared.progress.Action.TheVariants as actions

-- A request is sent.

-- an act that puts bytes reads no moment
puts_read_none : (bytes : List ℕ) (act : Act) → Puts bytes act → moment_in act ≡ None
puts_read_none bytes (Put out) o = refl
puts_read_none bytes (Cut out n) o = refl
puts_read_none bytes act o = absurd o

-- `IsHonest` holds after a write, whole or cut, if it holds after a whole one
put_honest : (plan : Plan) (commands : List Task) (scope : Scope) (acts : List Act) (requests : ℕ) (f : Model → Model) (t : Model) (act : Act)
    → IsHonest plan commands scope acts acts (f t) → IsHonest plan commands scope acts acts (after_put requests f t act)
put_honest plan commands scope acts requests f t (Cut out n) h = h
put_honest plan commands scope acts requests f t act h = h

-- the record of the first of these commands, which isn't sent, is true, if its mark has the id 0: it is neither answered nor late nor lost
skips_first_true : (plan : Plan) (commands : List Task) (scope : Scope) (all : List Act) (p : Progress) (m : Moment) (mark : Mark) (left : List Task)
    → mark.id ≡ 0 → AllByRecursion (IsJustified plan commands scope all) (first_unsent_record p m mark left)
skips_first_true plan commands scope all p m mark [] none = tt
skips_first_true plan commands scope all p m mark (task ∷ others) none = (
  unsent_along (λ (end : End). IsJustified plan commands scope all (record_with (unsent_at m p) mark None task.command end))
      (record { answered = λ line e. cc; late = λ e. cc; lost = λ e. cc; made = λ utc e. cc; unsent = λ e. none; expected = ((λ well. cc), (λ line e. cc)) })
      (record { answered = λ line e. cc; late = λ e. cc; lost = λ e. cc; made = λ utc e. cc; unsent = λ e. none; expected = ((λ well. cc), (λ line e. cc)) })
      (record { answered = λ line e. cc; late = λ e. cc; lost = λ e. cc; made = λ utc e. cc; unsent = λ e. none; expected = ((λ well. cc), (λ line e. cc)) }) p,
  tt,
)

-- the record of the next command, if it isn't sent, is true
skips_true : (plan : Plan) (commands : List Task) (scope : Scope) (all : List Act) (p : Progress) (act : Act) → AllByRecursion (IsJustified plan commands scope all) (unsent_record plan commands p act)
skips_true plan commands scope all p (Told m) = skips_first_true plan commands scope all p m (mark_next plan commands p) (drop (place_next commands p) commands) refl
skips_true plan commands scope all p act = tt

-- One act more.

module _ (plan : Plan) (commands : List Task) (scope : Scope) (acts : List Act) where
  -- the model before the act
  abbrev here : Model
  here = state_after plan commands scope acts

  -- `IsHonest` of a model before this act, whose records are true by the acts with this one
  abbrev HonestBefore : Act → Model → Type 0
  HonestBefore act s = IsHonest plan commands scope acts (acts ++ act ∷ []) s

  -- `IsHonest` of a model after this act
  abbrev HonestAfter : Act → Model → Type 0
  HonestAfter act t = IsHonest plan commands scope (acts ++ act ∷ []) (acts ++ act ∷ []) t

  -- this act puts the request for `call`, for which there is room. If the request has a mark, that is of the command that is sent
  -- next (`Marked`), and the deadline is that command's; and if other requests wait, a request of the client is next (`IsAsking`)
  record PutsRequest (act : Act) (call : Asked) (deadline : ℕ) (mark : Option Mark) : Type 0 where
    room : length here.client.waiting < WINDOW
    asks : 0 < length here.client.waiting → IsAsking (action_at plan here)
    marked : (m : Mark) → mark ≡ Some m → Marked plan commands scope acts m
    due : (m : Mark) → mark ≡ Some m → deadline ≡ deadline_after plan commands scope acts
    made : (m : Mark) → mark ≡ Some m → AsksThen plan commands scope acts m.place call
    puts : Puts (next_request_text here.client call) act

  -- a request that this act puts waits after it, as `StillWaits` says: behind the others, and put as the last of the acts
  asked_here : (act : Act) (target : ℕ) (call : Asked) (deadline : ℕ) (mark : Option Mark) → Invariant plan commands here → PutsRequest act call deadline mark
      → StillWaits plan commands scope (acts ++ act ∷ []) ((here.client.next + 1) % IDS) (length here.client.waiting + 1) (length acts) (length here.client.waiting)
      (pending_of target call deadline) mark
  asked_here act target call deadline mark fine r =
      record {
        before = acts;
        request = act;
        between = [];
        order = refl;
        many = refl;
        asks = r.asks;
        its = r.marked;
        id = (send_keeps_ids here.client.next (length here.client.waiting) fine.digit r.room).own;
        put = r.puts;
        deadline = r.due;
        made = r.made;
        stays = tt;
      }

  -- an act that puts a request preserves `Honest`: the request is then outstanding after the others
  sent_honest : (act : Act) (target : ℕ) (call : Asked) (deadline : ℕ) (mark : Option Mark) → Invariant plan commands here → HonestBefore act here → PutsRequest act call deadline mark
      → Honest plan commands scope (acts ++ act ∷ []) (acts ++ act ∷ []) (with_sent here.client target call deadline) (here.marks ++ mark ∷ []) here.records
  sent_honest act target call deadline mark fine h r =
      let c = here.client in
      let ws = c.waiting in
      let marks = here.marks in
      let asked = pending_of target call deadline in
      let next = (c.next + 1) % IDS in
      let many : length (ws ++ asked ∷ []) ≡ length ws + 1 = length-append ws (asked ∷ []) in
      let ids = send_keeps_ids c.next (length ws) fine.digit r.room in
      let W = StillWaits plan commands scope (acts ++ act ∷ []) next (length ws + 1) in
      let end : length ws ≡ 0 + length ws = omega arith in
      let from : 0 ≤ length acts = omega arith in
      record {
        waiting = subst (λ (n : ℕ). AllRisingAt (StillWaits plan commands scope (acts ++ act ∷ []) next n) 0 0 (ws ++ asked ∷ []) (marks ++ mark ∷ [])) (sym many)
            (rising_more (StillWaits plan commands scope acts c.next (length ws)) W 0 0 (length acts) (length ws) ws marks asked mark end fine.paired from
            (λ n j p y low w.
            let below : j < length ws = omega (arith, low) in (
              asked_number_below plan commands scope acts TimedOutAsRead n j _ p y w,
              asked_with_equal_id plan commands scope (acts ++ act ∷ []) TimedOutAsRead n j j _ _ p y
                  (λ above. above) (ids.others j below) (asked_more plan commands scope acts act TimedOutAsRead TimedOutAsRead n j _ p y (as_read_without_moment act (puts_read_none _ act r.puts)) w),
            )) h.waiting (asked_here act target call deadline mark fine r));
        written = h.written;
      }

  -- an act that sends the first of the commands `left`, those from the next one on, with the mark of that one (`Marked`) and with
  -- room for it, preserves `IsHonest`
  first_honest : (act : Act) (next : Upcoming) (left : List Task) (mark : Mark) → Invariant plan commands here → HonestBefore act here
      → (marked : Marked plan commands scope acts mark) → (room : length here.client.waiting < WINDOW) → (there : drop (place_to_send plan commands here) commands ≡ left)
      → (puts : Puts (first_text (occasion_of mark) here.client left) act)
      → HonestAfter act (with_progress (sent next) (asks_first mark left (with_progress turned here)))
  first_honest act next [] mark fine h is room at puts = honest_without_moment plan commands scope acts act _ _ _ (puts_read_none [] act puts) h
  first_honest act next (task ∷ others) mark fine h is room at puts =
      let s = here in
      let limit = deadline_after plan commands scope acts in
      let d : later s.progress.moment.elapsed task.deadline ≡ limit = ap (λ (left : List Task). later s.progress.moment.elapsed (first_deadline left)) (sym at) in
      let moment = s.progress.moment in
      let then : call_at task (occasion_of mark) ≡ call_at task (occasion_at moment) =
      ap (λ (utc : ℕ). call_at task (record { utc = utc; values = mark.expected.values })) is.sent
      ∙ ap (λ (values : List (List ℕ)). call_at task (record { utc = moment.utc; values = values })) is.values in
      let made : AsksThen plan commands scope acts mark.place (call_at task (occasion_of mark)) =
      (task, ap (slice_get commands) is.place ∙ head_of_drop commands (place_to_send plan commands s) task others at, then) in
      subst (λ (c : ById Asked). Honest plan commands scope (acts ++ act ∷ []) (acts ++ act ∷ []) c (s.marks ++ Some mark ∷ []) s.records)
      (sym (ap (λ (e : ℕ). client_sent s.client (sends WINDOW s.client task.command.target (call_at task (occasion_of mark)) e)) d
      ∙ sent_with_room s.client task.command.target (call_at task (occasion_of mark)) limit room))
      (sent_honest act task.command.target (call_at task (occasion_of mark)) limit (Some mark) fine h
      (record {
        room = room;
        asks = λ above. sending_asks plan s is.sends;
        marked = λ m its. let same : mark ≡ m = cc in subst (λ (x : Mark). Marked plan commands scope acts x) same is;
        due = λ m its. refl;
        made = λ m its. let same : mark ≡ m = cc in subst (λ (x : Mark). AsksThen plan commands scope acts x.place (call_at task (occasion_of mark))) same made;
        puts = puts;
      }))

  -- an act that sends a null procedure of the client, with room for it, preserves `IsHonest`; if other requests wait, a request
  -- of the client is next (`IsAsking`)
  null_honest : (act : Act) (f : Progress → Progress) → Invariant plan commands here → HonestBefore act here → (room : length here.client.waiting < WINDOW)
      → (asks : 0 < length here.client.waiting → IsAsking (action_at plan here)) → (puts : Puts (next_request_text here.client (Table NullProc)) act)
      → HonestAfter act (with_progress f (asks_for (null_request plan) (with_progress turned here)))
  null_honest act f fine h room asks puts =
      let s = here in
      let d = later s.progress.moment.elapsed plan.deadline in
      subst (λ (c : ById Asked). Honest plan commands scope (acts ++ act ∷ []) (acts ++ act ∷ []) c (s.marks ++ None ∷ []) s.records) (sym (sent_with_room s.client 0 (Table NullProc) d room))
      (sent_honest act 0 (Table NullProc) d None fine h
      (record { room = room; asks = asks; marked = λ m its. absurd (null_has_no_mark m its); due = λ m its. absurd (null_has_no_mark m its); made = λ m its. absurd (null_has_no_mark m its); puts = puts })) where
        -- a null procedure has no mark
        null_has_no_mark : (m : Mark) → None ≡ Some m → ⊥
        null_has_no_mark m e = cc

  -- an act that sends the first of the setup's commands `left`, those from the next one on, with the mark of that one (`Marked`),
  -- or a null procedure if there is none, and with room for the request, preserves `IsHonest`
  setup_honest : (act : Act) (left : List Task) (mark : Mark) → Invariant plan commands here → HonestBefore act here → (marked : Marked plan commands scope acts mark)
      → (room : length here.client.waiting < WINDOW) → (there : drop (place_to_send plan commands here) commands ≡ left) → (puts : Puts (text_or_null (occasion_of mark) here.client left) act)
      → HonestAfter act (with_progress (setup_sent plan) (asks_for (request_or_null plan mark left) (with_progress turned here)))
  setup_honest act [] mark fine h is room at puts = null_honest act (setup_sent plan) fine h room (λ above. sending_asks plan here is.sends) puts
  setup_honest act (task ∷ others) mark fine h is room at puts =
      first_honest act (record { is_chained = false; others = 0; needs = no_needs }) (task ∷ others) mark fine h is room at puts

  -- Each action.

  -- an act that reads the clock preserves `IsHonest`
  clock_honest : (act : Act) (f : Moment → Progress → Progress) (s : Model) → HonestBefore act s → ReadsClock act → HonestAfter act (after_clock f (with_progress turned s) act)
  clock_honest (Told m) f s h o = honest_after_moment plan commands scope acts (Told m) m _ _ _ refl h
  clock_honest Untold f s h o = honest_without_moment plan commands scope acts Untold _ _ _ refl h
  clock_honest act f s h o = absurd o

  -- an act that leaves attempts out preserves `IsHonest`
  pass_honest : (act : Act) (s : Model) → HonestBefore act s → ReadsClock act → HonestAfter act (after_pass plan commands (with_progress turned s) act)
  pass_honest (Told m) s h o =
      let p = turned s.progress in
      let n = p.next_others in
      clock_honest (Told m) (λ m p'. early_noted plan (commands_in s.marks) (attempts_left_out (upcoming_after plan n commands p) m p'))
      (with_more_passes (next_left_out plan commands p) s) (record { waiting = h.waiting; written = h.written }) o
  pass_honest Untold s h o = clock_honest Untold (λ m p. p) s h o
  pass_honest act s h o = absurd o

  -- an attempt to connect preserves `IsHonest`
  open_honest : (act : Act) (s : Model) → HonestBefore act s → IsOpening act → HonestAfter act (after_open plan (with_progress turned s) act)
  open_honest Opened s h o = honest_without_moment plan commands scope acts Opened _ _ _ refl h
  open_honest Unopened s h o = honest_without_moment plan commands scope acts Unopened _ _ _ refl h
  open_honest act s h o = absurd o

  -- a read preserves `IsHonest`, whatever came of it. `tail` are the records that the loss of what is outstanding adds after it
  read_honest : (until : Until) (act : Act) (tail : List Record) → Invariant plan commands here → HonestBefore act here → ReadsLink act
      → (state_after plan commands scope (acts ++ act ∷ [])).records ≡ (after_read plan until (with_progress turned here) act).records ++ tail
      → HonestAfter act (after_read plan until (with_progress turned here) act)
  read_honest until Untold tail fine h o ends = honest_without_moment plan commands scope acts Untold _ _ _ refl h
  read_honest until (Gave bytes m) tail fine h o ends =
      piece_honest plan commands scope acts bytes m (is_heard here.progress.phase) here.progress.exchange.word tail ends (record { digit = fine.digit; few = fine.window }) h
  read_honest until (Silent m) tail fine h o ends = honest_after_moment plan commands scope acts (Silent m) m _ _ _ refl h
  read_honest until Ended tail fine h o ends = honest_without_moment plan commands scope acts Ended _ _ _ refl h
  read_honest until Broke tail fine h o ends = honest_without_moment plan commands scope acts Broke _ _ _ refl h
  read_honest until act tail fine h o ends = absurd o

  -- an act of the action that is next, whose conditions hold, preserves `IsHonest`, before what is outstanding is lost. `tail`
  -- are the records that this loss adds
  moved_honest : (action : Action) (act : Act) (tail : List Record) → Invariant plan commands here → HonestBefore act here → (is_next : action_at plan here ≡ action)
      → (needs : HoldsBefore plan here.progress (waiting_of here) action) → (performs : Performs commands here action act)
      → (ends : (state_after plan commands scope (acts ++ act ∷ [])).records ≡ (moved plan commands action (with_progress turned here) act).records ++ tail)
      → HonestAfter act (moved plan commands action (with_progress turned here) act)
  moved_honest actions.ReadClock act tail fine h is needs o ends = clock_honest act (λ m p. early_noted plan (commands_in here.marks) (moment_noted m p)) here h o
  moved_honest actions.Renew act tail fine h is needs o ends = clock_honest act (λ m p. early_noted plan 0 (resynchronized plan m p)) here h o
  moved_honest actions.Begin act tail fine h is needs o ends = clock_honest act (cycle_begun plan (cycle_length plan commands) (first_upcoming plan commands (turned here.progress))) here h o
  moved_honest actions.Open act tail fine h is needs o ends = open_honest act here h o
  moved_honest actions.Clear act tail fine h is needs o ends =
      let s = here in
      put_honest plan commands scope (acts ++ act ∷ []) _ (with_progress cleared) (with_progress turned s) act
      (honest_without_moment plan commands scope acts act _ _ _ (puts_read_none (10 ∷ []) act o) h)
  moved_honest actions.Ask act tail fine h is needs o ends =
      let s = here in
      put_honest plan commands scope (acts ++ act ∷ []) _ (with_progress (null_sent plan)) (with_progress turned s) act
      (honest_without_moment plan commands scope acts act _ _ _ (puts_read_none (null_text s.progress.exchange.word) act o) h)
  moved_honest actions.Prepare act tail fine h is needs o ends =
      let s = here in
      put_honest plan commands scope (acts ++ act ∷ []) _ (λ (x : Model). with_progress (setup_sent plan) (asks_setup plan commands x)) (with_progress turned s) act
      (setup_honest act (drop s.progress.prepared commands) (mark_setup_sent commands s) fine h
      (record { sends = inr is; cycle = sym (prepare_cycle plan s is); place = sym (prepare_place plan commands s is); sent = refl; id = refl; expects = refl; before = refl; values = refl }) (within_window _ _ needs.3.1)
      (ap (λ n. drop n commands) (prepare_place plan commands s is)) o)
  moved_honest actions.Send act tail fine h is needs o ends =
      let s = here in
      put_honest plan commands scope (acts ++ act ∷ []) _
      (λ (x : Model). with_progress (sent (upcoming_after plan 1 commands x.progress)) (asks_next plan commands x))
      (with_progress turned s) act
      (first_honest act (upcoming_after plan 1 commands s.progress)
      (drop (place_next commands s.progress) commands) (mark_sent plan commands s) fine h
      (record { sends = inl is; cycle = sym (send_cycle plan s is); place = sym (send_place plan commands s is); sent = refl; id = refl; expects = refl; before = refl; values = refl }) (within_window _ _ needs.3.1)
      (ap (λ n. drop n commands) (send_place plan commands s is)) o)
  moved_honest actions.Skip act tail fine h is needs o ends =
      let s = here in
      clock_honest act (λ m p. early_noted plan (commands_in s.marks) (skipped (upcoming_after plan 1 commands s.progress) m p))
      (with_listed (listed_after_skip plan commands (with_progress turned s) act) (with_more_records (unsent_record plan commands s.progress act) s))
      (record {
        waiting = h.waiting;
        written = all_append (IsJustified plan commands scope (acts ++ act ∷ [])) s.records
            (unsent_record plan commands s.progress act) h.written (skips_true plan commands scope (acts ++ act ∷ []) s.progress act);
      }) o
  moved_honest actions.Pass act tail fine h is needs o ends = pass_honest act here h o
  moved_honest actions.Flush act tail fine h is needs o ends =
      let s = here in
      put_honest plan commands scope (acts ++ act ∷ []) _ (λ (x : Model). with_progress request_noted (asks_for (null_request plan) x)) (with_progress turned s) act
      (null_honest act request_noted fine h (within_window _ _ needs.4.1) (λ above. subst IsAsking (sym is) tt) o)
  moved_honest (actions.Read until) act tail fine h is needs o ends = read_honest until act tail fine h o ends
  moved_honest (actions.Close why) act tail fine h is needs o ends = honest_without_moment plan commands scope acts act _ _ _ (ap moment_in o) h
  moved_honest (actions.Stop why) act tail fine h is needs o ends = absurd o

-- acts of a run preserve `IsHonest`
honest_along : (plan : Plan) (commands : List Task) (scope : Scope) (done acts : List Act)
    → IsHonest plan commands scope done done (state_after plan commands scope done) → Runs plan commands (state_after plan commands scope done) acts
    → IsHonest plan commands scope (done ++ acts) (done ++ acts) (state_after plan commands scope (done ++ acts))
honest_along plan commands scope done [] h runs = subst (λ (xs : List Act). IsHonest plan commands scope xs xs (state_after plan commands scope xs)) (sym (append-nil done)) h
honest_along plan commands scope done (act ∷ acts) h runs =
    let s = state_after plan commands scope done in
    let t = moved plan commands (action_at plan s) (with_progress turned s) act in
    let next = after_all-append plan commands (opening plan scope) done (act ∷ []) in
    let fine = invariant_holds plan commands scope done in
    let lost = losing_records (loses_all t.progress) t in
    let ends = ap (λ (x : Model). x.records) next ∙ lost.1 in
    let prior : IsHonest plan commands scope done (done ++ act ∷ []) s = record { waiting = h.waiting; written = all_true_more plan commands scope done act s.records runs.0 h.written } in
    let one = moved_honest plan commands scope done (action_at plan s) act lost.0 fine prior refl (action_for plan s.progress (waiting_of s)) runs.0 ends in
    let both = losing_honest plan commands scope done act fine runs.0 one in
    let one_more = subst (λ (x : Model). IsHonest plan commands scope (done ++ act ∷ []) (done ++ act ∷ []) x) (sym next) both in
    let goes_on = subst (λ (x : Model). Runs plan commands x acts) (sym next) runs.1 in
    subst (λ (xs : List Act). IsHonest plan commands scope xs xs (state_after plan commands scope xs)) (append_assoc done (act ∷ []) acts)
    (honest_along plan commands scope (done ++ act ∷ []) acts one_more goes_on)

-- what follows of each record that is true, whatever ending it has, holds of all records of a run
all_true : (plan : Plan) (commands : List Task) (scope : Scope) (acts : List Act) (P : Record → Type 0) → ((r : Record) → IsJustified plan commands scope acts r → P r)
    → Runs plan commands (opening plan scope) acts → AllByRecursion P (state_after plan commands scope acts).records
all_true plan commands scope acts P step runs =
    all_on (IsJustified plan commands scope acts) P (state_after plan commands scope acts).records step
    (honest_along plan commands scope [] acts (record { waiting = tt; written = tt }) runs).written

-- each record of a command that wasn't sent has the id 0
pub unsent_has_none : OfEachRecord (λ plan commands scope acts r. r.sent ≡ None → r.id ≡ 0)
unsent_has_none plan commands scope acts runs = all_true plan commands scope acts (λ r. r.sent ≡ None → r.id ≡ 0) (λ r is. is.unsent) runs

-- each record of a command that was sent is of the request that was made of its command then
pub each_made : OfEachRecord (λ plan commands scope acts r. (utc : ℕ) → r.sent ≡ Some utc → WasMade plan commands scope acts r)
each_made plan commands scope acts runs = all_true plan commands scope acts (λ r. (utc : ℕ) → r.sent ≡ Some utc → WasMade plan commands scope acts r) (λ r is. is.made) runs

-- each record is as the text expects it, if it was answered well, and isn't, if it ended as unexpected
pub as_expected : AnswersAreAsExpected
as_expected plan commands scope acts runs = all_true plan commands scope acts (IsByExpectation plan commands scope acts) (λ r is. is.expected) runs

-- each record of a reply in time is true
pub answers_true : OfEachRecord AnswerIsJustified
answers_true plan commands scope acts runs = all_true plan commands scope acts (AnswerIsJustified plan commands scope acts) (λ r is. is.answered) runs

-- each late record is true
pub late_true : OfEachRecord LateIsJustified
late_true plan commands scope acts runs = all_true plan commands scope acts (LateIsJustified plan commands scope acts) (λ r is. is.late) runs

-- each lost record is true
pub lost_true : OfEachRecord LostIsJustified
lost_true plan commands scope acts runs = all_true plan commands scope acts (LostIsJustified plan commands scope acts) (λ r is. is.lost) runs
