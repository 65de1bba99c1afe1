-- One walk over the actions: which fields an act of each action changes (`changed`), and what has to hold for a fact to hold
-- after it (`HoldsInEachCase`). A new action is a row in each of these tables; a fact about all actions is an instance. An act is
-- one call on the link, with its result.
use Rattle.gc_station.proofs.Common.{◌≡◌, ℕ, Bool, true, false, List, [], ◌∷◌, drop, if◌then◌else◌, refl, sym, subst, rest_behind, no_values, Table, NullProc, restarts, End, Missed, NoValue, Skipped, Task, Moment, Mark, Plan, Cause, Phase, Pausing, Draining, Action, ReadClock, Renew, Begin, Open, Clear, Ask, Send, Skip, Pass, Flush, Read, Close, Stop, Prepare, Progress, Until, Upcoming, Waiting, Act, Told, Untold, Put, Cut, Gave, Silent, Ended, Broke, Closed, Opened, Unopened, is_quiet, lacks_value, commands_in, turned, moment_noted, cycle_begun, skipped, failing, opened, after_failure, cleared, request_noted, null_sent, resynchronized, sent, line_synchronizing, lines_synchronizing, pause_ended, drained, quieted, time_passed, early_noted, ended_for, closed, setup_sent, Puts, Model, waiting_of, next_request_text, null_text, first_text, occasion_at, listed_after_skip, with_listed, after_pass, Performs, is_heard, with_progress, with_moment, with_rest, with_more_records, asks_for, asks_first, asks_next, unsent_record, line_came, lines_came, lines_completed, piece_heard, after_piece, piece_noted, piece_at, after_read, after_put, after_close, moved, settles, losing, after, after_all, cycle_length, end_unsent, text_or_null, asks_setup, request_for, null_request, request_or_null, mark_sent, place_next, commands_left, commands_before, upcoming_after, first_upcoming}
use Rattle.gc_station.specs.declared.cause.Cause.TheVariants as cause

-- Parts of an act.

-- the model s before the lines of a piece that came by the moment m: a turn was taken, the moment was read, and requests timed
-- out
abbrev pub piece_before : (m : Moment) → (s : Model) → Model
piece_before m s = with_moment m (with_progress (moment_noted m) (with_progress turned s))

-- a fact of models that each line keeps is kept by all lines
pub lines_along : (P : Model → Type 0) → ((t : Model) (line : List ℕ) → P t → P (line_came t line)) → (s : Model) (lines : List (List ℕ)) → P s → P (lines_came s lines)
lines_along P step s [] p = p
lines_along P step s (line ∷ others) p = lines_along P step (line_came s line) others (step s line p)

-- a fact of progresses that each line heard while a station synchronizes keeps is kept by all of them
pub asked_along : (P : Progress → Type 0) → ((q : Progress) (line : List ℕ) → P q → P (line_synchronizing q line)) → (p : Progress) (lines : List (List ℕ)) → P p → P (lines_synchronizing p lines)
asked_along P step p [] h = h
asked_along P step p (line ∷ others) h = asked_along P step (line_synchronizing p line) others (step p line h)

-- a fact of models that each line keeps holds after a piece, if it holds in each of three cases: before its lines, if the client
-- hears them; after it, if it is heard while the station synchronizes; and if it is discarded
pub came_along : (P : Model → Type 0) → ((t : Model) (line : List ℕ) → P t → P (line_came t line)) → (heard : Bool) (word piece : List ℕ) (s : Model)
    → P (with_rest (rest_behind s.rest piece) s) → P (piece_heard false piece s) → P s → P (after_piece heard word piece s)
came_along P step true [] piece s hears begins drops = lines_along P step (with_rest (rest_behind s.rest piece) s) (lines_completed s.rest piece) hears
came_along P step true (asked ∷ others) piece s hears begins drops = begins
came_along P step false word piece s hears begins drops = drops

-- a fact of progresses holds after a read that gave nothing, if it holds in each of three cases: a pause ends, a drain ends, or
-- neither does
pub quieted_along : (P : Progress → Type 0) (plan : Plan) (at : Phase) (p : Progress) → P (pause_ended plan p) → P (drained p) → P p → P (quieted plan at p)
quieted_along P plan Pausing p paused quiet same = paused
quieted_along P plan Draining p paused quiet same = by_test (is_quiet plan p) where
  -- the lemma above for a drain, whether it was long enough (`true`) or not
  by_test : (b : Bool) → P (if b then drained p else p)
  by_test true = quiet
  by_test false = same
quieted_along P plan at p paused quiet same = same

-- a fact of progresses holds after a close, if it holds in both cases: the run ends for the cause, or it goes on as after a
-- failure
pub closed_along : (P : Progress → Type 0) (plan : Plan) (w : Waiting) (why : Cause) (p : Progress) → P (ended_for why p) → P (after_failure plan w.commands why p) → P (closed plan w why p)
closed_along P plan w cause.Done p ends on = ends
closed_along P plan w cause.Clock p ends on = ends
closed_along P plan w cause.Turns p ends on = ends
closed_along P plan w cause.Stale p ends on = ends
closed_along P plan w cause.Stopped p ends on = ends
closed_along P plan w why p ends on = on

-- a fact of models holds after the send of the first of these commands, with this mark, if it holds after the send of any task
-- with it, and before the send, as nothing is sent if there is no command
pub first_along : (P : Model → Type 0) (mark : Mark) (left : List Task) (s : Model)
    → ((task : Task) → P (asks_for (request_for mark task) s)) → P s → P (asks_first mark left s)
first_along P mark [] s sends none = none
first_along P mark (task ∷ others) s sends none = sends task

-- a fact of models holds after the send of the first of these commands of the setup, with this mark, or of a null procedure if
-- there is none, if it holds after the send of any task with that mark, and after that of the null procedure
pub setup_along : (P : Model → Type 0) (plan : Plan) (mark : Mark) (left : List Task) (s : Model)
    → ((task : Task) → P (asks_for (request_for mark task) s)) → P (asks_for (null_request plan) s) → P (asks_for (request_or_null plan mark left) s)
setup_along P plan mark [] s sends null = null
setup_along P plan mark (task ∷ others) s sends null = sends task

-- a fact of models holds where all outstanding requests are lost, or none is, if it holds in both cases
pub losing_along : (P : Model → Type 0) (all : Bool) (s : Model) → P (settles (restarts s.client) s) → P s → P (losing all s)
losing_along P true s lost same = lost
losing_along P false s lost same = same

-- a fact of endings holds of that of a command that isn't sent, if it holds in each of three cases: its cycle is missed, a value isn't
-- there that it takes of a file, or neither is so
pub unsent_along : (P : End → Type 0) → P Missed → P NoValue → P Skipped → (p : Progress) → P (end_unsent p)
unsent_along P missed without neither p = by_tests p.missed (lacks_value p) where
  -- the lemma above by the two tests
  by_tests : (is_missed lacks : Bool) → P (if is_missed then Missed else if lacks then NoValue else Skipped)
  by_tests true lacks = missed
  by_tests false true = without
  by_tests false false = neither

-- a fact of models that each act keeps is kept by all acts
pub acts_along : (plan : Plan) (commands : List Task) (P : Model → Type 0) → ((t : Model) (act : Act) → P t → P (after plan commands t act))
    → (s : Model) (acts : List Act) → P s → P (after_all plan commands s acts)
acts_along plan commands P step s [] p = p
acts_along plan commands P step s (act ∷ acts) p = acts_along plan commands P step (after plan commands s act) acts (step s act p)

-- The next command was sent, whatever it is.

-- the model that sent the next command, by its fields
abbrev pub model_sent : Plan → List Task → Model → Model
model_sent plan commands s = record s {
  progress = sent (upcoming_after plan 1 commands s.progress) s.progress;
  client = (asks_next plan commands s).client;
  marks = (asks_next plan commands s).marks;
}

-- the model that sent the first of these commands, by its fields, is that after the send
first_sent_same : (next : Upcoming) (mark : Mark) (left : List Task) (s : Model)
    → record s { progress = sent next s.progress; client = (asks_first mark left s).client; marks = (asks_first mark left s).marks }
    ≡ with_progress (sent next) (asks_first mark left s)
first_sent_same next mark [] s = refl
first_sent_same next mark (task ∷ others) s = refl

-- the model that sent the next command, by its fields (`model_sent`), is that after the act that sends
pub sent_same : (plan : Plan) (commands : List Task) (s : Model)
    → model_sent plan commands s ≡ with_progress (sent (upcoming_after plan 1 commands s.progress)) (asks_next plan commands s)
sent_same plan commands s = first_sent_same (upcoming_after plan 1 commands s.progress) (mark_sent plan commands s)
    (drop (place_next commands s.progress) commands) s

-- Which fields change.

-- the progress p with those fields of q that reading the clock may change, or failing to
abbrev told_of : (p q : Progress) → Progress
told_of p q = record p {
  phase = q.phase;
  moment = q.moment;
  exchange = record p.exchange { since = q.exchange.since; alive = q.exchange.alive; hold = q.exchange.hold };
  began = q.began;
  clock_due = q.clock_due;
  stops = q.stops;
  early = q.early;
}

-- the progress p with those fields of q that sending a request may change, or failing to send all of it
abbrev asking_of : (p q : Progress) → Progress
asking_of p q = record p {
  phase = q.phase;
  exchange = record p.exchange { alive = q.exchange.alive; asked = q.exchange.asked; behind = q.exchange.behind };
  clock_due = q.clock_due;
}

-- the progress p with those fields of q that change where another command of the cycle becomes the next one
abbrev next_of : (p q : Progress) → Progress
next_of p q = record p {
  unsent = q.unsent;
  next_is_chained = q.next_is_chained;
  next_others = q.next_others;
  next_needs = q.next_needs;
  chain_unbroken = q.chain_unbroken;
  preparing = q.preparing;
}

-- the progress p with those fields of q that the end of a connection changes, or an attempt to make one
abbrev connecting_of : (p q : Progress) → Progress
connecting_of p q = record p {
  phase = q.phase;
  exchange = record p.exchange { pause = q.exchange.pause };
  clock_due = q.clock_due;
  tries = q.tries;
  chain_unbroken = q.chain_unbroken;
  preparing = q.preparing;
  prepared = q.prepared;
  attempt = q.attempt;
}

-- the progress p with those fields of q that an act of this action changes
abbrev progress_of : Action → (p q : Progress) → Progress
progress_of ReadClock p q = told_of p q
progress_of Renew p q = record (told_of p q) {
  exchange = record q.exchange { pause = p.exchange.pause };
  chain_unbroken = q.chain_unbroken;
  preparing = q.preparing;
  prepared = q.prepared;
  attempt = q.attempt;
}
progress_of Begin p q = record (told_of p q) {
  period = q.period;
  touched = q.touched;
  due = q.due;
  missed = q.missed;
  left = q.left;
  unsent = q.unsent;
  next_is_chained = q.next_is_chained;
  next_others = q.next_others;
  next_needs = q.next_needs;
  chain_unbroken = q.chain_unbroken;
  preparing = q.preparing;
}
progress_of Open p q = connecting_of p q
progress_of Clear p q = record p { phase = q.phase; exchange = record p.exchange { again = q.exchange.again; asked = q.exchange.asked }; clock_due = q.clock_due }
progress_of Ask p q = record (asking_of p q) { exchange = record (asking_of p q).exchange { again = q.exchange.again } }
progress_of Prepare p q = record (asking_of p q) { prepared = q.prepared; chain_unbroken = q.chain_unbroken }
progress_of Send p q = next_of (asking_of p q) q
progress_of Skip p q = next_of (told_of p q) q
progress_of Pass p q = next_of (told_of p q) q
progress_of Flush p q = asking_of p q
progress_of (Read until) p q = record (told_of p q) {
  exchange = q.exchange;
  tries = q.tries;
}
progress_of (Close why) p q = connecting_of p q
progress_of (Stop why) p q = p

-- the model s with those fields of t that an act of this action changes, but for the progress
abbrev changed_by : Action → (s t : Model) → Model
changed_by ReadClock s t = record s { client = t.client; fresh = t.fresh }
changed_by Renew s t = record s { client = t.client; fresh = t.fresh }
changed_by Begin s t = record s { client = t.client; fresh = t.fresh }
changed_by Open s t = s
changed_by Clear s t = s
changed_by Ask s t = s
changed_by Prepare s t = record s { client = t.client; marks = t.marks }
changed_by Send s t = record s { client = t.client; marks = t.marks }
changed_by Skip s t = record s { client = t.client; records = t.records; listed = t.listed; fresh = t.fresh }
changed_by Pass s t = record s { client = t.client; passes = t.passes; fresh = t.fresh }
changed_by Flush s t = record s { client = t.client; marks = t.marks }
changed_by (Read until) s t = record s { rest = t.rest; client = t.client; marks = t.marks; records = t.records; listed = t.listed; counts = t.counts; fresh = t.fresh }
changed_by (Close why) s t = record s { rest = t.rest }
changed_by (Stop why) s t = s

-- the model s with all that an act of this action changes as it is in t, and all else as it was. The turns are as in s, as
-- `moved` is without the turn that an act takes; and no act changes what replies say
abbrev pub changed : Action → (s t : Model) → Model
changed action s t = record (changed_by action s t) {
  progress = record (progress_of action s.progress t.progress) { turns = s.progress.turns };
  reads = s.reads;
}

-- the progress p with those fields of q that lines change which are heard while the station synchronizes
abbrev asked_of : (p q : Progress) → Progress
asked_of p q = record p { exchange = record q.exchange { since = p.exchange.since; pause = p.exchange.pause } }

-- lines that are heard while the station synchronizes change no other fields than `asked_of` says
lines_changed : (p : Progress) (lines : List (List ℕ)) → lines_synchronizing p lines ≡ asked_of p (lines_synchronizing p lines)
lines_changed p lines = asked_along (λ (q : Progress). q ≡ asked_of p q)
    (λ q line e. subst (λ (r : Progress). line_synchronizing r line ≡ asked_of p (line_synchronizing r line)) (sym e) refl) p lines refl

-- the model s with those fields of t that a piece changes
abbrev piece_of : (s t : Model) → Model
piece_of s t = record s {
  progress = asked_of s.progress t.progress;
  rest = t.rest;
  client = t.client;
  marks = t.marks;
  records = t.records;
  listed = t.listed;
  counts = t.counts;
  fresh = t.fresh;
}

-- a read that gave bytes changes no other fields than `changed` says
gave_changed : (plan : Plan) (until : Until) (s : Model) (bytes : List ℕ) (m : Moment) → piece_at plan until bytes m s ≡ changed (Read until) s (piece_at plan until bytes m s)
gave_changed plan until s bytes m =
    let mid = with_moment m (with_progress (moment_noted m) s) in
    let heard = is_heard s.progress.phase in
    let n = commands_in s.marks in
    let is = came_along (λ (t : Model). t ≡ piece_of mid t) (λ t line e. subst (λ (u : Model). line_came u line ≡ piece_of mid (line_came u line))
    (sym e) refl) heard s.progress.exchange.word bytes mid refl (begins mid (lines_completed s.rest bytes) (rest_behind s.rest bytes)) refl in
    subst (λ (u : Model). piece_noted plan until n u ≡ changed (Read until) s (piece_noted plan until n u)) (sym is) refl where
      -- the lemma above for a piece that is heard while the station synchronizes
      begins : (t : Model) (lines : List (List ℕ)) (rest : List ℕ) → record t { progress = lines_synchronizing t.progress lines; rest = rest } ≡ piece_of t
          (record t { progress = lines_synchronizing t.progress lines; rest = rest })
      begins t lines rest = subst (λ (q : Progress). record t { progress = q; rest = rest } ≡ piece_of t (record t { progress = q; rest = rest })) (sym (lines_changed t.progress lines)) refl

-- a read that gave nothing changes no other fields than `changed` says
silent_changed : (plan : Plan) (until : Until) (s : Model) (m : Moment) → after_read plan until s (Silent m) ≡ changed (Read until) s (after_read plan until s (Silent m))
silent_changed plan until s m =
    quieted_along (λ (q : Progress). with_moment m (record s { progress = q }) ≡ changed (Read until) s (with_moment m (record s { progress = q }))) plan
    s.progress.phase (time_passed until m s.progress) refl refl refl

-- a close changes no other fields than `changed` says
closed_changed : (plan : Plan) (why : Cause) (s : Model) → after_close plan why s ≡ changed (Close why) s (after_close plan why s)
closed_changed plan why s =
    closed_along (λ (q : Progress). record s { progress = q; rest = [] } ≡ changed (Close why) s (record s { progress = q; rest = [] })) plan (waiting_of s) why s.progress refl refl

-- an act of this action changes no other fields than `changed` says
pub moved_changed : (plan : Plan) (commands : List Task) (action : Action) (s : Model) (act : Act) → moved plan commands action s act ≡ changed action s (moved plan commands action s act)
moved_changed plan commands ReadClock s (Told m) = refl
moved_changed plan commands ReadClock s act = refl
moved_changed plan commands Renew s (Told m) = refl
moved_changed plan commands Renew s act = refl
moved_changed plan commands Begin s (Told m) = refl
moved_changed plan commands Begin s act = refl
moved_changed plan commands Open s Opened = refl
moved_changed plan commands Open s act = refl
moved_changed plan commands Clear s (Cut bytes n) = refl
moved_changed plan commands Clear s act = refl
moved_changed plan commands Ask s (Cut bytes n) = refl
moved_changed plan commands Ask s act = refl
moved_changed plan commands Prepare s (Cut bytes n) = refl
moved_changed plan commands Prepare s act = refl
moved_changed plan commands Send s (Cut bytes n) =
    let cut = with_progress (failing (cause.Write (commands_before plan commands s.progress) n)) in
    subst (λ (u : Model). cut u ≡ changed Send s (cut u)) (sent_same plan commands s) refl
moved_changed plan commands Send s act = subst (λ (u : Model). u ≡ changed Send s u) (sent_same plan commands s) refl
moved_changed plan commands Skip s (Told m) = refl
moved_changed plan commands Skip s act = refl
moved_changed plan commands Pass s (Told m) = refl
moved_changed plan commands Pass s act = refl
moved_changed plan commands Flush s (Cut bytes n) = refl
moved_changed plan commands Flush s act = refl
moved_changed plan commands (Read until) s (Gave bytes m) = gave_changed plan until s bytes m
moved_changed plan commands (Read until) s (Silent m) = silent_changed plan until s m
moved_changed plan commands (Read until) s act = refl
moved_changed plan commands (Close why) s act = closed_changed plan why s
moved_changed plan commands (Stop why) s act = refl

-- What has to hold for a fact to hold after an act of an action: if it goes well, and if it doesn't. The former is given a
-- moment and the latter a number, also if no clock is read and no bytes are cut, so that one row serves many actions.

-- what has to hold for P to hold after an act that puts these bytes, where t is the model after a whole write: P after that, and
-- P after a write that is cut, for a cause with the number `requests`
abbrev pub HoldsAfterPut : (P : Act → Model → Type 0) → (requests : ℕ) → List ℕ → (t : Model) → Type 0
HoldsAfterPut P requests bytes t = ((m : Moment) → P (Put bytes) t) × ((n : ℕ) → P (Cut bytes n) (with_progress (failing (cause.Write requests n)) t))

-- what has to hold for P to hold after an act that reads the clock: P at each moment, where `t` gives the model but for the time
-- outs, and P where the clock couldn't be read by a station with the model u
abbrev pub HoldsAfterClock : (P : Act → Model → Type 0) → (t : Moment → Model) → (u : Model) → Type 0
HoldsAfterClock P t u = ((m : Moment) → P (Told m) (with_moment m (t m))) × ((n : ℕ) → P Untold (with_progress (failing cause.Clock) u))

-- what has to hold for P to hold after an act of this action: P in each case that there may be
abbrev pub HoldsInEachCase : Plan → List Task → (P : Act → Model → Type 0) → Action → Model → Type 0
HoldsInEachCase plan commands P ReadClock s = HoldsAfterClock P (λ m. with_progress (λ p. early_noted plan (commands_in s.marks) (moment_noted m p)) s) s
HoldsInEachCase plan commands P Renew s = HoldsAfterClock P (λ m. with_progress (λ p. early_noted plan 0 (resynchronized plan m p)) s) s
HoldsInEachCase plan commands P Begin s = HoldsAfterClock P (λ m. with_progress (cycle_begun plan (cycle_length plan commands) (first_upcoming plan commands s.progress) m) s) s
HoldsInEachCase plan commands P Open s = ((m : Moment) → P Opened (with_progress opened s)) × ((n : ℕ) → P Unopened (with_progress (after_failure plan (commands_in s.marks) cause.Open) s))
HoldsInEachCase plan commands P Clear s = HoldsAfterPut P (commands_before plan commands s.progress) (10 ∷ []) (with_progress cleared s)
HoldsInEachCase plan commands P Ask s = HoldsAfterPut P (commands_before plan commands s.progress) (null_text s.progress.exchange.word) (with_progress (null_sent plan) s)
HoldsInEachCase plan commands P Prepare s =
    HoldsAfterPut P (commands_before plan commands s.progress) (text_or_null (occasion_at s.progress.moment) s.client (drop s.progress.prepared commands))
    (with_progress (setup_sent plan) (asks_setup plan commands s))
HoldsInEachCase plan commands P Send s =
    HoldsAfterPut P (commands_before plan commands s.progress) (first_text (occasion_at s.progress.moment) s.client (commands_left commands s.progress)) (model_sent plan commands s)
HoldsInEachCase plan commands P Skip s =
    HoldsAfterClock P (λ m. with_progress (λ p. early_noted plan (commands_in s.marks) (skipped (upcoming_after plan 1 commands s.progress) m p))
    (with_listed (listed_after_skip plan commands s (Told m)) (with_more_records (unsent_record plan commands s.progress (Told m)) s)))
    (with_more_records [] s)
HoldsInEachCase plan commands P Pass s = ((m : Moment) → P (Told m) (after_pass plan commands s (Told m))) × ((n : ℕ) → P Untold (with_progress (failing cause.Clock) s))
HoldsInEachCase plan commands P Flush s = HoldsAfterPut P (commands_before plan commands s.progress)
    (next_request_text s.client (Table NullProc)) (with_progress request_noted (asks_for (null_request plan) s))
HoldsInEachCase plan commands P (Read until) s =
    ((bytes : List ℕ) (m : Moment) → P (Gave bytes m) (piece_at plan until bytes m s)) × ((m : Moment) → P (Silent m) (after_read plan until s (Silent m)))
    × P Ended (with_progress (failing cause.End) s) × P Broke (with_progress (failing cause.Read) s) × P Untold (with_progress (failing cause.Clock) s)
HoldsInEachCase plan commands P (Close why) s = P Closed (after_close plan why s)
HoldsInEachCase plan commands P (Stop why) s = Unit {0}

-- some moment, for a row that is given one though no clock is read
abbrev no_moment : Moment
no_moment = record { elapsed = 0; utc = 0; stops = false; touched = 0; values = no_values }

-- `HoldsAfterPut` gives P after an act that puts the bytes
put_walk : (P : Act → Model → Type 0) (requests : ℕ) (bytes : List ℕ) (f : Model → Model) (s : Model) (act : Act) → Puts bytes act
    → HoldsAfterPut P requests bytes (f s) → P act (after_put requests f s act)
put_walk P requests bytes f s (Put out) o h = subst (λ (xs : List ℕ). P (Put xs) (f s)) (sym o) (h.0 (no_moment))
put_walk P requests bytes f s (Cut out n) o h = subst (λ (xs : List ℕ). P (Cut xs n) (with_progress (failing (cause.Write requests n)) (f s))) (sym o.0) (h.1 n)
put_walk P requests bytes f s act o h = absurd o

-- `HoldsInEachCase` gives P after an act that performs the action
pub walk : (plan : Plan) (commands : List Task) (P : Act → Model → Type 0) (action : Action) (s : Model) (act : Act) → Performs commands s action act
    → HoldsInEachCase plan commands P action s → P act (moved plan commands action s act)
walk plan commands P ReadClock s (Told m) o h = h.0 m
walk plan commands P ReadClock s Untold o h = h.1 0
walk plan commands P ReadClock s act o h = absurd o
walk plan commands P Renew s (Told m) o h = h.0 m
walk plan commands P Renew s Untold o h = h.1 0
walk plan commands P Renew s act o h = absurd o
walk plan commands P Begin s (Told m) o h = h.0 m
walk plan commands P Begin s Untold o h = h.1 0
walk plan commands P Begin s act o h = absurd o
walk plan commands P Open s Opened o h = h.0 (no_moment)
walk plan commands P Open s Unopened o h = h.1 0
walk plan commands P Open s act o h = absurd o
walk plan commands P Clear s act o h = put_walk P (commands_before plan commands s.progress) (10 ∷ []) (with_progress cleared) s act o h
walk plan commands P Ask s act o h = put_walk P (commands_before plan commands s.progress) (null_text s.progress.exchange.word) (λ (x : Model). with_progress (null_sent plan) x) s act o h
walk plan commands P Prepare s act o h =
    let requests = commands_before plan commands s.progress in
    let text = text_or_null (occasion_at s.progress.moment) s.client (drop s.progress.prepared commands) in
    put_walk P requests text (λ (x : Model). with_progress (setup_sent plan) (asks_setup plan commands x)) s act o h
walk plan commands P Send s act o h =
    let requests = commands_before plan commands s.progress in
    let text = first_text (occasion_at s.progress.moment) s.client (drop (place_next commands s.progress) commands) in
    put_walk P requests text (λ (x : Model). with_progress (sent (upcoming_after plan 1 commands s.progress)) (asks_next plan commands x)) s act o
    (subst (λ (u : Model). HoldsAfterPut P requests text u) (sent_same plan commands s) h)
walk plan commands P Skip s (Told m) o h = h.0 m
walk plan commands P Skip s Untold o h = h.1 0
walk plan commands P Skip s act o h = absurd o
walk plan commands P Pass s (Told m) o h = h.0 m
walk plan commands P Pass s Untold o h = h.1 0
walk plan commands P Pass s act o h = absurd o
walk plan commands P Flush s act o h = put_walk P (commands_before plan commands s.progress) (next_request_text s.client (Table NullProc))
    (λ (x : Model). with_progress request_noted (asks_for (null_request plan) x)) s act o h
walk plan commands P (Read until) s (Gave bytes m) o h = h.0 bytes m
walk plan commands P (Read until) s (Silent m) o h = h.1 m
walk plan commands P (Read until) s Ended o h = h.2
walk plan commands P (Read until) s Broke o h = h.3
walk plan commands P (Read until) s Untold o h = h.4
walk plan commands P (Read until) s act o h = absurd o
walk plan commands P (Close why) s act o h = subst (λ (a : Act). P a (after_close plan why s)) (sym o) h
walk plan commands P (Stop why) s act o h = absurd o
