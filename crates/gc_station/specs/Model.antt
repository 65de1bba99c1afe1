-- What a station is after the acts of its link, this project's own: the client's rule over what really happened, and how far
-- the station is. Each act is the one that the station was to make next. An act is one call on the link, with its result. `until`
-- says what a read waits for.
use Rattle.gc_station.specs.Common.{rest_behind, with_end, Decimal, Asked, Table, NullProc, request_line, asked_line, WINDOW, ById, Settlement, Settled, fresh, sends, hears, heard, expires, restarts, deadlines, call_at, End, Skipped, NoValue, Missed, Occasion, Task, Wish, is_none_left, client_sent, is_reply, calls_for_renewal, Moment, Act, Told, Cut, Gave, Silent, Ended, Broke, Closed, Opened}
use Rattle.std.specs.Prelude.{◌≡◌, ℕ, ◌-◌, Bool, true, false, List, [], ◌∷◌, ◌++◌, length, drop, take, map, Option, Some, None, if◌then◌else◌, ◌⊎◌}
use Rattle.gc_station.specs.declared.plan.Plan.{Plan}
use Rattle.gc_station.specs.declared.cause.Cause.{Cause}
use Rattle.gc_station.specs.declared.progress.Phase.{Phase}
use Rattle.gc_station.specs.declared.progress.Action.{Action}
use Rattle.gc_station.specs.declared.progress.Action.TheVariants.{ReadClock, Renew, Begin, Open, Clear, Ask, Send, Skip, Pass, Flush, Read, Close, Stop, Prepare}
use Rattle.gc_station.specs.declared.progress.Progress.{Progress}
use Rattle.gc_station.specs.declared.progress.Until.{Until}
use Rattle.gc_station.specs.declared.progress.Waiting.{Waiting}
use Rattle.gc_station.specs.declared.firsts.FirstAnswer.{FirstAnswer}
use Rattle.gc_station.specs.declared.mark.Mark.{Mark}
use Rattle.gc_station.specs.declared.station.sending.Outgoing.{Outgoing}
use Rattle.gc_station.specs.ActKinds.{Puts, ReadsClock, IsOpening, ReadsLink}
use Rattle.gc_station.specs.Deciding.{later, is_preparing, lacks_value, action_of}
use Rattle.gc_station.specs.Attempts.{listed_after, listed_after_settlements}
use Rattle.gc_station.specs.Busy.{busy_after_settlements}
use Rattle.gc_station.specs.Counters.{no_counts, with_before, counts_after_settlements}
use Rattle.gc_station.specs.Firsts.{firsts_after, with_first}
use Rattle.gc_station.specs.Marks.{commands_in, occasion_of, with_id, with_values, record_with, records_of, last_well, any_unexpected}
use Rattle.gc_station.specs.NextCommand.{place_next, commands_left, cycles_begun, mark_next, mark_setup, commands_before, upcoming_after, first_upcoming}
use Rattle.gc_station.specs.Progressing.{at_start, turned, moment_noted, cycle_begun, skipped, attempts_left_out, unsent_at, failing, opened, after_failure, cleared, request_noted, null_sent, resynchronized, sent, doubt_noted, hold_noted, line_noted, lines_synchronizing, bytes_noted, silent, early_noted, closed, loses_all, setup_sent}
use Rattle.gc_station.specs.Records.{Record}
use Rattle.gc_station.specs.Requests.{RunRequest, requests, of_task, command_at}
use Rattle.gc_station.specs.Scopes.{Scope, Reads}
use Rattle.gc_station.specs.Watching.{unanswered, fresh_after, fresh_of, cut_to}
use Rattle.gc_station.specs.declared.watching.Watch.{Watch}
pub use Rattle.gc_lines.specs.Passing.{lines_completed}
use Rattle.gc_station.specs.declared.cause.Cause.TheVariants as cause
use Rattle.gc_station.specs.declared.progress.Phase.TheVariants as phase

-- the state of a station after the acts of a run so far
pub record Model : Type 0 where
  -- how far the station is: its phase, the moment read last, and what is left
  pub progress : Progress
  -- the bytes since the last line feed, of those that were heard on this connection
  pub rest : List ℕ
  -- the client: its next id and its outstanding requests, by its rule
  pub client : ById Asked
  -- one for each outstanding request, the oldest first: which command it is; `None` for a null procedure
  pub marks : List (Option Mark)
  -- the records written so far, in order
  pub records : List Record
  -- whether a recorded command of the current attempt ended in a way after which the text sends its chain again; false before the
  -- first record. A command of the setup leaves it as it is
  pub listed : Bool
  -- of each counter of the text, the number in the answer that was recorded last
  pub counts : List (Option Decimal)
  -- the commands that were left out so far, in order: those of further attempts, and those that rested in their cycle
  pub passes : List RunRequest
  -- of each watched command, when it was recorded last as answered well
  pub fresh : List Watch
  -- what the line of a reply says of a call
  pub reads : Reads

-- the model of a station that has done nothing: nothing is sent or recorded, and the turns that are left are those of `scope`
abbrev pub opening : Plan → Scope → Model
opening plan scope = record {
  progress = at_start plan scope.turns;
  rest = [];
  client = fresh;
  marks = [];
  records = [];
  listed = false;
  counts = no_counts;
  passes = [];
  fresh = map unanswered scope.watched;
  reads = scope.reads;
}

-- what a decision looks at besides the progress: how many requests of `client` are outstanding (`all`), how many of them haven't
-- timed out (`current`), and how many are, by their `marks`, of commands (`commands`). `well`: whether the command that was
-- recorded last was answered well. `listed` is as in `Model`, and `fresh` the moment from which on the run may become stale
abbrev pub waiting_by : (client : ById Asked) (marks : List (Option Mark)) (well listed : Bool) (fresh : ℕ) → Waiting
waiting_by client marks well listed fresh = record {
  all = length client.waiting;
  current = length (deadlines client.waiting);
  commands = commands_in marks;
  well = well;
  listed = listed;
  fresh = fresh;
}

-- what a decision looks at besides the progress, of the model `s`
abbrev pub waiting_of : Model → Waiting
waiting_of s = waiting_by s.client s.marks (last_well false s.records) s.listed (fresh_of s.progress.moment.elapsed s.fresh)

-- the next action of a station that has the model `s`
abbrev pub action_at : Plan → Model → Action
action_at plan s = action_of plan s.progress (waiting_of s)

-- how many commands a cycle has: those after the setup
abbrev pub cycle_length : Plan → List Task → ℕ
cycle_length plan commands = length commands - plan.setup

-- the cycle of the command that is sent next: 0 while the setup isn't done
abbrev pub cycle_to_send : Plan → Model → ℕ
cycle_to_send plan s = if is_preparing plan s.progress (waiting_of s) then 0 else cycles_begun plan s.progress

-- the place in the station's list of the command that is sent next: the setup's next one, while that isn't done, and else the
-- cycle's
abbrev pub place_to_send : Plan → List Task → Model → ℕ
place_to_send plan commands s = if is_preparing plan s.progress (waiting_of s) then s.progress.prepared else place_next commands s.progress

-- the bytes of the next request of `client`, for `call`: its line with CR LF
abbrev pub next_request_text : ById Asked → Asked → List ℕ
next_request_text client call = with_end (asked_line (Some client.next) call)

-- the bytes of the null procedure that is sent next while the station synchronizes. The list is of the ids that aren't
-- answered, and the null procedure has the first of them. No bytes if all are answered
abbrev pub null_text : List ℕ → List ℕ
null_text [] = []
null_text (asked ∷ others) = with_end (request_line (Some asked) NullProc)

-- what a request takes from this moment if it is sent when that was read last
abbrev pub occasion_at : Moment → Occasion
occasion_at m = record { utc = m.utc; values = m.values }

-- the bytes of the request of `client` for the first of these commands, if it is sent on this occasion; no bytes if there is no command
abbrev pub first_text : Occasion → ById Asked → List Task → List ℕ
first_text occasion client [] = []
first_text occasion client (task ∷ others) = next_request_text client (call_at task occasion)

-- the bytes of the request of `client` for the first of these commands, which is one of the setup, if it is sent on this occasion. If there
-- is no command, the bytes of its request for a null procedure; that doesn't happen if the station's list has at
-- least `plan.setup` commands
abbrev pub text_or_null : Occasion → ById Asked → List Task → List ℕ
text_or_null occasion client [] = next_request_text client (Table NullProc)
text_or_null occasion client (task ∷ others) = first_text occasion client (task ∷ others)

-- the action sends a command, of a cycle or of the setup
abbrev pub SendsCommand : Action → Type 0
SendsCommand action = (action ≡ Send) ⊎ (action ≡ Prepare)

-- a station that has the model `s` sends a command next, of a cycle or of the setup
abbrev pub IsSending : Plan → Model → Type 0
IsSending plan s = SendsCommand (action_at plan s)

-- the act is the call of the link that `action` asks for, if the station has the model `s`. A call that sends writes the bytes
-- that the model gives; no act performs `Stop`
abbrev pub Performs : List Task → Model → Action → Act → Type 0
Performs commands s ReadClock act = ReadsClock act
Performs commands s Renew act = ReadsClock act
Performs commands s Begin act = ReadsClock act
Performs commands s Open act = IsOpening act
Performs commands s Clear act = Puts (10 ∷ []) act
Performs commands s Ask act = Puts (null_text s.progress.exchange.word) act
Performs commands s Prepare act = Puts (text_or_null (occasion_at s.progress.moment) s.client (drop s.progress.prepared commands)) act
Performs commands s Send act = Puts (first_text (occasion_at s.progress.moment) s.client (commands_left commands s.progress)) act
Performs commands s Skip act = ReadsClock act
Performs commands s Pass act = ReadsClock act
Performs commands s Flush act = Puts (next_request_text s.client (Table NullProc)) act
Performs commands s (Read until) act = ReadsLink act
Performs commands s (Close cause) act = act ≡ Closed
Performs commands s (Stop cause) act = ⊥

-- What an act does.

-- the model `s` with its progress changed by `f`
abbrev pub with_progress : (Progress → Progress) → Model → Model
with_progress f s = record s { progress = f s.progress }

-- the model `s` after the moment `m`: requests whose deadline has come have timed out, and each of `fresh` is cut to `m`
abbrev pub with_moment : Moment → Model → Model
with_moment m s = record s { client = expires s.client m.elapsed; fresh = map (cut_to m.elapsed) s.fresh }

-- `client` after a send of `command` at the moment `now`, whose request waits for `wait` milliseconds. `width` is how many
-- requests may wait at once
abbrev pub sent_to : (width : ℕ) (client : ById Asked) (command : Wish) (now wait : ℕ) → ById Asked
sent_to width client command now wait = client_sent client (sends width client command.target command.call (later now wait))

-- the request for the command of `task`, with `mark`
abbrev pub request_for : Mark → Task → Outgoing
request_for mark task = record { command = command_at (occasion_of mark) task; wait = task.deadline; mark = Some mark }

-- the request for a null procedure of the station's own: it is for no target, and waits for the plan's deadline
abbrev pub null_request : Plan → Outgoing
null_request plan = record { command = record { target = 0; call = Table NullProc }; wait = plan.deadline; mark = None }

-- the request for the first of these commands of the setup, with `mark`; if there is no command, the request for a null procedure
abbrev pub request_or_null : Plan → Mark → List Task → Outgoing
request_or_null plan mark [] = null_request plan
request_or_null plan mark (task ∷ others) = request_for mark task

-- the mark with which the setup's next command is sent: that of `mark_setup`, with the id that is next, with the number that is kept of its
-- counter, and with the values of files by the moment read last
abbrev pub mark_setup_sent : List Task → Model → Mark
mark_setup_sent commands s = with_values s.progress.moment.values (with_id s.client.next (with_before s.counts (mark_setup commands s.progress)))

-- the request for the setup's next command at the progress `p`, with this id and the number that these counts have at its counter; if the
-- list has none, the request for a null procedure
abbrev pub request_of_setup : Plan → List Task → (id : ℕ) → (counts : List (Option Decimal)) → Progress → Outgoing
request_of_setup plan commands id counts p =
    request_or_null plan (with_values p.moment.values (with_id id (with_before counts (mark_setup commands p)))) (drop p.prepared commands)

-- the model `s` once the request `x` was sent, which waits from the moment read last on
abbrev pub asks_for : Outgoing → Model → Model
asks_for x s = record s {
  client = sent_to WINDOW s.client x.command s.progress.moment.elapsed x.wait;
  marks = s.marks ++ x.mark ∷ [];
}

-- the model `s` once the first of these commands was sent with `mark`; `s` itself if there is no command
abbrev pub asks_first : Mark → List Task → Model → Model
asks_first mark [] s = s
asks_first mark (task ∷ others) s = asks_for (request_for mark task) s

-- the kept answers of a first sending, once all records of the model `s` were made
abbrev pub firsts_of : Model → List (Option FirstAnswer)
firsts_of s = firsts_after [] s.records

-- the mark with which the cycle's next command is sent: that of `mark_next`, with the id that is next, with the answer of the first
-- sending with which its own is compared, with the number that is kept of its counter, and with the values of files by the moment read last
abbrev pub mark_sent : Plan → List Task → Model → Mark
mark_sent plan commands s =
    with_values s.progress.moment.values (with_id s.client.next (with_before s.counts (with_first (firsts_of s) (mark_next plan commands s.progress))))

-- the model `s` once the cycle's next command was sent
abbrev pub asks_next : Plan → List Task → Model → Model
asks_next plan commands s = asks_first (mark_sent plan commands s) (commands_left commands s.progress) s

-- the model `s` once the setup's next command was sent
abbrev pub asks_setup : Plan → List Task → Model → Model
asks_setup plan commands s = asks_for (request_of_setup plan commands s.client.next s.counts s.progress) s

-- how the next command ends if it isn't sent: as missed if its cycle is missed, as without a value if one that it takes of a file isn't there,
-- otherwise as skipped
abbrev pub end_unsent : Progress → End
end_unsent p = if p.missed then Missed else if lacks_value p then NoValue else Skipped

-- the record of the first of these commands, which isn't sent (`end_unsent`). `m` is the moment read for that record, and the
-- command has `mark`. No record if there is no command
abbrev pub first_unsent_record : Progress → Moment → Mark → List Task → List Record
first_unsent_record p m mark [] = []
first_unsent_record p m mark (task ∷ others) = record_with (unsent_at m p) mark None task.command (end_unsent p) ∷ []

-- the record of the cycle's next command, which isn't sent, if the act read the clock; no record if the clock couldn't be read
abbrev pub unsent_record : Plan → List Task → Progress → Act → List Record
unsent_record plan commands p (Told m) = first_unsent_record p m (mark_next plan commands p) (commands_left commands p)
unsent_record plan commands p _ = []

-- whether a command of the current attempt has ended as its rule names, once the cycle's next command was recorded without being
-- sent; `listed` says whether one had before
abbrev pub listed_unsent : Plan → List Task → Progress → (listed : Bool) → Bool
listed_unsent plan commands p listed = listed_after listed (mark_next plan commands p).expected None (end_unsent p)

-- whether a command of the current attempt has ended as its rule names, after an act that records the cycle's next command
-- without sending it: `listed_unsent`, or as before if the clock couldn't be read
abbrev pub listed_after_skip : Plan → List Task → Model → Act → Bool
listed_after_skip plan commands s (Told m) = listed_unsent plan commands s.progress s.listed
listed_after_skip plan commands s _ = s.listed

-- the commands that are left out if the cycle's next one begins a further attempt: those of this attempt, and of the chain's
-- later attempts; and if it rests, the command alone
abbrev pub next_left_out : Plan → List Task → Progress → List RunRequest
next_left_out plan commands p =
    requests (cycles_begun plan p) (place_next commands p) (map of_task (take p.next_others (commands_left commands p)))

-- the model `s` with `passes` added to the commands that were left out
abbrev pub with_more_passes : List RunRequest → Model → Model
with_more_passes passes s = record s { passes = s.passes ++ passes }

-- the model `s` with `listed` in place of its own
abbrev pub with_listed : (listed : Bool) → Model → Model
with_listed listed s = record s { listed = listed }

-- the model `s` with `records` after those that it has
abbrev pub with_more_records : List Record → Model → Model
with_more_records records s = record s { records = s.records ++ records }

-- the model `s` once these settlements of the oldest outstanding requests are recorded, by their marks, which are removed. The
-- records may change `listed`, `counts` and `fresh`; the client of `s` stays
abbrev pub records_settled : List (Settlement Asked) → Model → Model
records_settled settlements s = record s {
  records = s.records ++ records_of s.reads s.progress.moment.utc s.marks settlements;
  listed = listed_after_settlements s.reads s.listed s.marks settlements;
  counts = counts_after_settlements s.reads s.counts s.marks settlements;
  marks = drop (length settlements) s.marks;
  fresh = fresh_after s.progress.moment.elapsed s.fresh (records_of s.reads s.progress.moment.utc s.marks settlements);
}

-- the model `s` with what its client settled: the records of the settlements of `x`, and the client of `x`
abbrev pub settles : Settled Asked (ById Asked) → Model → Model
settles x s = record (records_settled x.settlements s) { client = x.client }

-- the model `s` once a line that is a reply or isn't settled requests, as `x` says: with the records of these settlements, and what its
-- exchange notes of the line
abbrev pub line_settles : (is_reply : Bool) → Settled Asked (ById Asked) → Model → Model
line_settles is_reply x s = with_progress (line_noted is_reply x.settlements (length x.client.waiting)) (settles x s)

-- the model `s` once it is noted whether `line`, which its client is about to hear, calls for a synchronization (`calls_for_renewal`)
abbrev pub line_called : List ℕ → Model → Model
line_called line s = with_progress (doubt_noted (calls_for_renewal s.client line)) s

-- the records that `line`, which the client of `s` is about to hear, adds to those of `s`
abbrev pub line_news : List ℕ → Model → List Record
line_news line s = records_of s.reads s.progress.moment.utc s.marks (hears s.client line (heard line)).settlements

-- the longest wait that busy answers call for which `line` brings, which the client of `s` is about to hear; 0 if it brings none
abbrev pub line_busy : List ℕ → Model → ℕ
line_busy line s = busy_after_settlements s.reads 0 s.marks (hears s.client line (heard line)).settlements

-- the model `s` once it is noted whether a synchronization is called for by `line`, which its client is about to hear: by itself
-- (`line_called`), or because it ends a command as unexpected or by a busy answer; and until when the station asks for nothing then
abbrev pub line_doubted : List ℕ → Model → Model
line_doubted line s =
    with_progress (hold_noted (line_busy line s)) (with_progress (doubt_noted (any_unexpected false (line_news line s))) (line_called line s))

-- the model `s` after the client heard `line`
abbrev pub line_came : Model → List ℕ → Model
line_came s line = line_settles (is_reply line) (hears s.client line (heard line)) (line_doubted line s)

-- the model `s` after the client heard these lines, in order
abbrev pub lines_came : Model → List (List ℕ) → Model
lines_came s [] = s
lines_came s (line ∷ others) = lines_came (line_came s line) others

-- the model `s` with `rest` in place of its bytes since the last line feed
abbrev pub with_rest : List ℕ → Model → Model
with_rest rest s = record s { rest = rest }

-- the model `s` after these lines, in order: if the station had synchronized before them (`begun`), the client hears them;
-- otherwise the synchronization does
abbrev pub lines_taken : (begun : Bool) → List (List ℕ) → Model → Model
lines_taken true lines s = lines_came s lines
lines_taken false lines s = with_progress (λ p. lines_synchronizing p lines) s

-- the model `s` after `piece`, whose lines are heard as `lines_taken` says
abbrev pub piece_heard : (begun : Bool) → List ℕ → Model → Model
piece_heard begun piece s = lines_taken begun (lines_completed s.rest piece) (with_rest (rest_behind s.rest piece) s)

-- whether what comes in a phase is heard: in `Ready` alone. In each other phase it is discarded
abbrev pub is_heard : Phase → Bool
is_heard phase.Ready = true
is_heard _ = false

-- the model `s` after `piece`. `ready`: whether what comes in this phase is heard (`is_heard`); otherwise the piece is discarded.
-- `word`: the ids of the synchronization that aren't answered. If all are, the client hears the piece; otherwise the
-- synchronization does, and the client doesn't hear what follows its last answer in the piece
abbrev pub after_piece : (ready : Bool) (word piece : List ℕ) → Model → Model
after_piece true word piece s = piece_heard (is_none_left word) piece s
after_piece false word piece s = s

-- the model `s` after `piece`, which is heard as `after_piece` says in the phase of `s` and with the ids that aren't answered
abbrev pub piece_taken : List ℕ → Model → Model
piece_taken piece s = after_piece (is_heard s.progress.phase) s.progress.exchange.word piece s

-- the model `s` once a piece was heard: all tries are available again if it settled a command after the setup (`bytes_noted`),
-- and it is noted if the cycle was done early (`early_noted`). `before` is how many commands were outstanding before the
-- piece
abbrev pub piece_noted : Plan → Until → (before : ℕ) → Model → Model
piece_noted plan until before s = with_progress (λ p. early_noted plan (commands_in s.marks) (bytes_noted plan until before (waiting_of s) p)) s

-- the model `s` after `piece`, which came by the moment `m`: requests whose deadline has come time out first, and then the
-- piece is heard
abbrev pub piece_at : Plan → Until → List ℕ → Moment → Model → Model
piece_at plan until piece m s =
    piece_noted plan until (commands_in s.marks) (piece_taken piece (with_moment m (with_progress (moment_noted m) s)))

-- the model `s` after a read with this result. The end of the connection, a failed read and a clock that can't be read are
-- causes to close the connection; without one the run is over (`failing`)
abbrev pub after_read : Plan → Until → Model → Act → Model
after_read plan until s (Gave bytes m) = piece_at plan until bytes m s
after_read plan until s (Silent m) = with_moment m (with_progress (silent plan until m) s)
after_read plan until s Ended = with_progress (failing cause.End) s
after_read plan until s Broke = with_progress (failing cause.Read) s
after_read plan until s _ = with_progress (failing cause.Clock) s

-- the model `s` after an act that reads the clock: `f` changes its progress by the moment that was read. If the clock couldn't
-- be read, that is the cause to close the connection; without one the run is over (`failing`)
abbrev pub after_clock : (Moment → Progress → Progress) → Model → Act → Model
after_clock f s (Told m) = with_moment m (with_progress (f m) s)
after_clock f s _ = with_progress (failing cause.Clock) s

-- the model `s` after the clock was read to leave out the further attempts of a chain; if it couldn't be read, none is left out
abbrev pub after_pass : Plan → List Task → Model → Act → Model
after_pass plan commands s (Told m) =
    let next = upcoming_after plan s.progress.next_others commands s.progress in
    with_moment m
    (with_progress (λ p. early_noted plan (commands_in s.marks) (attempts_left_out next m p)) (with_more_passes (next_left_out plan commands s.progress) s))
after_pass plan commands s _ = with_progress (failing cause.Clock) s

-- the model `s` after a write: `f` changes it. If the bytes were cut, the connection is to be closed besides, for a cause that
-- has the number `requests`
abbrev pub after_put : (requests : ℕ) (f : Model → Model) → Model → Act → Model
after_put requests f s (Cut bytes count) = with_progress (failing (cause.Write requests count)) (f s)
after_put requests f s _ = f s

-- the model `s` after an attempt to connect
abbrev pub after_open : Plan → Model → Act → Model
after_open plan s Opened = with_progress opened s
after_open plan s _ = with_progress (after_failure plan (commands_in s.marks) cause.Open) s

-- the model `s` after its connection was closed for `cause`: the bytes since the last line feed are discarded, and what is
-- outstanding stays outstanding
abbrev pub after_close : Plan → Cause → Model → Model
after_close plan cause s = with_progress (closed plan (waiting_of s) cause) (with_rest [] s)

-- the model `s` after an act that performs `action`, but without the turn that each act takes, and before all outstanding
-- requests are lost if that follows (`with_losses`)
abbrev pub moved : Plan → List Task → Action → Model → Act → Model
moved plan commands ReadClock s act = after_clock (λ m p. early_noted plan (commands_in s.marks) (moment_noted m p)) s act
moved plan commands Renew s act = after_clock (λ m p. early_noted plan 0 (resynchronized plan m p)) s act
moved plan commands Begin s act = after_clock (cycle_begun plan (cycle_length plan commands) (first_upcoming plan commands s.progress)) s act
moved plan commands Open s act = after_open plan s act
moved plan commands Clear s act = after_put (commands_before plan commands s.progress) (with_progress cleared) s act
moved plan commands Ask s act = after_put (commands_before plan commands s.progress) (with_progress (null_sent plan)) s act
moved plan commands Prepare s act = after_put (commands_before plan commands s.progress)
    (λ (s : Model). with_progress (setup_sent plan) (asks_setup plan commands s)) s act
moved plan commands Send s act = after_put (commands_before plan commands s.progress)
    (λ (s : Model). with_progress (sent (upcoming_after plan 1 commands s.progress)) (asks_next plan commands s))
    s act
moved plan commands Skip s act = after_clock
    (λ m p. early_noted plan (commands_in s.marks) (skipped (upcoming_after plan 1 commands s.progress) m p))
    (with_listed (listed_after_skip plan commands s act) (with_more_records (unsent_record plan commands s.progress act) s)) act
moved plan commands Pass s act = after_pass plan commands s act
moved plan commands Flush s act = after_put (commands_before plan commands s.progress)
    (λ (s : Model). with_progress request_noted (asks_for (null_request plan) s)) s act
moved plan commands (Read until) s act = after_read plan until s act
moved plan commands (Close cause) s act = after_close plan cause s
moved plan commands (Stop cause) s act = s

-- the model `s` with all outstanding requests lost and a fresh client, if `are_lost`; otherwise `s` itself
abbrev pub losing : (are_lost : Bool) → Model → Model
losing true s = settles (restarts s.client) s
losing false s = s

-- the model `s` with all outstanding requests lost, if the station synchronizes or no act follows; otherwise `s` itself
abbrev pub with_losses : Model → Model
with_losses s = losing (loses_all s.progress) s

-- the model `s` after an act that performs `action`: a turn is taken, then `moved`, and then all outstanding requests are lost
-- if `with_losses` says so
abbrev pub stepped : Plan → List Task → Action → Model → Act → Model
stepped plan commands action s act = with_losses (moved plan commands action (with_progress turned s) act)

-- the model `s` after an act that performs the action that was next
abbrev pub after : Plan → List Task → Model → Act → Model
after plan commands s act = stepped plan commands (action_at plan s) s act

-- the model `s` after these acts, in order
abbrev pub after_all : Plan → List Task → Model → List Act → Model
after_all plan commands s [] = s
after_all plan commands s (act ∷ acts) = after_all plan commands (after plan commands s act) acts

-- each of these acts, in order, performs the action that was next, from the model `s` on
abbrev pub Runs : Plan → List Task → Model → List Act → Type 0
Runs plan commands s [] = Unit {0}
Runs plan commands s (act ∷ acts) = Performs commands s (action_at plan s) act × Runs plan commands (after plan commands s act) acts
