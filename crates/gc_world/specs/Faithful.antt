-- When the report of a list of events is faithful. It has four parts; each is here first in a sentence, then in symbols. The
-- report's lists are counted from 0, and request m is the one at place m of `sent`. This project's own.
use Rattle.gc_world.specs.Common.{Reading, Call, request_line, IDS, AreSettlements, ReadsAs, exec, executed_line, without_kept, State, restarted}
use Rattle.std.specs.Prelude.{◌≡◌, ℕ, ◌+◌, ◌<◌, ◌≤◌, ◌||◌, Bool, true, false, List, [], ◌∷◌, length, Some, map, nat_eq, slice_get, ⊤}
use Rattle.gc_catalogue.specs.declared.answer.Reading.TheVariants.{Value, Refused, ComFault, Unreadable}
use Rattle.gc_client.specs.declared.settlement.Settlement.{Settlement}
use Rattle.gc_client.specs.declared.settlement.Outcome.{Outcome}
use Rattle.gc_client.specs.declared.settlement.Outcome.TheVariants.{Answered, Late, Lost}
use Rattle.gc_world.specs.declared.event.Event.{Event}
use Rattle.gc_world.specs.declared.report.Made.{Made}
use Rattle.gc_world.specs.declared.report.Report.{Report}
use Rattle.gc_world.specs.declared.report.Sent.{Sent}
use Rattle.gc_world.specs.Clients.{left_by_numbers}
use Rattle.gc_world.specs.World.{Wire}
use Rattle.gc_world.specs.World

-- one for one: there are no more settlements than requests, and settlement m has the target and the call of request m
pub record OneForOne (r : Report State) : Type 0 where
  pub count : length r.settled ≤ length r.sent
  pub same :
      (m : ℕ) (settlement : Settlement Call) (request : Sent) → slice_get r.settled m ≡ Some settlement → slice_get r.sent m ≡ Some request →
      (settlement.target ≡ request.target) × (settlement.call ≡ request.call)

-- a reading is a value or a refusal, and neither a fault of the communication nor unreadable
abbrev pub IsValueOrRefusal : Reading → Type 0
IsValueOrRefusal (Value answer) = ⊤
IsValueOrRefusal (Refused code) = ⊤
IsValueOrRefusal (ComFault code) = ⊥
IsValueOrRefusal (Unreadable fault) = ⊥

-- the line is among those that the instrument made for request m, and the reading is the value or the refusal that the
-- line has for the call
pub record IsBookedFor (r : Report State) (m : ℕ) (call : Call) (reading : Reading) (line : List ℕ) : Type 0 where
  pub place : ℕ
  pub entry : Made
  pub made : slice_get r.made place ≡ Some entry
  pub number : entry.number ≡ m
  pub same_line : entry.line.items ≡ line
  pub reads : ReadsAs call line reading
  pub fine : IsValueOrRefusal reading

-- if the outcome of this call is an answer, it is booked for request m (`IsBookedFor`); of any other outcome nothing is claimed
abbrev pub IsBookedAnswer : Report State → ℕ → Call → Outcome → Type 0
IsBookedAnswer r m call (Answered reading line) = IsBookedFor r m call reading line.items
IsBookedAnswer r m call Late = ⊤
IsBookedAnswer r m call Lost = ⊤

-- booked answers: if settlement m is an answer, that answer is booked for request m (`IsBookedFor`)
abbrev pub BooksAnswers : (Report State) → Type 0
BooksAnswers r =
    (m : ℕ) (settlement : Settlement Call) → slice_get r.settled m ≡ Some settlement → IsBookedAnswer r m settlement.call settlement.outcome

-- whether the number n is in the list
abbrev pub has_number : ℕ → List ℕ → Bool
has_number n [] = false
has_number n (x ∷ xs) = nat_eq x n || has_number n xs

-- the state in which the instrument goes on: restarted if there was a restart (`starts`), else unchanged
abbrev pub restarted_if : {State : Type 0} → (State → State) → (starts : Bool) → State → State
restarted_if restarted false state = state
restarted_if restarted true state = restarted state

-- `before j` is the state before execution j: at first the restarted opening state, then the one that execution j - 1 leaves,
-- restarted where `starts` has the number j
pub record AreStatesBefore (opening : State) (r : Report State) (before : ℕ → State) : Type 0 where
  pub first : before 0 ≡ restarted opening
  pub next :
      (j n : ℕ) (request : Sent) → slice_get r.executed j ≡ Some n → slice_get r.sent n ≡ Some request →
      before (j + 1) ≡ restarted_if restarted (has_number (j + 1) r.starts) (exec (before j) request.call).state

-- an entry of `made` is the reply of execution j, the one execution of the entry's request
pub record IsReplyOf (r : Report State) (before : ℕ → State) (entry : Made) : Type 0 where
  pub j : ℕ
  pub executed : slice_get r.executed j ≡ Some entry.number
  pub alone : (i : ℕ) → slice_get r.executed i ≡ Some entry.number → i ≡ j
  -- the request's line is that of its call with some id from 0 to 7
  pub request : Sent
  pub sent : slice_get r.sent entry.number ≡ Some request
  pub id : ℕ
  pub digit : id < IDS
  pub request_is : request.line.items ≡ request_line (Some id) request.call
  -- the entry's line is the reply line, with that id, of what the call gives when it is executed in the state before execution j,
  -- written with the precision that the execution leaves
  pub line_is : entry.line.items ≡ executed_line id (exec (before j) request.call)

-- the record of execution: each entry of `made` is the reply of one execution, and each executed number is in `made`
pub record RecordsExecution (opening : State) (r : Report State) : Type 0 where
  pub before : ℕ → State
  pub states : AreStatesBefore opening r before
  pub replies : (k : ℕ) (entry : Made) → slice_get r.made k ≡ Some entry → IsReplyOf r before entry
  pub replied : (j n : ℕ) → slice_get r.executed j ≡ Some n → (k : ℕ) × (entry : Made) × (slice_get r.made k ≡ Some entry) × (entry.number ≡ n)

-- each request acts at most once: the executed numbers strictly increase, and the instrument, apart from its kept reply, is in
-- the state before the execution that would come next
pub record ActsOnce (opening : State) (r : Report State) : Type 0 where
  pub climbs : (i j n m : ℕ) → i < j → slice_get r.executed i ≡ Some n → slice_get r.executed j ≡ Some m → n < m
  pub before : ℕ → State
  pub states : AreStatesBefore opening r before
  pub last : without_kept r.instrument ≡ before (length r.executed)

-- a request of the report as the world speaks of it: its target, its call and its line's bytes
abbrev pub sent_seen : Sent → World.Sent
sent_seen s = record { target = s.target; call = s.call; line = s.line.items }

-- agreement: the report's requests and settlements, with their lines and readings, and its counts of refused sends and of idle
-- events are those of the wire w
pub record AgreesWith (w : Wire State) (r : Report State) : Type 0 where
  pub sent : map sent_seen r.sent ≡ w.sent
  pub settled : AreSettlements r.settled w.settled
  pub refused : r.refused_sends ≡ w.refused
  pub idle : r.idle_events ≡ w.idle

-- the report of these events, from the restarted opening state on, with a window of this width, is faithful
pub record Faithful (width : ℕ) (opening : State) (events : List Event) (r : Report State) : Type 0 where
  pub one_for_one : OneForOne r
  pub booked : BooksAnswers r
  pub executed : RecordsExecution opening r
  -- agreement with the run by numbers of the same events, in which the client is given the number of each reply's request. What
  -- that makes of a first reply, in time or too late, `FirstReply.antt` says
  pub agrees : AgreesWith (left_by_numbers width opening events) r
