-- What holds of every list of events: laws of this project's own definitions. A law that needs a window of at most seven says so.
use Rattle.gc_world.specs.Common.{IsFitting, Reading, Call, WINDOW, Settlement, ReadsAs, State, IsFittingState, restarted}
use Rattle.std.specs.Prelude.{◌≡◌, ℕ, ◌≤◌, List, Some, slice_get}
use Rattle.gc_world.specs.declared.event.Event.{Event}
use Rattle.gc_world.specs.Clients.{ends, left_by_ids, played_between, played_by_numbers_between}
use Rattle.gc_world.specs.Faithful.{IsValueOrRefusal}
use Rattle.gc_world.specs.Order.{IsOrderly, IsRecent, numbers}
use Rattle.gc_world.specs.Record.{IsOneForOne, IsReplyTo, IsBooked, HasExecutions}
use Rattle.gc_world.specs.World.{Ends}

-- Laws of runs between any two ends: `ends` is those of the simulated instrument.

module _ {S : Type 0} where
  -- with a window of at most seven, the wire that a list of events leaves by ids keeps the order of the line (`IsOrderly`)
  abbrev pub KeepsOrder : Ends S → Type 0
  KeepsOrder any_ends =
      (width : ℕ) → width ≤ WINDOW → (opening : S) (events : List Event) →
      IsOrderly width (played_between any_ends width opening events).wire

  -- with a window of at most seven, the run by ids and the run by numbers leave the same wire
  abbrev pub RunsAgree : Ends S → Type 0
  RunsAgree any_ends =
      (width : ℕ) → width ≤ WINDOW → (opening : S) (events : List Event) →
      (played_between any_ends width opening events).wire ≡ (played_by_numbers_between any_ends width opening events).wire

  -- settlement m has the target and the call of request m, and there are no more settlements than requests
  abbrev pub SettlesInOrder : Ends S → Type 0
  SettlesInOrder any_ends =
      (width : ℕ) (opening : S) (events : List Event) →
      IsOneForOne (played_between any_ends width opening events).wire.sent (played_between any_ends width opening events).wire.settled

-- Laws of runs on the simulated instrument.

-- with a window of at most seven: while a reply is kept, each request in flight has the number that was executed last, or one of
-- the next `width` numbers, so a request with the kept id is the one executed last, repeated
abbrev pub KeepsRecent : Type 0
KeepsRecent =
    (width : ℕ) → width ≤ WINDOW → (opening : State) (events : List Event) →
    (let w = left_by_ids width opening events in IsRecent width w.state.kept w.executed (numbers w.up))

-- with a window of at most seven, if the restarted opening state is fitting: where settlement m is answered, its line is among
-- those made for request m, and is what the instrument replies when it executes the settlement's call in a fitting state
-- (`IsBooked`)
abbrev pub BooksItsOwn : Type 0
BooksItsOwn =
    (width : ℕ) → width ≤ WINDOW → (opening : State) → IsFittingState (restarted opening) → (events : List Event) (m : ℕ) (s : Settlement Call) →
    slice_get (left_by_ids width opening events).settled m ≡ Some s → IsBooked ends IsFittingState (left_by_ids width opening events).made m s

-- a line that the instrument writes on executing a fitting call, in a fitting state, reads for that call as a value or a refusal.
-- So, by `BooksItsOwn`, each answer that is booked for a fitting call reads so, if the window is at most seven wide and the
-- restarted opening state is fitting
abbrev pub RepliesAreFine : Type 0
RepliesAreFine =
    (call : Call) (bytes : List ℕ) (reading : Reading) → IsReplyTo ends IsFittingState call bytes → IsFitting call → ReadsAs call bytes reading →
    IsValueOrRefusal reading

-- with a window of at most seven, the executions that a list of events leads to are as `HasExecutions` has them: each reply that
-- was made is that of an execution, in the state before that execution, each execution's reply was made, and requests are
-- executed in order, none twice
abbrev pub ExecutionsAreRecorded : Type 0
ExecutionsAreRecorded =
    (width : ℕ) → width ≤ WINDOW → (opening : State) (events : List Event) → HasExecutions ends opening (left_by_ids width opening events)
