-- What holds of a client in the field, this project's own, and in particular of one that doesn't synchronize; and the simulator
-- as an instrument. Requests are numbered from 0 on, in the order of sending. The client that knows ids finds a reply's request
-- by the reply's id; the one that is given numbers is given the request's number, and serves for comparison alone.
use Rattle.gc_theorems.specs.Common.{Asked, Raw, RawCall, WINDOW, IDS, begun, course, of_settled, of_pending, ById, Settlement, Answered, Late, settle, IsReplied, KeptReply, State, IsFittingState, ByNumber, by_ids, by_numbers, ids_open, numbers_open, IsBooked, IsOneForOne, asked_line, is_of_table}
use Rattle.std.specs.Prelude.{◌≡◌, ℕ, Bool, ◌-◌, ◌<◌, ◌≤◌, List, [], ◌∷◌, ◌++◌, length, map, Option, Some, slice_get}
use Rattle.gc_theorems.specs.Simulator.{simulator_ends, simulator_handed}
use Rattle.gc_theorems.specs.World.{Ends, Numbered, World}
use Rattle.gc_theorems.specs.Field.{Move, Comes, AreMovesInField, moved, moves, seen}
use Rattle.gc_theorems.specs.Made.{WasMadeFrom}
use Rattle.gc_theorems.specs.Instrument.{IsAnInstrument, KeepsItsReply, OfAnyInstrument}
use Rattle.gc_theorems.specs.Once.{ExecutesOnce, IsInOrder}
pub use Rattle.gc_instrument.specs.Replying.{kept_of}
pub use Rattle.gc_world.specs.Worlds.{of_sent as asked}

-- the request with this number is among those that were executed
abbrev pub WasExecuted : List ℕ → ℕ → Type 0
WasExecuted executed m = (j : ℕ) × (slice_get executed j ≡ Some m)

-- moves of a client from the world `start` on, where the client knows ids; `by_number` is the same world with a client that is
-- given the number of each reply's request
module _ {State : Type 0} (width : ℕ) (ends : Ends State) (start : World (ById Asked) State) (by_number : World (ByNumber Asked) State) (ms : List (Move State)) where
  -- the world after the moves
  abbrev pub world_then : World (ById Asked) State
  world_then = moved ends (by_ids width ends) ms start

  -- `Holds` is true of each request that `IsSure` names, by its number, and of its settlement after the moves
  abbrev pub OfEachSure : (IsSure : ℕ → Type 0) → (Holds : ℕ → Settlement Asked → Type 0) → Type 0
  OfEachSure IsSure Holds = (m : ℕ) (s : Settlement Asked) → IsSure m → slice_get world_then.wire.settled m ≡ Some s → Holds m s

  -- what holds after the moves, for an instrument whose states are good ones (`Good`). `old` are the settlements at the start,
  -- and `IsSure` names the requests whose answers are their own
  pub record IsFaithfulFrom (old : List (Settlement Asked)) (IsSure : ℕ → Type 0) (Good : State → Type 0) (kept : State → Option KeptReply) : Type 0 where
    -- a new client that takes the steps of the moves settles what the world's client settled after `old`, and ends in the same
    -- state
    pub settled : world_then.wire.settled ≡ old ++ (course width begun (seen ms)).settlements
    pub stands : (course width begun (seen ms)).client ≡ world_then.client
    -- one for one: what was settled and what is outstanding are the requests that were sent, in order, each once; so settlement
    -- m has the target and the call of request m
    pub accounted : map of_settled world_then.wire.settled ++ map of_pending world_then.client.waiting ≡ map asked world_then.wire.sent
    pub one_for_one : IsOneForOne world_then.wire.sent world_then.wire.settled
    -- its own: an answer at place m is among the lines that the instrument made for request m, and is its reply to that very
    -- call
    pub booked : OfEachSure IsSure (λ m s. IsBooked ends Good world_then.wire.made m s)
    -- and the instrument executed request m at one of these moves
    pub executed : OfEachSure IsSure (λ m s. (line : List ℕ) → s.outcome ≡ Answered line → WasExecuted world_then.wire.executed m)
    -- made on it: its line was made on executing request m, by `WasMadeFrom`
    pub made_on : OfEachSure IsSure (λ m s. (line : List ℕ) → s.outcome ≡ Answered line → WasMadeFrom width ends start ms m s.call line)
    -- in order: requests are executed in the order of sending, over starts too
    pub in_order : IsInOrder world_then.wire.executed
    -- late: the instrument executed the request, though its reply came too late
    pub late : OfEachSure IsSure (λ m s. s.outcome ≡ Late → (line : List ℕ) × WasMadeFrom width ends start ms m s.call line)
    -- acts once: if the instrument keeps its reply to each request that it knows, between two of its starts each of these is
    -- executed at most once
    pub once : (knows : Asked → Bool) → KeepsItsReply ends Good kept knows → ExecutesOnce knows world_then.wire.sent world_then.wire.executed world_then.wire.starts
    -- agreement: all is as with a client that is given the number of each reply's request
    pub agrees : world_then.wire ≡ (moved ends (by_numbers width) ms by_number).wire
    -- in time: a reply whose request isn't settled settles that request, and those before it as lost. The request is answered
    -- with that line, or late if it timed out
    pub first_reply :
        (n : ℕ) (line : List ℕ) (rest : List (Numbered (List ℕ))) → world_then.wire.down ≡ record { number = n; line = line } ∷ rest → length world_then.wire.settled ≤ n →
        (moves ends (by_ids width ends) world_then (Comes line)).wire.settled ≡ world_then.wire.settled ++ settle (n - length world_then.wire.settled) line world_then.client.waiting

module _ {State : Type 0} (width : ℕ) (ends : Ends State) (state : State) (ms : List (Move State)) where
  -- the world after the moves, with the client that knows ids
  abbrev pub world_after : World (ById Asked) State
  world_after = moved ends (by_ids width ends) ms (ids_open state)

  -- what holds after the moves of a new client that hasn't synchronized: `IsFaithfulFrom`, where the answers but that of the
  -- first request are their own. The first is excepted because an instrument that kept an older reply with its id may have sent
  -- that reply again
  abbrev pub IsFaithfulUnsynchronized : (Good : State → Type 0) (kept : State → Option KeptReply) → Type 0
  IsFaithfulUnsynchronized Good kept = IsFaithfulFrom width ends (ids_open state) (numbers_open state) ms [] (λ m. 0 < m) Good kept

-- moves that are `AreMovesInField` are faithful, from a good state on, whatever reply it keeps, and for a client with a window of
-- at most `WINDOW` requests. `Good` says which states of the instrument are good, and `kept` what reply each of them keeps
abbrev pub MovesInFieldAreFaithful : {State : Type 0} → (ends : Ends State) → (Good : State → Type 0) → (kept : State → Option KeptReply) → Type 0
MovesInFieldAreFaithful {State = State} ends Good kept =
    (width : ℕ) → width ≤ WINDOW → (state : State) → Good state → (ms : List (Move State)) → AreMovesInField width ends Good kept state ms
    → IsFaithfulUnsynchronized width ends state ms Good kept

-- `MovesInFieldAreFaithful`, for any instrument, from any state on: the premise that the state is a good one, `AnyState state`,
-- holds of every state
abbrev pub AnswersAreTheirOwn : Type 0 → Type 0
AnswersAreTheirOwn State = OfAnyInstrument {State = State} (λ ends Good kept. MovesInFieldAreFaithful ends Good kept)

-- the simulator is an instrument, in any state that fits, and one that keeps its reply to each call of its table. It refuses
-- other requests, and these refusals leave the kept reply as it is
pub record SimulatorIsAnInstrument : Type 0 where
  pub instrument : IsAnInstrument simulator_ends IsFittingState kept_of
  pub keeps : KeepsItsReply simulator_ends IsFittingState kept_of is_of_table
  -- `simulator_handed` is what the simulator does with the line of a request that isn't in its table, for an id from 0 to 7
  pub refuses :
      (state : State) (id : ℕ) (raw : RawCall) → id < IDS
      → IsReplied state (asked_line (Some id) (Raw raw)) (simulator_handed state id (Raw raw)).state (Some (simulator_handed state id (Raw raw)).reply)

-- `MovesInFieldAreFaithful`, for the simulator, from any state on that fits (`IsFittingState`)
abbrev pub SimulatorsAnswersAreTheirOwn : Type 0
SimulatorsAnswersAreTheirOwn = MovesInFieldAreFaithful simulator_ends IsFittingState kept_of
