-- What holds once a station has synchronized, this project's own: nothing from before is in flight; and each answer of the
-- client that sends then is its own, from its first request on. The word of a synchronization has the ids of its null
-- procedures: 6 5 4 3 2 1 0 7.
use Rattle.gc_theorems.specs.Common.{AllByRecursion, Asked, Table, NullProc, asked_line, is_of_table, the_word, ById, Outcome, Settlement, Answered, Late, Lost, fresh, heard, WINDOW, KeptReply, IsFittingState, ByNumber, by_ids}
use Rattle.std.specs.Prelude.{◌≡◌, ℕ, ◌+◌, ◌<◌, ◌≤◌, ◌⊎◌, true, false, List, [], ◌∷◌, ◌++◌, length, map, Option, Some, slice_get}
use Rattle.gc_client.specs.declared.pending.Pending.{Pending}
use Rattle.gc_theorems.specs.Simulator.{simulator_ends}
use Rattle.gc_theorems.specs.World.{Ends, Numbered, Request, Sent, Wire, World}
use Rattle.gc_theorems.specs.Begin.{InFlight, IsWellFormed, LacksTheWord, AreTurns, SyncModel, SyncTurn, UnderWay, begins, leaves, none_under_way, turned}
use Rattle.gc_theorems.specs.Field.{Move, Sends, ArePossible, AsksTheTable, moved}
use Rattle.gc_theorems.specs.Instrument.{OfAnyInstrument, TreatsRawsAlike}
use Rattle.gc_theorems.specs.Laws.{IsFaithfulFrom, kept_of}
use Rattle.gc_theorems.specs.Made.{WasMadeFrom}

-- Clean.

-- the eighth null procedure of a synchronization, as a request
abbrev pub eighth_null : Request
eighth_null = record { id = 7; call = Table NullProc }

-- what a synchronization leaves once it has synchronized cleanly: the instrument in a good state, copies of the eighth null
-- procedure, replies with its id (7), and a kept reply with that id, or none
pub record IsClean {State : Type 0} (Good : State → Type 0) (kept : State → Option KeptReply) (u : UnderWay State) : Type 0 where
  pub good : Good u.state
  pub up : AllByRecursion (λ x. x ≡ eighth_null) u.up
  pub down : AllByRecursion (λ line. heard line ≡ Some 7) u.down
  pub keeps : (k : KeptReply) → kept u.state ≡ Some k → k.id ≡ 7

-- none of these requests or replies in flight is from before the synchronization
abbrev pub NoneIsOld : {Line : Type 0} → List (InFlight Line) → Type 0
NoneIsOld xs = AllByRecursion (λ x. x.old ≡ false) xs

-- the synchronization that led to `s` was clean: no request from before it is in flight, nor a reply to one, and what it leaves
-- is `IsClean`
pub record HasSynchronizedCleanly {State : Type 0} (Good : State → Type 0) (kept : State → Option KeptReply) (s : SyncModel State) : Type 0 where
  pub up : NoneIsOld s.up
  pub down : NoneIsOld s.down
  pub clean : IsClean Good kept (leaves s)

-- for any instrument: unless the word is in flight when a synchronization begins (`LacksTheWord`), whatever is in flight then and
-- well formed (`IsWellFormed`), and whatever happens that is possible (`AreTurns`), once it has synchronized, it has synchronized
-- cleanly
abbrev pub BeginsCleanly : Type 0 → Type 0
BeginsCleanly State = OfAnyInstrument {State = State} (λ ends Good kept.
    (u : UnderWay State) (ts : List (SyncTurn State)) → IsWellFormed Good u → AreTurns ends Good kept ts (begins u) →
    LacksTheWord u → (turned ends ts (begins u)).left ≡ [] → HasSynchronizedCleanly Good kept (turned ends ts (begins u)))

-- The client after a synchronization.

-- the null procedures of a synchronization, as requests: none of them is the client's
abbrev pub nulls : List Sent
nulls = map (λ id. record { target = 0; call = Table NullProc; line = asked_line (Some id) (Table NullProc) }) the_word

-- the null procedures of a synchronization, as settlements. They stand as lost, though each was answered
abbrev pub nulls_settled : List (Settlement Asked)
nulls_settled = map (λ id. record { target = 0; call = Table NullProc; outcome = Lost }) the_word

-- these lines, each with the number of the eighth null procedure, 7
abbrev pub of_eighth : {Line : Type 0} → List Line → List (Numbered Line)
of_eighth xs = map (λ x. record { number = 7; line = x }) xs

-- the wire at the end of a synchronization: requests 0 to 7 are the null procedures, which are settled, and a new client sends
-- from request 8 on; what is in flight belongs to the eighth of them
abbrev pub begun_wire : {State : Type 0} → UnderWay State → Wire State
begun_wire u =
    record {
      sent = nulls;
      executed = [];
      made = [];
      settled = nulls_settled;
      starts = [];
      up = of_eighth u.up;
      down = of_eighth u.down;
      state = u.state;
      refused = 0;
      idle = 0;
    }

-- the world at the end of a synchronization, with a new client that knows ids
abbrev pub ids_begun : {State : Type 0} → UnderWay State → World (ById Asked) State
ids_begun u = record { wire = begun_wire u; client = fresh }

-- the null procedures of a synchronization, as requests of the client that is given the number of each reply's request
abbrev pub nulls_pending : List (Pending Asked)
nulls_pending = map (λ id. record { target = 0; call = Table NullProc; deadline = 0; given_up = false }) the_word

-- the world at the end of a synchronization, with the client that is given the number of each reply's request
abbrev pub numbers_begun : {State : Type 0} → UnderWay State → World (ByNumber Asked) State
numbers_begun u = record { wire = begun_wire u; client = record { count = 8; requests = nulls_pending; since = 0 } }

-- After the table.

-- a reply ended the request, in time or late
abbrev pub IsByReply : Outcome → Type 0
IsByReply (Answered line) = Unit {0}
IsByReply Late = Unit {0}
IsByReply Lost = ⊥

-- request j is a call of the table that a reply ended, or it is the eighth null procedure of the synchronization
abbrev pub IsEnded : {State : Type 0} → Wire State → ℕ → Type 0
IsEnded w j =
    (j ≡ 7)
    ⊎ ((r : Sent) × (s : Settlement Asked) × (slice_get w.sent j ≡ Some r) × (is_of_table r.call ≡ true) × (slice_get w.settled j ≡ Some s) × IsByReply s.outcome)

-- the request that is sent next is sent after the table: one of the seven requests before it is a call of the table that a
-- reply ended, or the eighth null procedure of the synchronization
abbrev pub IsBehindTheTable : {State : Type 0} → Wire State → Type 0
IsBehindTheTable w = (j : ℕ) × (j < length w.sent) × (length w.sent ≤ j + 7) × IsEnded w j

module _ {State : Type 0} (width : ℕ) (ends : Ends State) (u : UnderWay State) where
  -- the world after these moves, which begin after the synchronization, with the client that knows ids
  abbrev pub world_once_begun : List (Move State) → World (ById Asked) State
  world_once_begun ms = moved ends (by_ids width ends) ms (ids_begun u)

  -- these moves are possible after the synchronization, in the order in which they stand
  abbrev pub ArePossibleOnceBegun : (State → Type 0) → (State → Option KeptReply) → List (Move State) → Type 0
  ArePossibleOnceBegun Good kept ms = ArePossible ends Good kept (by_ids width ends) ms (ids_begun u)

  -- at one of these moves, after the synchronization, request m, with this call, reaches the instrument, which executes the call;
  -- and this line is the instrument's reply
  abbrev pub WasMadeOn : List (Move State) → ℕ → Asked → List ℕ → Type 0
  WasMadeOn ms m call line = WasMadeFrom width ends (ids_begun u) ms m call line

  -- among these moves is a send before which m requests were sent, the null procedures of the synchronization counted, and at
  -- which the next request, number m, is sent after the table (`IsBehindTheTable`). The client may refuse that send; request m is
  -- then sent later, if at all
  pub record WentOutBehindTheTable (ms : List (Move State)) (m : ℕ) : Type 0 where
    pub front : List (Move State)
    pub later : List (Move State)
    pub target : ℕ
    pub call : Asked
    pub deadline : ℕ
    pub split : ms ≡ front ++ Sends target call deadline ∷ later
    pub number : length (world_once_begun front).wire.sent ≡ m
    pub behind_table : IsBehindTheTable (world_once_begun front).wire

  -- one of the three conditions holds under which the answer to request m is its own: each request of these moves is a call of
  -- the table; or the instrument keeps its own reply, or none, after every request (`TreatsRawsAlike`); or request m was sent
  -- after the table
  abbrev pub IsSafe : (State → Type 0) → (State → Option KeptReply) → List (Move State) → ℕ → Type 0
  IsSafe Good kept ms m = AsksTheTable ms ⊎ (TreatsRawsAlike ends Good kept ⊎ WentOutBehindTheTable ms m)

  -- what holds after these moves of a client that has synchronized: `IsFaithfulFrom`, where each answer from the client's first
  -- request on (number 8) is its own, if the request is `IsSafe`. Settlement 8 + n is the client's settlement n
  abbrev pub IsFaithful : List (Move State) → (Good : State → Type 0) (kept : State → Option KeptReply) → Type 0
  IsFaithful ms Good kept = IsFaithfulFrom width ends (ids_begun u) (numbers_begun u) ms nulls_settled (λ m. (8 ≤ m) × IsSafe Good kept ms m) Good kept

-- the wire after these moves of a client that has synchronized with an instrument in this state, with nothing in flight then
abbrev pub wire_over_empty_line : {State : Type 0} → Ends State → State → List (Move State) → Wire State
wire_over_empty_line ends state ms = (world_once_begun WINDOW ends (none_under_way state) ms).wire

-- `Holds` is true of any possible moves after a clean synchronization (`IsClean`), for a client with a window of at most `WINDOW`
-- requests. `Good` says which states of the instrument are good, and `kept` what reply each of them keeps
abbrev pub OfMovesOnceBegun : {State : Type 0} → (ends : Ends State) → (Good : State → Type 0) → (kept : State → Option KeptReply)
    → (Holds : (width : ℕ) → UnderWay State → List (Move State) → Type 0) → Type 0
OfMovesOnceBegun {State = State} ends Good kept Holds =
    (width : ℕ) → width ≤ WINDOW → (u : UnderWay State) → IsClean Good kept u →
    (ms : List (Move State)) → ArePossibleOnceBegun width ends u Good kept ms → Holds width u ms

-- possible moves after a clean synchronization are faithful (`OfMovesOnceBegun`), whenever the client sends; no request has to be
-- sent alone
abbrev pub MovesOnceBegunAreFaithful : {State : Type 0} → (ends : Ends State) → (Good : State → Type 0) → (kept : State → Option KeptReply) → Type 0
MovesOnceBegunAreFaithful ends Good kept = OfMovesOnceBegun ends Good kept (λ width u ms. IsFaithful width ends u ms Good kept)

-- `MovesOnceBegunAreFaithful`, for any instrument, in any state
abbrev pub AnswersAreTheirOwnOnceBegun : Type 0 → Type 0
AnswersAreTheirOwnOnceBegun State = OfAnyInstrument {State = State} (λ ends Good kept. MovesOnceBegunAreFaithful ends Good kept)

-- `MovesOnceBegunAreFaithful`, for the simulator, in any state that fits
abbrev pub SimulatorsAnswersAreTheirOwnOnceBegun : Type 0
SimulatorsAnswersAreTheirOwnOnceBegun = MovesOnceBegunAreFaithful simulator_ends IsFittingState kept_of
