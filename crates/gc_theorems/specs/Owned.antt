-- A client over any number of synchronizations, in the field, this project's own: where each of its answers comes from. What happens to
-- the client is a list of events, those of runs one after the other (`ClientRuns`). What may be in flight when it first synchronizes is
-- anything but the word of a synchronization. No clock has a part in it.
use Rattle.gc_theorems.specs.Common.{AllByRecursion, Asked, the_word, begun, course, of_settled, ById, Settlement, Answered, Late, Lost, WINDOW, KeptReply, IsFittingState, AreInTurn, left_among, steps_among, IsReplyTo}
use Rattle.std.specs.Prelude.{◌≡◌, ◌≢◌, ℕ, ◌<◌, ◌≤◌, List, [], length, Option, Some, slice_get}
use Rattle.gc_theorems.specs.Simulator.{simulator_ends}
use Rattle.gc_theorems.specs.World.{Ends, Sent}
use Rattle.gc_theorems.specs.Begin.{IsWellFormed, LacksTheWord, UnderWay, leaves}
use Rattle.gc_theorems.specs.Beginnings.{IsOwnIfBegun, OfRunsInARow, Run, left_by_runs}
use Rattle.gc_theorems.specs.Begun.{IsSafe, WasMadeOn}
use Rattle.gc_theorems.specs.ClientRuns.{PlacedRun, ArePossibleRuns, begun_at, client_over, events_over, left_over, placed_runs, settled_over, world}
use Rattle.gc_theorems.specs.Instrument.{OfAnyInstrument}
use Rattle.gc_theorems.specs.Laws.{WasExecuted, asked, kept_of}

module _ {State : Type 0} (width : ℕ) (ends : Ends State) where
  -- the request of a settlement, over the runs `ps`: the settlement is that of request m of run k, which had synchronized; that request
  -- was sent with the settlement's target and call, and is none of the eight null procedures of the synchronization
  pub record IsOfRequest (ps : List (PlacedRun State)) (s : Settlement Asked) : Type 0 where
    pub k : ℕ
    pub placed : PlacedRun State
    pub of_runs : slice_get ps k ≡ Some placed
    pub begun : (begun_at ends placed).left ≡ []
    pub m : ℕ
    pub commands : 8 ≤ m
    pub settled : slice_get (world width ends placed).wire.settled m ≡ Some s
    pub request : Sent
    pub sent : slice_get (world width ends placed).wire.sent m ≡ Some request
    pub asks : asked request ≡ of_settled s

module _ {State : Type 0} (width : ℕ) (ends : Ends State) (Good : State → Type 0) (kept : State → Option KeptReply) where
  -- One run.

  -- request m of a run is safe (`IsSafe`): each request of the run is a call of the table; or the instrument retains its own reply, or
  -- none, after every request; or one of the seven requests before it is a call of the table that a reply ended, or the eighth null
  -- procedure
  abbrev pub IsSafeRequest : PlacedRun State → ℕ → Type 0
  IsSafeRequest p m = IsSafe width ends (leaves (begun_at ends p)) Good kept p.run.moves m

  -- each request that was sent in a run, after the null procedures of its synchronization, is safe
  abbrev pub IsSafeRun : PlacedRun State → Type 0
  IsSafeRun p = (m : ℕ) → 8 ≤ m → m < length (world width ends p).wire.sent → IsSafeRequest p m

  -- if this run has synchronized, it has done so cleanly, and its moves are faithful (`IsOwnIfBegun`)
  abbrev pub IsOwnRun : PlacedRun State → Type 0
  IsOwnRun p = IsOwnIfBegun width ends Good kept (begun_at ends p).left (begun_at ends p) p.run.moves

  -- One settlement, over the runs `ps`.

  -- the line was made for the request of the settlement `s` (`of`): that request was executed, and on executing it the instrument made
  -- this line, which is a reply to its call
  pub record IsMadeFor (ps : List (PlacedRun State)) (s : Settlement Asked) (of : IsOfRequest width ends ps s) (line : List ℕ) : Type 0 where
    pub made : (j : ℕ) × (slice_get (world width ends of.placed).wire.made j ≡ Some (record { number = of.m; line = line }))
    pub reply : IsReplyTo ends Good s.call line
    pub executed : WasExecuted (world width ends of.placed).wire.executed of.m
    -- the line was made on executing this very request, also by the moves of the run (`WasMadeOn`)
    pub made_on : WasMadeOn width ends (leaves (begun_at ends of.placed)) of.placed.run.moves of.m s.call line

  -- the instrument executed the request of the settlement `s` (`of`), and made a line on that
  pub record IsExecutedFor (ps : List (PlacedRun State)) (s : Settlement Asked) (of : IsOfRequest width ends ps s) : Type 0 where
    pub line : List ℕ
    pub made_on : WasMadeOn width ends (leaves (begun_at ends of.placed)) of.placed.run.moves of.m s.call line

  -- where the answer `line` of the settlement `s` comes from: it was made for the settlement's very request
  pub record IsItsOwn (ps : List (PlacedRun State)) (s : Settlement Asked) (line : List ℕ) : Type 0 where
    pub of : IsOfRequest width ends ps s
    pub made_for : IsMadeFor ps s of line

  -- the instrument executed the request of the settlement `s`
  pub record HasExecution (ps : List (PlacedRun State)) (s : Settlement Asked) : Type 0 where
    pub of : IsOfRequest width ends ps s
    pub executed_for : IsExecutedFor ps s of

  -- a settlement is its own: if it is an answer, its line was made for that very request; and if it is late, the instrument executed the
  -- request all the same
  pub record IsOwn (ps : List (PlacedRun State)) (s : Settlement Asked) : Type 0 where
    pub answer : (line : List ℕ) → s.outcome ≡ Answered line → IsItsOwn ps s line
    pub late : s.outcome ≡ Late → HasExecution ps s

  -- a settlement by a reply is of a request of these runs; and if that request is safe (`IsSafeRequest`), the settlement is its own
  pub record IsOwnIfSafe (ps : List (PlacedRun State)) (s : Settlement Asked) : Type 0 where
    pub of : IsOfRequest width ends ps s
    pub answer : IsSafeRequest of.placed of.m → (line : List ℕ) → s.outcome ≡ Answered line → IsMadeFor ps s of line
    pub late : IsSafeRequest of.placed of.m → s.outcome ≡ Late → IsExecutedFor ps s of

  -- the same of any settlement: one that a reply made is `IsOwnIfSafe`
  abbrev pub IsOwnUnlessLost : List (PlacedRun State) → Settlement Asked → Type 0
  IsOwnUnlessLost ps s = s.outcome ≢ Lost → IsOwnIfSafe ps s

  -- The client.

  -- what holds of a client with the events of the runs `ps`: it made these settlements, of each of which `Holds` is true; it is in the
  -- state `reached`; and of its last synchronization the ids `unanswered` aren't answered
  pub record AreOfRuns (Holds : Settlement Asked → Type 0) (ps : List (PlacedRun State)) (settlements : List (Settlement Asked)) (reached : ById Asked) (unanswered : List ℕ) : Type 0 where
    -- it settles what the world's client settles, and ends in the same state; so the lines that it writes have the same ids
    pub settled : settlements ≡ settled_over width ends ps
    pub client : reached ≡ client_over width ends ps
    -- the ids that its synchronization has unanswered are those that the last run has; so its null procedures have the same ids, too
    pub left : unanswered ≡ left_over width ends ps
    -- `Holds` is true of each settlement
    pub own : AllByRecursion Holds settlements
    -- and each run that has synchronized has done so cleanly, and is faithful
    pub each : AllByRecursion IsOwnRun ps

-- over the ends `ends` with states of which `Good` holds, which retain the reply `kept`: for a client with a window of at most `WINDOW`
-- requests, and runs whose events come in their turn (`AreInTurn`), each settlement of a request that is safe is its own, if the runs are
-- possible (`ArePossibleRuns`); whatever is in flight when the client is made, if it is well formed (`IsWellFormed`) and the word isn't
-- in it (`LacksTheWord`)
abbrev pub EachIsOwnIfSafe : {State : Type 0} → (ends : Ends State) → (Good : State → Type 0) → (kept : State → Option KeptReply) → Type 0
EachIsOwnIfSafe {State = State} ends Good kept =
    (width : ℕ) → width ≤ WINDOW → (u : UnderWay State) → IsWellFormed Good u → LacksTheWord u →
    (rs : List (Run State)) → ArePossibleRuns width ends Good kept u rs → AreInTurn the_word (events_over width ends u rs) →
    let ps = placed_runs width ends u rs in let x = course width begun (steps_among (events_over width ends u rs)) in
    AreOfRuns width ends Good kept (IsOwnUnlessLost width ends Good kept ps) ps x.settlements x.client (left_among the_word (events_over width ends u rs))

-- `EachIsOwnIfSafe`, for any instrument, in any state
abbrev pub ClientsAnswersAreTheirOwn : Type 0 → Type 0
ClientsAnswersAreTheirOwn State = OfAnyInstrument {State = State} (λ ends Good kept. EachIsOwnIfSafe ends Good kept)

-- `EachIsOwnIfSafe`, for the simulator, in any state that fits
abbrev pub SimulatorsClientsAnswersAreTheirOwn : Type 0
SimulatorsClientsAnswersAreTheirOwn = EachIsOwnIfSafe simulator_ends IsFittingState kept_of

-- after runs in a row (`OfRunsInARow`) the next one may begin: the word isn't in flight
abbrev pub NextMayBegin : {State : Type 0} → (ends : Ends State) → (Good : State → Type 0) → (kept : State → Option KeptReply) → Type 0
NextMayBegin ends Good kept = OfRunsInARow ends Good kept (λ width u rs. LacksTheWord (left_by_runs width ends u rs))

-- `NextMayBegin`, for any instrument, in any state
abbrev pub FewKilledMayBegin : Type 0 → Type 0
FewKilledMayBegin State = OfAnyInstrument {State = State} (λ ends Good kept. NextMayBegin ends Good kept)
