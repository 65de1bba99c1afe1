-- A session in the field, this project's own: any calls on it, the line over all of its connections, and an instrument. Each answer to a
-- request of its caller's was made on executing that very request.
use Rattle.gc_theorems.specs.Common.{Asked, Settlement, WINDOW, KeptReply, IsFittingState, Settings, OWN, Call, after_all, events_all, settled_all}
use Rattle.std.specs.Prelude.{◌≡◌, ◌≢◌, ℕ, List, [], ◌∷◌, Option}
use Rattle.gc_session.specs.Prelude.{opening}
use Rattle.gc_theorems.specs.Simulator.{simulator_ends}
use Rattle.gc_theorems.specs.World.{Ends}
use Rattle.gc_theorems.specs.Begin.{IsWellFormed, LacksTheWord, UnderWay}
use Rattle.gc_theorems.specs.Beginnings.{AreFewKilled, HasRisingIds, Run, killed_over, left_by_runs}
use Rattle.gc_theorems.specs.ClientRuns.{PlacedRun, ArePossibleRuns, events_over, placed_runs}
use Rattle.gc_theorems.specs.Instrument.{OfAnyInstrument}
use Rattle.gc_theorems.specs.Laws.{kept_of}
use Rattle.gc_theorems.specs.Owned.{AreOfRuns, IsOwn}

-- a session as a program: what was chosen, the calls of its caller, and what happens on the line in each run, from one synchronization
-- to the next (`runs`)
pub record SessionRun (State : Type 0) : Type 0 where
  pub settings : Settings
  pub calls : List Call
  pub runs : List (Run State)

module _ {State : Type 0} (ends : Ends State) (Good : State → Type 0) (kept : State → Option KeptReply) where
  -- a settlement of a request of the caller's is its own; `OWN` is the target of the null procedures that a session sends by itself
  abbrev pub IsOwnIfCallers : List (PlacedRun State) → Settlement Asked → Type 0
  IsOwnIfCallers ps s = s.target ≢ OWN → IsOwn WINDOW ends Good kept ps s

  -- what happens on the line is possible, from what is in flight at first (`u`) on; and its events are those of the calls on the session
  pub record IsSessionOver (u : UnderWay State) (x : SessionRun State) : Type 0 where
    pub events : events_all x.calls (opening x.settings) ≡ events_over WINDOW ends u x.runs
    pub possible : ArePossibleRuns WINDOW ends Good kept u x.runs

  -- what holds of a session over its runs: it settles what the world's client settles, and is in the same state; each settlement of a
  -- request of its caller's is its own; and each run that has synchronized has done so cleanly, and is faithful
  abbrev pub IsSessionOwn : UnderWay State → SessionRun State → Type 0
  IsSessionOwn u x =
      let ps = placed_runs WINDOW ends u x.runs in let end = after_all x.calls (opening x.settings) in
      AreOfRuns WINDOW ends Good kept (IsOwnIfCallers ps) ps (settled_all x.calls (opening x.settings)) end.client end.standing.exchange.word

  -- each of these sessions is one over its line (`IsSessionOver`), over what the one before it left. At most five runs in a row count as
  -- killed while they synchronized, counted with the `n` before the first (`AreFewKilled`); one during which none of its null procedures
  -- was answered doesn't count
  abbrev pub AreSessionsInARow : ℕ → UnderWay State → List (SessionRun State) → Type 0
  AreSessionsInARow n u [] = Unit {0}
  AreSessionsInARow n u (x ∷ xs) =
      (IsSessionOver u x × AreFewKilled WINDOW ends n u x.runs) × AreSessionsInARow (killed_over WINDOW ends n u x.runs) (left_by_runs WINDOW ends u x.runs) xs

  -- each of these sessions is as `IsSessionOwn` says, over what the one before it left
  abbrev pub AreSessionsOwn : UnderWay State → List (SessionRun State) → Type 0
  AreSessionsOwn u [] = Unit {0}
  AreSessionsOwn u (x ∷ xs) = IsSessionOwn u x × AreSessionsOwn (left_by_runs WINDOW ends u x.runs) xs

-- over the ends `ends` with states of which `Good` holds, which retain the reply `kept`: any calls on a session, whatever is in flight at
-- first, if it is well formed (`IsWellFormed`) and the word isn't in it (`LacksTheWord`)
abbrev pub EachSessionIsOwn : {State : Type 0} → (ends : Ends State) → (Good : State → Type 0) → (kept : State → Option KeptReply) → Type 0
EachSessionIsOwn {State = State} ends Good kept =
    (u : UnderWay State) → IsWellFormed Good u → LacksTheWord u → (x : SessionRun State) → IsSessionOver ends Good kept u x → IsSessionOwn ends Good kept u x

-- `EachSessionIsOwn`, for any instrument, in any state
abbrev pub SessionsAnswersAreTheirOwn : Type 0 → Type 0
SessionsAnswersAreTheirOwn State = OfAnyInstrument {State = State} (λ ends Good kept. EachSessionIsOwn ends Good kept)

-- `EachSessionIsOwn`, for the simulator, in any state that fits
abbrev pub SimulatorsSessionsAnswersAreTheirOwn : Type 0
SimulatorsSessionsAnswersAreTheirOwn = EachSessionIsOwn simulator_ends IsFittingState kept_of

-- sessions one after the other, each ended at any time. Before the first nothing is in flight, or what a run that had synchronized may
-- leave (`HasRisingIds`, `IsWellFormed`). As long as fewer than six runs in a row end while they synchronize, each session is as
-- `IsSessionOwn` says
abbrev pub EachInARowIsOwn : {State : Type 0} → (ends : Ends State) → (Good : State → Type 0) → (kept : State → Option KeptReply) → Type 0
EachInARowIsOwn {State = State} ends Good kept =
    (u : UnderWay State) → IsWellFormed Good u → HasRisingIds u → (xs : List (SessionRun State)) → AreSessionsInARow ends Good kept 0 u xs → AreSessionsOwn ends Good kept u xs

-- `EachInARowIsOwn`, for any instrument, in any state
abbrev pub SessionsInARowAreTheirOwn : Type 0 → Type 0
SessionsInARowAreTheirOwn State = OfAnyInstrument {State = State} (λ ends Good kept. EachInARowIsOwn ends Good kept)

-- `EachInARowIsOwn`, for the simulator, in any state that fits
abbrev pub SimulatorsSessionsInARowAreTheirOwn : Type 0
SimulatorsSessionsInARowAreTheirOwn = EachInARowIsOwn simulator_ends IsFittingState kept_of
