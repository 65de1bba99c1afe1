-- One run after the other over a line that outlives them, this project's own: each begins by its null procedures, then sends
-- commands, and is killed at any moment, also while it synchronizes; and one may resynchronize within itself. Nothing here
-- depends on a clock. The word of a synchronization has the ids of its null procedures, 6 5 4 3 2 1 0 7; what is left of it are
-- those that aren't answered.
use Rattle.gc_theorems.specs.Common.{AllByRecursion, WINDOW, KeptReply, IsFittingState, Rising}
use Rattle.std.specs.Prelude.{◌≡◌, ℕ, ◌+◌, ◌%◌, ◌<◌, ◌≤◌, if◌then◌else◌, List, [], ◌∷◌, map, nat_eq, Option}
use Rattle.gc_theorems.specs.Simulator.{simulator_ends}
use Rattle.gc_theorems.specs.World.{Ends, Wire}
use Rattle.gc_theorems.specs.Begin.{IsWellFormed, LacksTheWord, AreTurns, SyncModel, SyncTurn, UnderWay, begins, ids_under_way, leaves, turned}
use Rattle.gc_theorems.specs.Begun.{HasSynchronizedCleanly, IsFaithful, OfMovesOnceBegun, world_once_begun, ArePossibleOnceBegun}
use Rattle.gc_theorems.specs.Field.{Move}
use Rattle.gc_theorems.specs.Instrument.{OfAnyInstrument}
use Rattle.gc_theorems.specs.Laws.{kept_of}

-- what is in flight on a wire
abbrev pub under_way_on : {State : Type 0} → Wire State → UnderWay State
under_way_on w = record { up = map (λ x. x.line) w.up; down = map (λ x. x.line) w.down; state = w.state }

-- what a run that has synchronized may have in flight, if anything: replies and then requests whose numbers never fall from one
-- to the next, and lie within eight consecutive numbers, from `low` - 1 on; and the ids are the numbers modulo 8
pub record HasRisingIds {State : Type 0} (u : UnderWay State) : Type 0 where
  pub low : ℕ
  pub numbers : List ℕ
  pub some : 0 < low
  pub rising : Rising low numbers
  pub few : AllByRecursion (λ n. n < low + WINDOW) numbers
  pub ids : ids_under_way u ≡ map (λ n. n % 8) numbers

-- where `HasRisingIds` holds of what is in flight, the word isn't in flight
abbrev pub RisingIdsLackTheWord : Type 0 → Type 0
RisingIdsLackTheWord State = (u : UnderWay State) → HasRisingIds u → LacksTheWord u

-- for any instrument: once a run has synchronized cleanly, `HasRisingIds` holds of what is in flight after any possible moves
-- (`OfMovesOnceBegun`)
abbrev pub RunsLeaveRisingIds : Type 0 → Type 0
RunsLeaveRisingIds State = OfAnyInstrument {State = State} (λ ends Good kept.
    OfMovesOnceBegun ends Good kept (λ width u ms. HasRisingIds (under_way_on (world_once_begun width ends u ms).wire)))

-- Runs.

-- a run: what happens while it synchronizes, and once it has synchronized. A run that resynchronizes within itself is two
pub record Run (State : Type 0) : Type 0 where
  pub turns : List (SyncTurn State)
  pub moves : List (Move State)

-- the state of a run's synchronization at the end of its turns: the run has synchronized then, or is killed
abbrev pub after_turns : {State : Type 0} → Ends State → UnderWay State → Run State → SyncModel State
after_turns ends u r = turned ends r.turns (begins u)

-- how many runs in a row count as killed while they synchronized, at the end of a run that leaves these ids of its word
-- unanswered, where `n` did before it: 0 if none is left, because the run has synchronized; still `n` if the first one left is
-- 6, the word's first, because then none was answered, and the run sent nothing but that null procedure; else one more
abbrev pub killed_unless_begun : List ℕ → ℕ → ℕ
killed_unless_begun [] n = 0
killed_unless_begun (asked ∷ rest) n = if nat_eq asked 6 then n else n + 1

-- how many runs in a row count as killed while they synchronized, at the end of the run r, where `n` did before it, and `u` is in
-- flight when it begins
abbrev pub killed_by : {State : Type 0} → Ends State → ℕ → UnderWay State → Run State → ℕ
killed_by ends n u r = killed_unless_begun (after_turns ends u r).left n

module _ {State : Type 0} (width : ℕ) (ends : Ends State) where
  -- what is in flight after a run that leaves these ids of its word unanswered, where its synchronization ended in the state `s`:
  -- if none is left, the run had synchronized, and its moves followed; else it was killed while it synchronized
  abbrev pub left_if_begun : List ℕ → SyncModel State → List (Move State) → UnderWay State
  left_if_begun [] s ms = under_way_on (world_once_begun width ends (leaves s) ms).wire
  left_if_begun (asked ∷ rest) s ms = leaves s

  -- what is in flight after a run
  abbrev pub left_by_run : UnderWay State → Run State → UnderWay State
  left_by_run u r = left_if_begun (after_turns ends u r).left (after_turns ends u r) r.moves

  -- what is in flight after these runs, one after the other
  abbrev pub left_by_runs : UnderWay State → List (Run State) → UnderWay State
  left_by_runs u [] = u
  left_by_runs u (r ∷ rs) = left_by_runs (left_by_run u r) rs

  -- how many runs in a row count as killed while they synchronized (`killed_by`), at the end of these, where `n` did before
  abbrev pub killed_over : ℕ → UnderWay State → List (Run State) → ℕ
  killed_over n u [] = n
  killed_over n u (r ∷ rs) = killed_over (killed_by ends n u r) (left_by_run u r) rs

  -- at the end of each of these runs, at most five in a row count as killed while they synchronized, counted with the `n` before
  -- the first. A run during which none of its null procedures was answered leaves the count as it was (`killed_unless_begun`)
  abbrev pub AreFewKilled : ℕ → UnderWay State → List (Run State) → Type 0
  AreFewKilled n u [] = Unit {0}
  AreFewKilled n u (r ∷ rs) = (killed_by ends n u r ≤ 5) × AreFewKilled (killed_by ends n u r) (left_by_run u r) rs

  module _ (Good : State → Type 0) (kept : State → Option KeptReply) where
    -- the moves of a run that leaves these ids of its word unanswered are possible: if none is left, they are possible moves of a
    -- client that has synchronized; else there are no moves
    abbrev pub ArePossibleIfBegun : List ℕ → SyncModel State → List (Move State) → Type 0
    ArePossibleIfBegun [] s ms = ArePossibleOnceBegun width ends (leaves s) Good kept ms
    ArePossibleIfBegun (asked ∷ rest) s ms = ms ≡ []

    -- each run is possible, over what the one before it left
    abbrev pub AreRuns : UnderWay State → List (Run State) → Type 0
    AreRuns u [] = Unit {0}
    AreRuns u (r ∷ rs) =
        (AreTurns ends Good kept r.turns (begins u) × ArePossibleIfBegun (after_turns ends u r).left (after_turns ends u r) r.moves) × AreRuns (left_by_run u r) rs

    -- if a run has synchronized (it leaves no id of its word unanswered), it has done so cleanly, and its moves are faithful
    abbrev pub IsOwnIfBegun : List ℕ → SyncModel State → List (Move State) → Type 0
    IsOwnIfBegun [] s ms = HasSynchronizedCleanly Good kept s × IsFaithful width ends (leaves s) ms Good kept
    IsOwnIfBegun (asked ∷ rest) s ms = Unit {0}

    -- each run that has synchronized has synchronized cleanly, and is faithful, over what the one before it left
    abbrev pub AreOwn : UnderWay State → List (Run State) → Type 0
    AreOwn u [] = Unit {0}
    AreOwn u (r ∷ rs) = IsOwnIfBegun (after_turns ends u r).left (after_turns ends u r) r.moves × AreOwn (left_by_run u r) rs

-- `Holds` is true of any possible runs one after the other, as long as fewer than six in a row end while they synchronize
-- (`AreFewKilled`), for clients with a window of at most `WINDOW` requests. What is in flight before the first is as a run that
-- had synchronized leaves it, or nothing (`HasRisingIds`, `IsWellFormed`). `Good` says which states of the instrument are good,
-- and `kept` what reply each of them keeps
abbrev pub OfRunsInARow : {State : Type 0} → (ends : Ends State) → (Good : State → Type 0) → (kept : State → Option KeptReply)
    → (Holds : (width : ℕ) → UnderWay State → List (Run State) → Type 0) → Type 0
OfRunsInARow {State = State} ends Good kept Holds =
    (width : ℕ) → width ≤ WINDOW → (u : UnderWay State) → IsWellFormed Good u → HasRisingIds u →
    (rs : List (Run State)) → AreRuns width ends Good kept u rs → AreFewKilled width ends 0 u rs → Holds width u rs

-- of runs in a row (`OfRunsInARow`), each that has synchronized has done so cleanly, and `IsFaithful` holds of its moves: each of
-- its answers to a request that is `IsSafe` is its own
abbrev pub RunsInARowAreOwn : {State : Type 0} → (ends : Ends State) → (Good : State → Type 0) → (kept : State → Option KeptReply) → Type 0
RunsInARowAreOwn ends Good kept = OfRunsInARow ends Good kept (λ width u rs. AreOwn width ends Good kept u rs)

-- `RunsInARowAreOwn`, for any instrument, in any state
abbrev pub RunsAreTheirOwn : Type 0 → Type 0
RunsAreTheirOwn State = OfAnyInstrument {State = State} (λ ends Good kept. RunsInARowAreOwn ends Good kept)

-- `RunsInARowAreOwn`, for the simulator, in any state that fits
abbrev pub SimulatorsRunsAreTheirOwn : Type 0
SimulatorsRunsAreTheirOwn = RunsInARowAreOwn simulator_ends IsFittingState kept_of
