-- Where the telescope pointed when a command of a chain was executed, of the simulated instrument: this project's own. A part
-- is what a station sees of its run from one synchronization to the next, and a stretch what happens on the line meanwhile,
-- once it has synchronized.
use Rattle.gc_theorems.specs.Common.{AllByRecursion, Decimal, Asked, Table, Raw, Position, ChangeFace, FineAdjust, exec, without_kept, State, IsFittingState, Task, Record}
use Rattle.std.specs.Prelude.{◌≡◌, ℕ, ◌<◌, Bool, true, false, List, Some, slice_get}
use Rattle.gc_theorems.specs.Simulator.{simulator_ends}
use Rattle.gc_theorems.specs.Begin.{UnderWay}
use Rattle.gc_theorems.specs.Chains.{HasEffect, IsChainedTo, IsUndisturbed, OfEachBeforeInChain, stretch_wire}
use Rattle.gc_theorems.specs.Laws.{kept_of}
use Rattle.gc_theorems.specs.Runs.{IsInField, Program, program_records}

-- the simulator's state once it has executed a request: a procedure that isn't in the table changes nothing
abbrev pub state_after_call : State → Asked → State
state_after_call s (Table call) = (exec s call).state
state_after_call s (Raw raw) = s

-- whether a request may turn the simulator's telescope
abbrev pub turns_telescope : Asked → Bool
turns_telescope (Table (Position hz v pos_mode atr_mode dummy)) = true
turns_telescope (Table (ChangeFace pos_mode atr_mode dummy)) = true
turns_telescope (Table (FineAdjust area_hz area_v dummy)) = true
turns_telescope _ = false

-- no command of the places between a and b turns the telescope
abbrev pub AreStill : List Task → (a b : ℕ) → Type 0
AreStill commands a b = (p : ℕ) (task : Task) → a < p → p < b → slice_get commands p ≡ Some task → turns_telescope task.command.call ≡ false

-- in two states of an instrument the telescope points in the same direction, in the same face
pub record PointsAs (s t : State) : Type 0 where
  pub pointing : s.pointing ≡ t.pointing
  pub face : s.face ≡ t.face

-- when a command was executed, in the state `now`, the telescope pointed where executing an earlier command (`call`) in the state
-- `before` had left it; and if the earlier one was a positioning, in the direction that it commanded, in the face in which the
-- telescope was before
pub record PointsAsLeft (call : Asked) (before now : State) : Type 0 where
  pub as_left : PointsAs now (state_after_call before call)
  pub as_commanded :
      (hz v : Decimal) (pos_mode atr_mode dummy : _) → call ≡ Table (Position hz v pos_mode atr_mode dummy)
      → (now.pointing ≡ record { hz = hz; v = v }) × (now.face ≡ before.face)

-- if a reply in time ended the command of record b, it was executed after each command before it in its chain (`h`, for the one
-- at place a). If no command of the places between turns the telescope, and the instrument neither started again nor changed by
-- itself between the two executions, it was executed with the telescope as the earlier one had left it (`PointsAsLeft`)
abbrev pub IsPointedInChain : UnderWay State → Program State → Record → Type 0
IsPointedInChain u x b =
    OfEachBeforeInChain x b (λ line a.
    (h : IsChainedTo simulator_ends IsFittingState kept_of u x a b line)
    × (AreStill x.commands a b.place → IsUndisturbed h.executed.between
    → PointsAsLeft h.earlier.answer.command.call (stretch_wire simulator_ends h.stretch h.executed.first.front).state
    (stretch_wire simulator_ends h.stretch h.executed.second.front).state))

-- each record is `IsPointedInChain`: for every plan, all commands, every run of the station in the field (`IsInField`) over the
-- simulator, and all that the line and the simulator may do meanwhile
abbrev pub ChainsAreMeasuredWhereTheyPointed : Type 0
ChainsAreMeasuredWhereTheyPointed =
    (u : UnderWay State) (x : Program State) → IsInField simulator_ends IsFittingState kept_of u x → AllByRecursion (IsPointedInChain u x) (program_records x)

-- executing a call of the table makes of the simulator's state what the execution table says, apart from the reply that is
-- kept; another request changes nothing
abbrev pub SimulatorHasItsEffect : Type 0
SimulatorHasItsEffect = HasEffect simulator_ends without_kept state_after_call
