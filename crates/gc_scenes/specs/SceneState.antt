-- The state of the instrument of a scene: this project's own.
use Rattle.gc_scenes.specs.Common.{State, restarted, Target}
use Rattle.std.specs.Prelude.{ℕ, Bool, List, Option}
use Rattle.gc_scenes.specs.declared.rules.Prism.{Prism}
use Rattle.gc_scenes.specs.declared.rules.Fault.{Fault}
use Rattle.gc_scenes.specs.declared.rules.Scripted.{Scripted}
use Rattle.gc_scenes.specs.declared.rules.Noise.{Noise}
use Rattle.gc_scenes.specs.declared.clock.Clock.{Clock}
use Rattle.gc_scenes.specs.declared.ways.Ways.{Ways}

-- the state of the execution table with these targets
abbrev pub seeing : List Target → State → State
seeing targets s = record s { scene = targets }

-- the state of a scene's instrument
pub record SceneState : Type 0 where
  -- the state of the execution table; its targets aren't used, but `prisms` in their place
  pub base : State
  -- the targets
  pub prisms : List Prism
  -- the faults, each with the count of the requests of its procedure
  pub faults : List Fault
  -- the replies to procedures that aren't in the table
  pub answers : List Scripted
  pub noise : Option Noise
  -- how many measurements and searches there were, up to the greatest number of 32 bits
  pub looks : ℕ
  -- whether the last reply to a request with an id is stored, for a repeat
  pub repeats : Bool
  pub ways : Ways
  -- the clock that runs; none until the date is set, or if the instrument has no such clock
  pub clock : Option Clock
  -- the moment of the next request, in milliseconds of the program's clock
  pub moment : ℕ

-- the state after a restart: that of the execution table restarts (`restarted`). The scene goes on: its counts, its targets and
-- its noise stay, and a clock that runs goes on
abbrev pub scene_restarted : SceneState → SceneState
scene_restarted s = record s { base = restarted s.base }

-- the state with this moment of the next request
abbrev pub at_moment : (moment : ℕ) → SceneState → SceneState
at_moment moment s = record s { moment = moment }
