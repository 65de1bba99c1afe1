-- What sets an instrument up and what restarts it: this project's own.
use Rattle.std.specs.Prelude.{◌≡◌, ℕ, List, [], Option, Some, None}
use Rattle.gc_lines.specs.Prelude.{StandsFor}
use Rattle.gc_filters.specs.Prelude.{IsLineOf, IsTimedScene, SceneFault}
use Rattle.gc_scenes.specs.Prelude.{slow_restarted}
use Rattle.gc_texts.specs.Prelude.{run_fault_number}
use Rattle.gc_texts.specs.declared.fault.RunFault.{RunFault}
use Rattle.gc_texts.specs.declared.fault.RunFault.TheVariants.{Schedule}
use Rattle.geocom_instrument_c.specs.Bench.{BenchState, CallsBench}
use Rattle.geocom_instrument_c.specs.declared.header.TheConstants.{NO_INSTRUMENT}
use Rattle.geocom_instrument_c.specs.declared.replied.GeocomMade.{GeocomMade}
use Rattle.gc_filters.specs.declared.scene_line.SceneKind.TheVariants as kind

-- the instrument is restarted, and no byte of a line is left
pub record IsBenchRestarted (before after : BenchState) : Type 0 where
  pub slow : after.slow ≡ slow_restarted before.slow
  pub start : StandsFor after.incomplete []

-- a restart where there may be no instrument: without one the fault is that there is none, and nothing has changed; with one the
-- fault is 0, and it is restarted (`IsBenchRestarted`)
abbrev pub IsRestarted : (before after : Option BenchState) → (fault : ℕ) → Type 0
IsRestarted before after fault = CallsBench before after (fault ≡ NO_INSTRUMENT) (λ from to. IsBenchRestarted from to × (fault ≡ 0))

-- the number of the scene's line that a fault names; 0 if it names none
abbrev pub faulty_line : RunFault → ℕ
faulty_line (Schedule line) = line
faulty_line other = 0

-- the scene of this text was set up: the fault and the line are 0, and the instrument is in its opening state, at the start of a
-- stream. Or the scene was refused, for a fault of its text or because memory was refused (`SceneFault`), the result has the
-- number of that fault and the line that it names, and there is no instrument
pub record IsSetUp (text : List ℕ) (after : Option BenchState) (r : GeocomMade) : Type 0 where
  pub present : (b : BenchState) → after ≡ Some b → (r.fault ≡ 0) × (r.line ≡ 0) × IsTimedScene text b.slow × StandsFor b.incomplete []
  pub absent : after ≡ None → (e : RunFault) × SceneFault (IsLineOf kind.Timed) text e × (r.fault ≡ run_fault_number e) × (r.line ≡ faulty_line e)
