-- Stations one after the other over a line that outlives them, this project's own: each is a run of a station, with its own
-- plan and commands, and is killed at any moment, also while it synchronizes. Nothing here depends on a clock.
use Rattle.gc_theorems.specs.Common.{WINDOW, KeptReply, IsFittingState, Runs, opening}
use Rattle.std.specs.Prelude.{ℕ, List, [], ◌∷◌, Option}
use Rattle.gc_theorems.specs.Simulator.{simulator_ends}
use Rattle.gc_theorems.specs.World.{Ends}
use Rattle.gc_theorems.specs.Begin.{IsWellFormed, UnderWay}
use Rattle.gc_theorems.specs.Beginnings.{AreFewKilled, AreRuns, HasRisingIds, killed_over, left_by_runs}
use Rattle.gc_theorems.specs.Instrument.{OfAnyInstrument}
use Rattle.gc_theorems.specs.Laws.{kept_of}
use Rattle.gc_theorems.specs.Runs.{IsRunFaithful, Program, program_parts}
use Rattle.gc_theorems.specs.Shown.{AreShownAs}

module _ {State : Type 0} (ends : Ends State) (Good : State → Type 0) (kept : State → Option KeptReply) where
  -- a program is a run of its station over what is in flight (`u`): what happens on the line is possible (`AreRuns`), and shows
  -- the station that run (`AreShownAs`). At most five runs in a row count as killed while they synchronized, counted with the
  -- `n` before the program (`AreFewKilled`); one during which none of its null procedures was answered doesn't count
  pub record IsNextProgram (n : ℕ) (u : UnderWay State) (x : Program State) : Type 0 where
    pub runs : Runs x.plan x.commands (opening x.plan x.scope) x.acts
    pub shown : AreShownAs ends u x.runs (program_parts x)
    pub possible : AreRuns WINDOW ends Good kept u x.runs
    pub few : AreFewKilled WINDOW ends n u x.runs

  -- each of these programs is `IsNextProgram`, over what the one before it left
  abbrev pub AreInARow : ℕ → UnderWay State → List (Program State) → Type 0
  AreInARow n u [] = Unit {0}
  AreInARow n u (x ∷ xs) = IsNextProgram n u x × AreInARow (killed_over WINDOW ends n u x.runs) (left_by_runs WINDOW ends u x.runs) xs

  -- each of these programs is a faithful run, over what the one before it left
  abbrev pub AreFaithful : UnderWay State → List (Program State) → Type 0
  AreFaithful u [] = Unit {0}
  AreFaithful u (x ∷ xs) = IsRunFaithful ends Good kept u x × AreFaithful (left_by_runs WINDOW ends u x.runs) xs

-- after a run that had synchronized, or over a line with nothing in flight (`HasRisingIds`, `IsWellFormed`): as long as fewer
-- than six runs in a row end while they synchronize, each program of programs in a row (`AreInARow`) is a faithful run. `Good`
-- says which states of the instrument are good, and `kept` what reply each of them keeps
abbrev pub ProgramsInARowAreFaithful : {State : Type 0} → (ends : Ends State) → (Good : State → Type 0) → (kept : State → Option KeptReply) → Type 0
ProgramsInARowAreFaithful {State = State} ends Good kept =
    (u : UnderWay State) → IsWellFormed Good u → HasRisingIds u → (xs : List (Program State)) → AreInARow ends Good kept 0 u xs → AreFaithful ends Good kept u xs

-- `ProgramsInARowAreFaithful`, for any instrument, in any state
abbrev pub StationsInARowAreFaithful : Type 0 → Type 0
StationsInARowAreFaithful State = OfAnyInstrument {State = State} (λ ends Good kept. ProgramsInARowAreFaithful ends Good kept)

-- `ProgramsInARowAreFaithful`, for the simulator, in any state that fits
abbrev pub SimulatorsStationsInARowAreFaithful : Type 0
SimulatorsStationsInARowAreFaithful = ProgramsInARowAreFaithful simulator_ends IsFittingState kept_of
