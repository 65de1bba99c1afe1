-- The acts of runs of a station, one run after the other, over the line of a rehearsal: this project's own. An act is one call on the
-- line, with its result.
use Rattle.std.specs.Prelude.{◌≡◌, Bool, false, List, [], ◌∷◌, ◌++◌, Option, None, Some}
use Rattle.std.specs.List.{AllByRecursion}
use Rattle.gc_links.specs.Prelude.{Act}
use Rattle.gc_rehearsal.specs.Carrying.{CarriesNothing, IsOfLine}
use Rattle.gc_station.specs.Prelude.{Runs, opening, Scope}
use Rattle.gc_station.specs.declared.plan.Plan.{Plan}
use Rattle.gc_texts.specs.declared.tasks.Task.{Task}
use Rattle.gc_rehearsal.specs.Askable.{AreAskable}

-- a station that ran over a rehearsed line: its plan, its commands, its scope, and the acts of its link while it ran; and the
-- acts after that run and before the next (`after_run`), such as a close after the output failed
pub record RehearsedStation : Type 0 where
  pub plan : Plan
  pub commands : List Task
  pub scope : Scope
  pub acts : List Act
  pub after_run : List Act

-- the acts of the link while these stations ran, in order
abbrev pub acts_of_all : List RehearsedStation → List Act
acts_of_all [] = []
acts_of_all (x ∷ xs) = x.acts ++ (x.after_run ++ acts_of_all xs)

-- a station's commands are `IsAskable`, its acts are a run of it, and after them nothing was sent whole and nothing came
-- (`CarriesNothing`)
pub record RunsAndStops (x : RehearsedStation) : Type 0 where
  pub askable : AreAskable x.commands
  pub runs : Runs x.plan x.commands (opening x.plan x.scope) x.acts
  pub quiet : AllByRecursion CarriesNothing x.after_run

-- a run of a station with these commands, each of which is `IsAskable`; after the run and before the next one nothing was sent
-- whole, and nothing came (`RunsAndStops`)
abbrev pub IsRunOf : List Task → RehearsedStation → Type 0
IsRunOf commands x = (x.commands ≡ commands) × RunsAndStops x

-- runs of a station with these commands, one after the other, made the acts that `new` has after those of `old`
pub record AreRuns (commands : List Task) (old new : List Act) : Type 0 where
  pub stations : List RehearsedStation
  pub each : AllByRecursion (IsRunOf commands) stations
  pub told : new ≡ old ++ acts_of_all stations

-- where the acts of a link are seen before (`old`), they are seen after (`new`), and runs of a station with these commands made those
-- in between (`AreRuns`). Of a link that alters bytes no acts are seen (`None`), and nothing is claimed
abbrev pub AddRuns : (commands : List Task) (old new : Option (List Act)) → Type 0
AddRuns commands None new = Unit {0}
AddRuns commands (Some xs) None = ⊥
AddRuns commands (Some xs) (Some ys) = AreRuns commands xs ys

-- runs of a station with these commands, one after the other, made these acts, from the first on, and these are the acts of a line
-- that keeps order, on which nothing was in flight at first (`IsOfLine`)
pub record AreRunsOnLine (commands : List Task) (acts : List Act) : Type 0 where
  pub runs : AreRuns commands [] acts
  pub line : IsOfLine acts

-- unless the link alters bytes, its acts are seen at the end, and are those of runs on a line (`AreRunsOnLine`)
abbrev pub AreRunsUnlessAltered : (alters : Bool) → List Task → Option (List Act) → Type 0
AreRunsUnlessAltered alters commands new = alters ≡ false → (acts : List Act) × (new ≡ Some acts) × AreRunsOnLine commands acts
