-- What holds of the nights of a rehearsal, this project's own: all runs of a station over a rehearsed line, one after the other.
use Rattle.gc_program_theorems.specs.Common.{Act, Task, HasComeTo, IsOfLine, Lines, AreRuns, AreRunsUnlessAltered, acts_of_all}
use Rattle.std.specs.Prelude.{◌≡◌, Bool, false, List, [], Option, Some}
use Rattle.gc_program_theorems.specs.Rehearsals.{AreRehearsed, FewEndUnbegun}

-- runs of a station with these commands, one after the other, made these acts, which are those of a line that keeps order. And
-- whatever happened on that line: as long as fewer than six runs in a row end while they synchronize (`FewEndUnbegun`), the runs
-- are faithful in it (`AreRehearsed`): each recorded answer was made, on that line, on executing the very request of its cycle and
-- place
pub record AreFaithfulRuns (commands : List Task) (acts : List Act) : Type 0 where
  pub runs : AreRuns commands [] acts
  pub line : IsOfLine acts
  pub faithful :
      (lines : Lines) (happened : HasComeTo (acts_of_all runs.stations) lines) → FewEndUnbegun 0 runs.stations
      → AreRehearsed runs.stations lines happened

-- unless the link alters bytes, its acts are seen at the end, and are those of faithful runs (`AreFaithfulRuns`)
abbrev pub AreFaithfulUnlessAltered : (alters : Bool) → List Task → Option (List Act) → Type 0
AreFaithfulUnlessAltered alters commands new = alters ≡ false → (acts : List Act) × (new ≡ Some acts) × AreFaithfulRuns commands acts

-- of the link over which a rehearsal's nights ran, all that the clause of `run_nights` says (`AreRunsUnlessAltered`) makes their runs
-- faithful (`AreFaithfulUnlessAltered`), whatever its commands are, and whether it alters bytes or not
abbrev pub NightsAreFaithful : Type 0
NightsAreFaithful = (alters : Bool) (commands : List Task) (new : Option (List Act)) → AreRunsUnlessAltered alters commands new → AreFaithfulUnlessAltered alters commands new
