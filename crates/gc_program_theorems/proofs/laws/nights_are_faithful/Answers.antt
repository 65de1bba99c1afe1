use Rattle.gc_program_theorems.proofs.Common.{List, Act, all_on, Task, AreRunsOnLine, IsRunOf, RunsAndStops}
use Rattle.gc_program_theorems.specs.Nights.{AreFaithfulRuns}
use Rattle.gc_program_theorems.proofs.InARow.{stations_are_faithful}
use Rattle.gc_program_theorems.proofs.laws.nights_are_faithful.Goals as goal

-- runs on a line that made all of its acts, from the first on, are as `AreFaithfulRuns` says, by the law on stations in a row
faithful_runs : (commands : List Task) (acts : List Act) → AreRunsOnLine commands acts → AreFaithfulRuns commands acts
faithful_runs commands acts is = record {
  runs = is.runs;
  line = is.line;
  faithful = λ lines happened few. stations_are_faithful is.runs.stations lines happened (all_on (IsRunOf commands) RunsAndStops is.runs.stations (λ x run. run.1) is.runs.each) few;
}

pub returns : goal.returns
returns c alters commands new runs sure = let is = runs sure in (is.0, is.1, faithful_runs commands is.0 is.2)
