-- A station's text that is read whole: this project's own.
use Rattle.gc_measuring.specs.Common.{Choice, Hearing, HeardBytes, line_at, TasksSeen, IsTasks, TaskFault, tasks_seen, IsTrouble, Input, GaveBytes, WasRead, RefusesText, RunFault, Schedule}
use Rattle.std.specs.Prelude.{◌≡◌, ℕ, ◌<◌, ◌≤◌, ◌⊎◌, Bool, List, length}
use Rattle.gc_measuring.specs.declared.stop.Stop.{Stop}
use Rattle.gc_measuring.specs.declared.stop.Stop.TheVariants.{Text, Empty, Line}
use Rattle.gc_texts.specs.declared.tasks.Tasks.{Tasks}
use Rattle.gc_texts.specs.declared.trouble.Trouble.{Trouble}

-- the stop by which a text with this fault is refused: for a faulty line, with the line's trouble
abbrev pub IsStopFor : (text : List ℕ) → (fault : RunFault) → Stop → Type 0
IsStopFor text (Schedule n) stop = (trouble : Trouble) × IsTrouble (line_at text n) trouble × (stop ≡ Line n trouble)
IsStopFor text fault stop = stop ≡ Text fault

-- the text that a source gave, to its end, is a station's text without a command of a cycle, read with some deadline and some
-- chaining as its defaults, and so the stop is `Empty`
pub record HasNoCommand (given : List ℕ) (old new : Input) (stop : Stop) : Type 0 where
  pub read : WasRead given old new
  pub deadline : ℕ
  pub chained : Bool
  pub all : TasksSeen
  pub are : IsTasks given deadline chained all
  pub none : length all.tasks ≤ all.setup
  pub is : stop ≡ Empty

-- the text that a source gave wasn't read to its end, or is no station's text, or has no command of a cycle, and this stop says
-- which
abbrev pub RefusesTasks : (given : List ℕ) → (old new : Input) → Stop → Type 0
RefusesTasks given old new stop =
    ((fault : RunFault) × RefusesText TaskFault given old new fault × IsStopFor given fault stop) ⊎ HasNoCommand given old new stop

-- a source gave a station's text with these tasks and names, and at least one task of the cycle, after those of the setup. Until
-- a line says otherwise its commands have the choice's deadline, and are chained or not as the choice says
pub record GivesTasks (given : List ℕ) (old new : Input) (choice : Choice) (all : TasksSeen) : Type 0 where
  pub read : WasRead given old new
  pub are : IsTasks given choice.deadline choice.chained all
  pub some : all.setup < length all.tasks

-- a text that was read whole is a station's text with these tasks and names, and has at least one task of the cycle, after those of
-- the setup, as `GivesTasks` says
pub record HasTasks (text : List ℕ) (choice : Choice) (all : TasksSeen) : Type 0 where
  pub are : IsTasks text choice.deadline choice.chained all
  pub some : all.setup < length all.tasks

-- a text that was read whole is a station's text without a command of a cycle, as `HasNoCommand` says
pub record HasSetupAlone (text : List ℕ) : Type 0 where
  pub deadline : ℕ
  pub chained : Bool
  pub all : TasksSeen
  pub are : IsTasks text deadline chained all
  pub none : length all.tasks ≤ all.setup

-- a text that was read whole is no station's text, or memory was refused for its tasks, or it has no command of a cycle, and this
-- stop says which
abbrev pub HasNoTasks : (text : List ℕ) → Stop → Type 0
HasNoTasks text stop = ((fault : RunFault) × TaskFault text fault × IsStopFor text fault stop) ⊎ (HasSetupAlone text × (stop ≡ Empty))

-- reading took a source from `old` to `new`, and gave the tasks of a station's text, which has the defaults of this choice
abbrev pub ReadsTasks : (old new : Input) → Choice → Tasks → Type 0
ReadsTasks old new choice all = GaveBytes old new (λ given. GivesTasks given old new choice (tasks_seen all))

-- reading took a source from `old` to `new`, and gave no tasks, for the reason that this stop says
abbrev pub ReadsNoTasks : (old new : Input) → Stop → Type 0
ReadsNoTasks old new stop = GaveBytes old new (λ given. RefusesTasks given old new stop)

-- the reads of a source gave exactly this text, to its end, and it is a station's text with these tasks, which has the defaults of
-- this choice
abbrev pub HearsTasks : (old new : Hearing) → Choice → (text : List ℕ) → Tasks → Type 0
HearsTasks old new choice text tasks = HeardBytes old new (λ given. (given ≡ text) × GivesTasks given old.input new.input choice (tasks_seen tasks))

-- the reads of a source gave no tasks, for the reason that this stop says
abbrev pub HearsNoTasks : (old new : Hearing) → Stop → Type 0
HearsNoTasks old new stop = HeardBytes old new (λ given. RefusesTasks given old.input new.input stop)

-- what the reads of a source gave is, to its end, a text that a station with this choice can measure
abbrev pub IsCheckable : Choice → (old new : Hearing) → Type 0
IsCheckable choice old new = HeardBytes old new (λ given. (all : TasksSeen) × GivesTasks given old.input new.input choice all)
