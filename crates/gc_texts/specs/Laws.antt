-- Laws of the texts: this project's own, as the texts are.
use Rattle.gc_texts.specs.Common.{AllByRecursion, call_fields, call_name, Call}
use Rattle.std.specs.Prelude.{◌≡◌, ◌<◌, ◌^◌, ℕ, ◌+◌, ◌++◌, Bool, true, false, List, [], ◌∷◌, length, map, Option, None, Some}
use Rattle.gc_texts.specs.Codes.{no_codes}
use Rattle.gc_texts.specs.Commands.{IsCommands}
use Rattle.gc_texts.specs.Again.{no_again}
use Rattle.gc_texts.specs.Tasks.{TasksSeen, IsTasks}
use Rattle.gc_texts.specs.ProcedureNames.{name_in_table}
use Rattle.gc_texts.specs.ValueItems.{no_needs}
use Rattle.gc_texts.specs.Wishes.{wish_of}
use Rattle.gc_texts.specs.Logs.{log_text, AreBytes, IsPrintable, IsLogLine}
use Rattle.gc_texts.specs.Stamps.{stamp_text}
use Rattle.gc_texts.specs.declared.agree.Twice.TheVariants.{Once}
use Rattle.gc_texts.specs.declared.commands.Command.{Command}
use Rattle.gc_texts.specs.declared.tasks.Task.{Task}
use Rattle.gc_texts.specs.declared.log_line.LogMark.{LogMark}

-- a command text gives one list of commands at most
abbrev pub OneCommandList : Type 0
OneCommandList = (text : List ℕ) (xs ys : List Command) → IsCommands text xs → IsCommands text ys → xs ≡ ys

-- with a caller's deadline and chaining, a station's text gives one number of setup tasks at most, one list of tasks, one of names,
-- one of places, one of unwatched targets, one of descriptions, and one of the columns that these add
abbrev pub OneTaskList : Type 0
OneTaskList =
    (text : List ℕ) (deadline : ℕ) (chained : Bool) (one other : TasksSeen)
    → IsTasks text deadline chained one → IsTasks text deadline chained other → one ≡ other

-- these tasks, without setup, names, places, unwatched targets and descriptions
abbrev pub tasks_alone : List Task → TasksSeen
tasks_alone tasks = record { setup = 0; tasks = tasks; names = []; nears = []; unwatched = []; described = []; columns = [] }

-- each command text is a station's text: of the same commands in the same order, and without setup, names,
-- places, unwatched targets and descriptions
abbrev pub CommandsAreTasks : Type 0
CommandsAreTasks =
    (text : List ℕ) (commands : List Command) (deadline : ℕ) (chained : Bool) → IsCommands text commands →
    (tasks : List Task) × IsTasks text deadline chained (tasks_alone tasks) × (map (λ task. task.command) tasks ≡ map wish_of commands)

-- the tasks of these commands, numbered from `place` on: each is in its first attempt, is sent once in it, in each cycle, has this deadline,
-- isn't chained, neither sets the clock to the moment at which it is sent nor takes values of files, is watched, and has no place of its target, no form of its answers, no accepted
-- code, none that says busy, no expectation and no rule of repetition
abbrev pub plain_tasks : (deadline place : ℕ) → List Command → List Task
plain_tasks deadline place [] = []
plain_tasks deadline place (command ∷ others) =
    record {
      command = wish_of command;
      deadline = deadline;
      chained = false;
      near = None;
      watched = true;
      form = None;
      accepted = no_codes;
      busy = no_codes;
      expects = None;
      counter = None;
      again = no_again;
      turn = record { place = place; attempt = 1; link = 0 };
      others = 0;
      every = 1;
      now = false;
      needs = no_needs;
      twice = Once;
    } ∷ plain_tasks deadline (place + 1) others

-- a command text, read as a station's text without chains, gives one task for each command, in order: with the caller's
-- deadline, not chained, and without a place of its target (`plain_tasks`)
abbrev pub CommandsArePlain : Type 0
CommandsArePlain =
    (text : List ℕ) (commands : List Command) (deadline : ℕ) → IsCommands text commands
    → IsTasks text deadline false (tasks_alone (plain_tasks deadline 0 commands))

-- chains keep their targets: each chained task follows one for the same target; `before` is the target of the task before all of these,
-- if there is one
abbrev pub KeepTargets : (before : Option ℕ) → List Task → Type 0
KeepTargets before [] = Unit {0}
KeepTargets before (task ∷ later) = (task.chained ≡ true → before ≡ Some task.command.target) × KeepTargets (Some task.command.target) later

-- these tasks are one chain, or there are none: the first isn't chained, and each after it is
abbrev pub IsOneChain : List Task → Type 0
IsOneChain [] = Unit {0}
IsOneChain (first ∷ later) = (first.chained ≡ false) × AllByRecursion (λ task. task.chained ≡ true) later

-- the setup is one chain, whatever its targets, or empty (`IsOneChain`); of the tasks after it the first isn't chained, and
-- each chained one follows one for the same target (`KeepTargets`)
abbrev pub ChainsKeepTargets : Type 0
ChainsKeepTargets =
    (text : List ℕ) (deadline : ℕ) (chained : Bool) (all : TasksSeen) → IsTasks text deadline chained all
    → (front : List Task) × (cycle : List Task) × (all.tasks ≡ front ++ cycle) × (all.setup ≡ length front)
    × IsOneChain front × KeepTargets None cycle

-- the name that is printed of a procedure's number is the catalogue's
abbrev pub NamesAreTheCatalogues : Type 0
NamesAreTheCatalogues = (call : Call) → name_in_table (call_fields call).number ≡ call_name call

-- a log line reads back: what is written of a moment of at most 64 bits, a mark and bytes is a log line of these (`written`),
-- and no text is a log line of two moments, marks or lists of bytes (`once`)
pub record LogLinesReadBack : Type 0 where
  pub written : (utc : ℕ) (mark : LogMark) (bytes : List ℕ) → utc < 2 ^ 64 → AreBytes bytes
      → IsLogLine (log_text (stamp_text utc) mark bytes) (stamp_text utc) mark bytes
  pub once : (text one other : List ℕ) (mark other_mark : LogMark) (bytes other_bytes : List ℕ)
      → IsLogLine text one mark bytes → IsLogLine text other other_mark other_bytes
      → (one ≡ other) × (mark ≡ other_mark) × (bytes ≡ other_bytes)

-- a log line of a moment of at most 64 bits has printable bytes alone, before its line feed
abbrev pub LogLinesArePrintable : Type 0
LogLinesArePrintable =
    (utc : ℕ) (mark : LogMark) (bytes : List ℕ) → utc < 2 ^ 64 → AreBytes bytes → IsPrintable (log_text (stamp_text utc) mark bytes)
