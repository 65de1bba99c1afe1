-- What holds of a command in a station's text, by the lines before it: this project's own.
use Rattle.gc_texts.specs.Common.{AllByRecursion}
use Rattle.std.specs.Prelude.{◌≡◌, ◌⊎◌, ℕ, ◌+◌, ◌<◌, ◌≤◌, nat_le, nat_lt, ◌&&◌, ◌||◌, if◌then◌else◌, Bool, not, true, false, List, [], ◌∷◌, ◌++◌, length, Option, None, Some}
use Rattle.gc_texts.specs.Codes.{no_codes}
use Rattle.gc_texts.specs.Expectations.{counts}
use Rattle.gc_texts.specs.Nears.{near_of}
use Rattle.gc_texts.specs.Tasks.{TasksSeen, IsTasks, form_of_asked, needs_from, standing_of}
use Rattle.gc_texts.specs.Retries.{no_retry}
use Rattle.gc_texts.specs.ValueItems.{values_asked}
use Rattle.gc_texts.specs.Watching.{is_unwatched}
use Rattle.gc_texts.specs.declared.agree.Agree.{Agree}
use Rattle.gc_texts.specs.declared.agree.Twice.{Twice}
use Rattle.gc_texts.specs.declared.agree.Twice.TheVariants.{Once, First}
use Rattle.gc_texts.specs.declared.codes.Codes.{Codes}
use Rattle.gc_texts.specs.declared.expectation.Expectation.{Expectation}
use Rattle.gc_texts.specs.declared.retry.Retry.{Retry}
use Rattle.gc_texts.specs.Wordings.{sets_clock}
use Rattle.gc_texts.specs.declared.wish.Wish.{Wish}
use Rattle.gc_texts.specs.declared.wording.Wording.{Wording}
use Rattle.gc_texts.specs.declared.near.Near.{Near}
use Rattle.gc_texts.specs.declared.task_line.TaskLine.{TaskLine}
use Rattle.gc_texts.specs.declared.tasks.Task.{Task}
use Rattle.gc_texts.specs.declared.task_line.TaskLine.TheVariants as says

-- whether the commands after this line are setup, where `setup` says whether those before it are: `at start`, `each cycle` and
-- `every N cycles` set that, and any other line leaves it as it is
abbrev pub section_by : (setup : Bool) → TaskLine → Bool
section_by setup says.AtStart = true
section_by setup says.EachCycle = false
section_by setup (says.Every every) = false
section_by setup _ = setup

-- whether the commands after these lines are setup, where `setup` says whether those before them are
abbrev pub section_after : (setup : Bool) → List TaskLine → Bool
section_after setup [] = setup
section_after setup (line ∷ later) = section_after (section_by setup line) later

-- in every how many cycles the commands after this line have their turn, where `every` says so of those before it: `every N cycles` sets
-- that to N, `each cycle` and `at start` set it to 1, and any other line leaves it as it is
abbrev pub every_by : (every : ℕ) → TaskLine → ℕ
every_by every says.AtStart = 1
every_by every says.EachCycle = 1
every_by every (says.Every n) = n
every_by every _ = every

-- in every how many cycles the commands after these lines have their turn, where `every` says so of those before them
abbrev pub every_after : (every : ℕ) → List TaskLine → ℕ
every_after every [] = every
every_after every (line ∷ later) = every_after (every_by every line) later

-- the commands among these lines, counted: one of the setup counts as `of_setup`, and one of each cycle as `of_cycle`. `setup` says
-- whether the setup holds before the lines
abbrev pub commands_counted : (of_setup of_cycle : ℕ) (setup : Bool) → List TaskLine → ℕ
commands_counted of_setup of_cycle setup [] = 0
commands_counted of_setup of_cycle setup (says.Command command wording expects ∷ later) =
    (if setup then of_setup else of_cycle) + commands_counted of_setup of_cycle setup later
commands_counted of_setup of_cycle setup (line ∷ later) = commands_counted of_setup of_cycle (section_by setup line) later

-- how many of these lines are commands of the setup; `setup` says whether the setup holds before them
abbrev pub setup_commands : (setup : Bool) → List TaskLine → ℕ
setup_commands setup lines = commands_counted 1 0 setup lines

-- how many of these lines are commands of each cycle; `setup` says whether the setup holds before them
abbrev pub cycle_commands : (setup : Bool) → List TaskLine → ℕ
cycle_commands setup lines = commands_counted 0 1 setup lines

-- a line doesn't set the deadline
abbrev pub SaysNoDeadline : TaskLine → Type 0
SaysNoDeadline (says.Deadline deadline) = ⊥
SaysNoDeadline _ = Unit {0}

-- the value of a setting after these lines: that of the last line that sets it, or `given` where none does. `line_of` gives the line that
-- sets a value, and `SetsNone` holds of the lines that leave the setting as it is
abbrev pub IsSetAfter : {Value : Type 0} → (SetsNone : TaskLine → Type 0) → (line_of : Value → TaskLine) → (given : Value)
    → List TaskLine → (value : Value) → Type 0
IsSetAfter SetsNone line_of given lines value =
    (AllByRecursion SetsNone lines × (value ≡ given))
    ⊎ ((before : List TaskLine) × (between : List TaskLine) × (lines ≡ before ++ line_of value ∷ between) × AllByRecursion SetsNone between)

-- the deadline after these lines: that of the last one that says a deadline, or `given` where none does
abbrev pub IsDeadlineAfter : (given : ℕ) → List TaskLine → (deadline : ℕ) → Type 0
IsDeadlineAfter given lines deadline = IsSetAfter SaysNoDeadline says.Deadline given lines deadline

-- a line doesn't set whether commands are chained: it is neither `chained` nor `unchained`
abbrev pub SaysNoChaining : TaskLine → Type 0
SaysNoChaining says.Chained = ⊥
SaysNoChaining says.Unchained = ⊥
SaysNoChaining _ = Unit {0}

-- the line that sets whether commands are chained: `chained` or `unchained`
abbrev pub chaining_line : (chained : Bool) → TaskLine
chaining_line true = says.Chained
chaining_line false = says.Unchained

-- whether commands are chained after these lines: as the last line `chained` or `unchained` says, or as `given` says where there is none
abbrev pub IsChainingAfter : (given : Bool) → List TaskLine → (chained : Bool) → Type 0
IsChainingAfter given lines chained = IsSetAfter SaysNoChaining chaining_line given lines chained

-- a line doesn't set the accepted codes
abbrev pub SaysNoCodes : TaskLine → Type 0
SaysNoCodes (says.Accepting accepted) = ⊥
SaysNoCodes _ = Unit {0}

-- the codes that are accepted after these lines: as the last line `accept` says, and none where there is no such line
abbrev pub AreAcceptedAfter : List TaskLine → Codes → Type 0
AreAcceptedAfter lines accepted = IsSetAfter SaysNoCodes says.Accepting no_codes lines accepted

-- a line doesn't set the codes that say busy
abbrev pub SaysNoBusy : TaskLine → Type 0
SaysNoBusy (says.Busy busy) = ⊥
SaysNoBusy _ = Unit {0}

-- the codes that say busy after these lines: as the last line `busy` says, and none where there is no such line
abbrev pub AreBusyAfter : List TaskLine → Codes → Type 0
AreBusyAfter lines busy = IsSetAfter SaysNoBusy says.Busy no_codes lines busy

-- a line doesn't set how often chains are repeated
abbrev pub SaysNoRetry : TaskLine → Type 0
SaysNoRetry (says.Retrying retry) = ⊥
SaysNoRetry _ = Unit {0}

-- how often chains are repeated after these lines, and after what: as the last line `retry` says, and never where there is
-- none
abbrev pub IsRetryAfter : List TaskLine → Retry → Type 0
IsRetryAfter lines retry = IsSetAfter SaysNoRetry says.Retrying no_retry lines retry

-- a line doesn't set whether chains are sent twice
abbrev pub SaysNoAgree : TaskLine → Type 0
SaysNoAgree (says.Agreeing agree) = ⊥
SaysNoAgree _ = Unit {0}

-- whether chains are sent twice after these lines, and how far apart their answers may be: as the last line `agree` says, and once where
-- there is none
abbrev pub IsAgreeAfter : List TaskLine → Option Agree → Type 0
IsAgreeAfter lines agree = IsSetAfter SaysNoAgree says.Agreeing None lines agree

-- a line that may come between two commands of a group, which is a run of commands for one target, without ending it: a deadline, a
-- name, where a target is, that a target isn't watched, what a procedure outside the table is, accepted codes, or those that say busy
abbrev pub KeepsGroup : TaskLine → Type 0
KeepsGroup (says.Deadline deadline) = Unit {0}
KeepsGroup (says.Naming name) = Unit {0}
KeepsGroup (says.Locating near) = Unit {0}
KeepsGroup (says.Unwatching target) = Unit {0}
KeepsGroup (says.Describing description) = Unit {0}
KeepsGroup (says.Accepting accepted) = Unit {0}
KeepsGroup (says.Busy busy) = Unit {0}
KeepsGroup _ = ⊥

-- the last command of these lines is for this target, and only deadlines, names, places, unwatched targets, descriptions and codes follow
-- it
abbrev pub EndsInGroupOf : List TaskLine → ℕ → Type 0
EndsInGroupOf lines target =
    (before : List TaskLine) × (command : Wish) × (wording : Wording) × (expects : Option Expectation) × (between : List TaskLine)
    × (lines ≡ before ++ says.Command command wording expects ∷ between) × AllByRecursion KeepsGroup between × (command.target ≡ target)

-- the sending of a command of the cycle that follows the lines `front`, in its first task: the first of two where the last line `agree`
-- says that chains are sent twice, and else the only one
abbrev pub IsSentAfter : (front : List TaskLine) → Twice → Type 0
IsSentAfter front twice = (IsAgreeAfter front None × (twice ≡ Once)) ⊎ ((agree : Agree) × IsAgreeAfter front (Some agree) × (twice ≡ First))

-- the task of a command of the cycle that follows the lines `front`: its place counts the cycle's commands among them, and
-- it is chained exactly where commands are chained there and the command before is for the same target, with no line between
-- the two that ends their group (`KeepsGroup`). It is the only sending, or the first of two, as the lines say, and has its turn in every
-- so many cycles as the last of their lines `each cycle`, `every N cycles` and `at start` says, in each where there is none. `chained` says
-- whether commands are chained where no line says so
pub record IsTaskInCycle (chained : Bool) (front : List TaskLine) (command : Wish) (task : Task) : Type 0 where
  pub place : task.turn.place ≡ cycle_commands false front
  pub only : task.chained ≡ true → IsChainingAfter chained front true × EndsInGroupOf front command.target
  pub found : IsChainingAfter chained front true → EndsInGroupOf front command.target → task.chained ≡ true
  pub sent : IsSentAfter front task.twice
  pub turns : task.every ≡ every_after 1 front

-- the task of a command of the setup that follows the lines `front`: its place counts the setup's commands among them, and
-- it is chained exactly where there is one. The setup is sent once, and its commands have no cycles to wait for
pub record IsTaskOfSetUp (front : List TaskLine) (task : Task) : Type 0 where
  pub place : task.turn.place ≡ setup_commands false front
  pub chained : task.chained ≡ nat_lt 0 (setup_commands false front)
  pub once : task.twice ≡ Once
  pub turns : task.every ≡ 1

-- the task of a command that follows the lines `front`, in the first attempt of its chain, by what holds there. `deadline` and
-- `chained` hold where no line says otherwise; `wording` is how its line says what to ask for, and
-- `expects` what is expected of its answer. An item `>` there is numbered by the commands with one among those lines, and the values of files
-- that it takes by those that the commands among them take
pub record IsTaskOf (deadline : ℕ) (chained : Bool) (front : List TaskLine) (command : Wish) (wording : Wording) (expects : Option Expectation) (task : Task) : Type 0 where
  pub asks : task.command ≡ command
  pub moment : task.now ≡ (sets_clock wording || nat_lt 0 (values_asked wording command.call))
  pub needs : task.needs ≡ needs_from (standing_of front).values (values_asked wording command.call)
  pub expects_is : task.expects ≡ expects
  pub counter : task.counter ≡ (if counts expects then Some (standing_of front).counters else None)
  pub first : task.turn.attempt ≡ 1
  pub deadline_is : IsDeadlineAfter deadline front task.deadline
  pub accepted_are : AreAcceptedAfter front task.accepted
  pub busy_are : AreBusyAfter front task.busy
  pub at_start : section_after false front ≡ true → IsTaskOfSetUp front task
  pub in_cycle : section_after false front ≡ false → IsTaskInCycle chained front command task

-- each command of a text is sent as the lines before it say, and its task has the place that the text gives its target, if
-- any, is watched unless the text leaves its target unwatched or it hasn't its turn in each cycle, and has the form of answers that the text's description of its procedure
-- says, if there is one. Before the task of a command of the setup there are as many tasks as the text has commands of the setup before
-- that command, and before the task of one of the cycle there are at least all those of the setup
abbrev pub TasksFollowTheirLines : Type 0
TasksFollowTheirLines =
    (text : List ℕ) (deadline : ℕ) (chained : Bool) (all : TasksSeen) (is : IsTasks text deadline chained all)
    (front later : List TaskLine) (command : Wish) (wording : Wording) (expects : Option Expectation) → is.said ≡ front ++ says.Command command wording expects ∷ later
    → (earlier : List Task) × (task : Task) × (others : List Task) × (all.tasks ≡ earlier ++ task ∷ others)
    × (section_after false front ≡ true → length earlier ≡ setup_commands false front) × (section_after false front ≡ false → all.setup ≤ length earlier)
    × IsTaskOf deadline chained front command wording expects task × (task.near ≡ near_of command.target all.nears)
    × (task.watched ≡ (not (is_unwatched command.target all.unwatched) && nat_le task.every 1)) × (task.form ≡ form_of_asked all.described command.call)

-- where a line says where a target is, it says so of each command of that target, before it and after it
abbrev pub PlacesHoldForAll : Type 0
PlacesHoldForAll =
    (text : List ℕ) (deadline : ℕ) (chained : Bool) (all : TasksSeen) (is : IsTasks text deadline chained all)
    (front later : List TaskLine) (near : Near) → is.said ≡ front ++ says.Locating near ∷ later
    → (earlier others : List Task) (task : Task) → all.tasks ≡ earlier ++ task ∷ others → task.command.target ≡ near.target → task.near ≡ Some near

-- the commands that aren't watched are those of the targets for which a line says so, wherever that line is, and those that haven't their
-- turn in each cycle: where a line says so of the target of a task, the task isn't watched, nor is it where it has its turn in every so many
-- cycles, above 1; and where neither holds, it is
abbrev pub UnwatchedHoldForAll : Type 0
UnwatchedHoldForAll =
    (text : List ℕ) (deadline : ℕ) (chained : Bool) (all : TasksSeen) (is : IsTasks text deadline chained all)
    (earlier others : List Task) (task : Task) → all.tasks ≡ earlier ++ task ∷ others
    → ((front later : List TaskLine) → is.said ≡ front ++ says.Unwatching task.command.target ∷ later → task.watched ≡ false)
    × (1 < task.every → task.watched ≡ false)
    × (task.watched ≡ false
    → (1 < task.every) ⊎ ((front : List TaskLine) × (later : List TaskLine) × (is.said ≡ front ++ says.Unwatching task.command.target ∷ later)))
