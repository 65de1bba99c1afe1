-- A station's text, and the tasks, the names and the places of targets that it gives, which targets it leaves unwatched, and which
-- procedures it describes: this project's own. The mode at a
-- line is what holds for a command there: its deadline, whether commands are chained, the target of the group that it may
-- continue, the codes that are accepted and those that say busy, how often its chain is repeated and whether it is sent twice, whether it
-- is setup, in every how many cycles it has its turn, how many commands of each section are in front, how many of those in front are in the
-- last chain, how many have an item `>`, and how many values of files these take. A group is a run of commands for one target, with no line
-- `chained`, `unchained`, `retry`, `agree`, `at start`, `each cycle` or `every N cycles` between them.
use Rattle.gc_texts.specs.Common.{flat_map, ArrayVec, Asked, raw_bytes, Table, Raw, SetDate, RawCall, FILE_VALUES, Value}
use Rattle.std.specs.Prelude.{◌≡◌, ℕ, ◌+◌, ◌*◌, ◌≤◌, ◌<◌, ◌⊎◌, ◌==◌, ◌&&◌, ◌||◌, Bool, true, false, not, nat_le, nat_lt, List, [], ◌∷◌, ◌++◌, length, map, filter, drop, Option, None, Some, Vec, vec_capacity, vec_len, if◌then◌else◌}
use Rattle.gc_texts.specs.Again.{no_again}
use Rattle.gc_texts.specs.Attempts.{laid_out}
use Rattle.gc_texts.specs.Codes.{no_codes}
use Rattle.gc_texts.specs.Descriptions.{described_as, is_described, kinds_asked}
use Rattle.gc_texts.specs.Expectations.{counts}
use Rattle.gc_texts.specs.Forms.{form_for, form_gives_direction, form_gives_distance}
use Rattle.gc_texts.specs.KindLists.{AreOfKinds}
use Rattle.gc_texts.specs.LineForms.{text_lines, is_kept, AreLinesOf, HasKeptLine, TextFaultBy}
use Rattle.gc_texts.specs.Names.{is_named}
use Rattle.gc_texts.specs.Nears.{asked_gives_direction, asked_gives_distance, has_near, near_of}
use Rattle.gc_texts.specs.NewColumns.{are_of_one_sort, fresh_names, new_columns}
use Rattle.gc_texts.specs.Retries.{no_retry}
use Rattle.gc_texts.specs.Stamps.{date_time}
use Rattle.gc_texts.specs.TaskLines.{IsTaskLine}
use Rattle.gc_texts.specs.ValueItems.{AreValueFiles, filled_call, no_needs, sampled, value_items, values_asked, values_in}
use Rattle.gc_texts.specs.Watching.{is_unwatched}
use Rattle.gc_texts.specs.Wordings.{sets_clock}
use Rattle.gc_texts.specs.declared.agree.Twice.TheVariants.{Once}
use Rattle.gc_texts.specs.declared.description.Description.{Description}
use Rattle.gc_texts.specs.declared.expectation.Expectation.{Expectation}
use Rattle.gc_texts.specs.declared.field.Field.{Field}
use Rattle.gc_texts.specs.declared.fault.RunFault.{RunFault}
use Rattle.gc_texts.specs.declared.form.Form.{Form}
use Rattle.gc_texts.specs.declared.name.Name.{Name}
use Rattle.gc_texts.specs.declared.near.Near.{Near}
use Rattle.gc_texts.specs.declared.task_line.TaskLine.{TaskLine}
use Rattle.gc_texts.specs.declared.mode.Mode.{Mode}
use Rattle.gc_texts.specs.declared.mode.Standing.{Standing}
use Rattle.gc_texts.specs.declared.occasion.Occasion.{Occasion}
use Rattle.gc_texts.specs.declared.value_item.Needs.{Needs}
use Rattle.gc_texts.specs.declared.attempts.Planned.{Planned}
use Rattle.gc_texts.specs.declared.tasks.Given.{Given}
use Rattle.gc_texts.specs.declared.tasks.Task.{Task}
use Rattle.gc_texts.specs.declared.tasks.Tasks.{Tasks}
use Rattle.gc_texts.specs.declared.turn.Turn.{Turn}
use Rattle.gc_texts.specs.declared.wish.Wish.{Wish}
use Rattle.gc_texts.specs.declared.wording.Wording.{Wording}
use Rattle.gc_texts.specs.declared.wording.Wording.TheVariants.{Described}
use Rattle.gc_texts.specs.declared.task_line.TaskLine.TheVariants as says

-- the mode before any line: the caller's deadline and chaining, no group, no code that is accepted beside 0 or says busy, no retry, and no
-- second sending;
-- the commands after it are those of each cycle, and none came before it
abbrev pub first_mode : (deadline : ℕ) (chained : Bool) → Mode
first_mode deadline chained =
    record {
      deadline = deadline;
      chained = chained;
      group = None;
      accepted = no_codes;
      busy = no_codes;
      retry = no_retry;
      agree = None;
      setup = false;
      every = 1;
      begun = 0;
      place = 0;
      link = 0;
      counters = 0;
      values = 0;
    }

-- each count of a mode is at most n, but that of values, of which one command takes 504 at most
pub record CountsAtMost (mode : Mode) (n : ℕ) : Type 0 where
  pub begun : mode.begun ≤ n
  pub place : mode.place ≤ n
  pub link : mode.link ≤ n
  pub counters : mode.counters ≤ n
  pub values : mode.values ≤ n * 504

-- whether a command for `target` continues the group before it, where there is one: that group is for the target `before`
abbrev pub continues_group : Option ℕ → ℕ → Bool
continues_group (Some before) target = before == target
continues_group None target = false

-- whether a command for this target is chained: in the setup each command but the first is, and in the cycle a command is if the mode
-- chains commands and the command continues the group
abbrev pub chained_at : Mode → ℕ → Bool
chained_at mode target = if mode.setup then nat_lt 0 mode.begun else mode.chained && continues_group mode.group target

-- the place of a command in its chain, from 0: a setup command follows all of the setup's commands before it, a chained command of the
-- cycle follows the one before it, and any other is the first
abbrev pub place_in_chain : Mode → (chained : Bool) → ℕ
place_in_chain mode chained = if mode.setup then mode.begun else if chained then mode.link else 0

-- the turn of a command, chained or not, in its first attempt: its place among the commands of its section, and its place in its chain
abbrev pub turn_at : Mode → (chained : Bool) → Turn
turn_at mode chained = record { place = if mode.setup then mode.begun else mode.place; attempt = 1; link = place_in_chain mode chained }

-- how many commands have an item `>` with one more of which this is expected, where `counters` have one before it
abbrev pub counters_with : (counters : ℕ) → Option Expectation → ℕ
counters_with counters expects = if counts expects then counters + 1 else counters

-- which of the text's items `>`, counted from 0, is in what is expected of a command, if one is
abbrev pub counter_at : Mode → Option Expectation → Option ℕ
counter_at mode expects = if counts expects then Some mode.counters else None

-- the values of files that a command takes which takes so many of them, `first` of the text's being before it
abbrev pub needs_from : (first count : ℕ) → Needs
needs_from first count = if count == 0 then no_needs else record { first = first; count = count }

-- the mode after a command for this target that takes so many values of files, and of whose answer this is expected
abbrev pub mode_after_command : Mode → ℕ → (taken : ℕ) → Option Expectation → Mode
mode_after_command mode target taken expects =
    record mode {
      group = Some target;
      begun = if mode.setup then mode.begun + 1 else mode.begun;
      place = if mode.setup then mode.place else mode.place + 1;
      link = place_in_chain mode (chained_at mode target) + 1;
      counters = counters_with mode.counters expects;
      values = mode.values + taken;
    }

-- the mode after a line. After a command the group is of its target, and the command is counted. A line `deadline` sets the deadline, and
-- `accept` the return codes that are accepted, and `busy` those that say busy. `chained` and `unchained` set whether commands are chained,
-- `retry` how often chains are repeated, `agree` whether they are sent twice, `at start`, `each cycle` and `every N cycles` the section, the
-- last of which also says in every how many cycles commands have their turn; these lines also end the group. A name, a place, a target that
-- isn't watched or a description of a procedure changes nothing
abbrev pub mode_after : Mode → TaskLine → Mode
mode_after mode (says.Command command wording expects) = mode_after_command mode command.target (values_asked wording command.call) expects
mode_after mode (says.Deadline deadline) = record mode { deadline = deadline }
mode_after mode says.Chained = record mode { chained = true; group = None }
mode_after mode says.Unchained = record mode { chained = false; group = None }
mode_after mode (says.Naming name) = mode
mode_after mode (says.Locating near) = mode
mode_after mode (says.Unwatching target) = mode
mode_after mode (says.Describing description) = mode
mode_after mode (says.Accepting accepted) = record mode { accepted = accepted }
mode_after mode (says.Busy busy) = record mode { busy = busy }
mode_after mode (says.Retrying retry) = record mode { retry = retry; group = None }
mode_after mode (says.Agreeing agree) = record mode { agree = agree; group = None }
mode_after mode says.AtStart = record mode { setup = true; every = 1; group = None }
mode_after mode says.EachCycle = record mode { setup = false; every = 1; group = None }
mode_after mode (says.Every every) = record mode { setup = false; every = every; group = None }

-- the task of a command in its first attempt; `wording` is how its line says what to ask for, and `expects` what is expected of its answer.
-- One of the setup has no cycles to wait for.
-- The place of its target is set later (`placed`), and whether it is watched, and the form of its answers; so are the rule of its chain
-- and its sending, if the command is one of the cycle (`laid_out`)
abbrev pub task_at : Mode → Wish → Wording → Option Expectation → Task
task_at mode command wording expects =
    record {
      command = command;
      deadline = mode.deadline;
      chained = chained_at mode command.target;
      near = None;
      watched = true;
      form = None;
      accepted = mode.accepted;
      busy = mode.busy;
      expects = expects;
      counter = counter_at mode expects;
      again = no_again;
      turn = turn_at mode (chained_at mode command.target);
      others = 0;
      every = if mode.setup then 1 else mode.every;
      now = sets_clock wording || nat_lt 0 (values_asked wording command.call);
      needs = needs_from mode.values (values_asked wording command.call);
      twice = Once;
    }

-- what these lines give, in order, where `mode` holds before them; `given_at` says what a line gives by the mode before it
abbrev pub given_by : {Item : Type 0} → (given_at : Mode → TaskLine → List Item) → Mode → List TaskLine → List Item
given_by given_at mode [] = []
given_by given_at mode (line ∷ later) = given_at mode line ++ given_by given_at (mode_after mode line) later

-- the task that a line gives the setup, as a list of one, where `mode` holds before it; none if it is no setup command
abbrev pub setup_at : Mode → TaskLine → List Task
setup_at mode (says.Command command wording expects) = if mode.setup then task_at mode command wording expects ∷ [] else []
setup_at mode _ = []

-- the tasks of the setup that these lines give, where `mode` holds before them
abbrev pub setup_of : Mode → List TaskLine → List Task
setup_of mode lines = given_by setup_at mode lines

-- the command that a line gives each cycle, with the rules of its chain, as a list of one, where `mode` holds before it; none if it is no
-- command of each cycle
abbrev pub planned_at : Mode → TaskLine → List Planned
planned_at mode (says.Command command wording expects) = if mode.setup then [] else record { task = task_at mode command wording expects; retry = mode.retry; agree = mode.agree } ∷ []
planned_at mode _ = []

-- the commands of each cycle that these lines give, where `mode` holds before them
abbrev pub planned_of : Mode → List TaskLine → List Planned
planned_of mode lines = given_by planned_at mode lines

-- the tasks that these lines give, where `mode` holds before them: those of the setup, and after them the attempts of the chains of the
-- cycle
abbrev pub tasks_of : Mode → List TaskLine → List Task
tasks_of mode lines = setup_of mode lines ++ laid_out (planned_of mode lines)

-- the name that a line gives a target, as a list of one; none if it is no line `name`
abbrev pub name_at : TaskLine → List Name
name_at (says.Naming name) = name ∷ []
name_at _ = []

-- the names that these lines give
abbrev pub names_of : List TaskLine → List Name
names_of lines = flat_map name_at lines

-- the place that a line gives a target, as a list of one; none if it is no line `near`
abbrev pub near_at : TaskLine → List Near
near_at (says.Locating near) = near ∷ []
near_at _ = []

-- the places that these lines give
abbrev pub nears_of : List TaskLine → List Near
nears_of lines = flat_map near_at lines

-- the target that a line leaves unwatched, as a list of one; none if it is no line `unwatched`
abbrev pub unwatched_at : TaskLine → List ℕ
unwatched_at (says.Unwatching target) = target ∷ []
unwatched_at _ = []

-- the targets that these lines leave unwatched
abbrev pub unwatched_of : List TaskLine → List ℕ
unwatched_of lines = flat_map unwatched_at lines

-- the description that a line gives of a procedure, as a list of one; none if it is no line `procedure`
abbrev pub described_at : TaskLine → List Description
described_at (says.Describing description) = description ∷ []
described_at _ = []

-- the descriptions of procedures that these lines give
abbrev pub described_of : List TaskLine → List Description
described_of lines = flat_map described_at lines

-- the new columns that a line adds to these
abbrev pub columns_at : List (ArrayVec ℕ) → TaskLine → List (ArrayVec ℕ)
columns_at columns (says.Describing description) = fresh_names columns description.values.items
columns_at columns _ = []

-- what decides, of the lines before a command, whether it may have an item `>`, and take values of files, by the mode there
abbrev pub standing_in : Mode → Standing
standing_in mode = record { counters = mode.counters; values = mode.values; setup = mode.setup }

-- before any line: no item `>`, no value of a file, and no setup
abbrev pub no_standing : Standing
no_standing = record { counters = 0; values = 0; setup = false }

-- this after a line, if it is `s` before it
abbrev pub standing_by : Standing → TaskLine → Standing
standing_by s (says.Command command wording expects) = record s { counters = counters_with s.counters expects; values = s.values + values_asked wording command.call }
standing_by s says.AtStart = record s { setup = true }
standing_by s says.EachCycle = record s { setup = false }
standing_by s (says.Every every) = record s { setup = false }
standing_by s _ = s

-- this after these lines
abbrev pub standing_after : Standing → List TaskLine → Standing
standing_after s [] = s
standing_after s (line ∷ later) = standing_after (standing_by s line) later

-- this after these lines of a text
abbrev pub standing_of : List TaskLine → Standing
standing_of lines = standing_after no_standing lines

-- these are the commands of the setup and of each cycle, the names and the places, the targets left unwatched, and the descriptions of
-- procedures with their new columns, that these lines give, where `first` holds before them
pub record LinesGave (first : Mode) (lines : List TaskLine) (given : Given) : Type 0 where
  pub setup_are : given.setup.items ≡ setup_of first lines
  pub cycle_are : given.cycle.items ≡ planned_of first lines
  pub names_are : given.names.items ≡ names_of lines
  pub nears_are : given.nears.items ≡ nears_of lines
  pub unwatched_are : given.unwatched.items ≡ unwatched_of lines
  pub described_are : given.described.items ≡ described_of lines
  pub columns_are : given.columns.items ≡ new_columns given.described.items

-- what lines gave grew from `old` to `new` by what one more line gives, where `mode` holds before it
pub record Grows (mode : Mode) (line : TaskLine) (old new : Given) : Type 0 where
  pub setup_more : new.setup.items ≡ old.setup.items ++ setup_at mode line
  pub cycle_more : new.cycle.items ≡ old.cycle.items ++ planned_at mode line
  pub names_more : new.names.items ≡ old.names.items ++ name_at line
  pub nears_more : new.nears.items ≡ old.nears.items ++ near_at line
  pub unwatched_more : new.unwatched.items ≡ old.unwatched.items ++ unwatched_at line
  pub described_more : new.described.items ≡ old.described.items ++ described_at line
  pub columns_more : new.columns.items ≡ old.columns.items ++ columns_at old.columns.items line

-- a list has no room for one more item, unless it grows
abbrev pub IsAtCapacity : {X Z : Type 0} → Vec X Z → Type 0
IsAtCapacity items = vec_capacity items ≤ vec_len items

-- a list has no room for 16 more items, unless it grows
abbrev pub IsNearCapacity : {X Z : Type 0} → Vec X Z → Type 0
IsNearCapacity items = vec_capacity items < vec_len items + 16

-- one of the lists of what lines gave has no room for one more item, or that of the columns none for the 16 of one more description,
-- unless it grows
abbrev pub HasFullList : Given → Type 0
HasFullList given =
    (IsAtCapacity given.setup ⊎ IsAtCapacity given.cycle)
    ⊎ (IsAtCapacity given.names ⊎ (IsAtCapacity given.nears ⊎ (IsAtCapacity given.unwatched ⊎ (IsAtCapacity given.described ⊎ IsNearCapacity given.columns))))

-- what lines gave grew from `old` to `new` by a description and its new columns
pub record GrowsByDescription (description : Description) (old new : Given) : Type 0 where
  pub setup_same : new.setup ≡ old.setup
  pub cycle_same : new.cycle ≡ old.cycle
  pub names_same : new.names ≡ old.names
  pub nears_same : new.nears ≡ old.nears
  pub unwatched_same : new.unwatched ≡ old.unwatched
  pub described_more : new.described.items ≡ old.described.items ++ description ∷ []
  pub columns_more : new.columns.items
      ≡ old.columns.items ++ fresh_names old.columns.items description.values.items

-- how the answers of what is asked for are read, if the table hasn't its procedure and one of these describes it
abbrev pub form_of_asked : List Description → Asked → Option Form
form_of_asked described (Table call) = None
form_of_asked described (Raw raw) = form_for raw.rpc described

-- a task with the place of its target: the first of `nears` that is of that target, and none where there is none. It is watched
-- unless its target is one of `unwatched` or it hasn't its turn in each cycle, and its answers have the form that `described` says
abbrev pub placed : List Near → (unwatched : List ℕ) → List Description → Task → Task
placed nears unwatched described task =
    record task {
      near = near_of task.command.target nears;
      watched = not (is_unwatched task.command.target unwatched) && nat_le task.every 1;
      form = form_of_asked described task.command.call;
    }

-- whether the answers of a task have a direction, by its call or by their form
abbrev pub gives_direction : Task → Bool
gives_direction task = asked_gives_direction task.command.call || form_gives_direction task.form

-- whether they have a distance
abbrev pub gives_distance : Task → Bool
gives_distance task = asked_gives_distance task.command.call || form_gives_distance task.form

-- whether the new columns among these fields and these columns are at most 64
abbrev pub has_room_for : (columns : List (ArrayVec ℕ)) → List Field → Bool
has_room_for columns fields = nat_le (length columns + length (fresh_names columns fields)) 64

-- whether a command that takes so many values of files may follow lines of which this holds: one of the setup takes none, and the text has
-- at most 16
abbrev pub may_take : Standing → (values : ℕ) → Bool
may_take s values = (values == 0) || (not s.setup && nat_le (s.values + values) FILE_VALUES)

-- whether a line may follow lines that gave these names and places, left these targets unwatched, described these procedures, and of which
-- `s` holds: a name only where there are fewer than 64 names and its target has none, a place only where there are fewer than 64 places and
-- its target has none, a line `unwatched` only where fewer than 64 targets are unwatched and its target isn't one of them, a description only
-- where there are fewer than 16, none is of its procedure, with its new columns there are at most 64, and the columns that it shares with
-- those are of one sort, a command with an item `>` only where there are fewer than 16, one that takes values of files only in a cycle and
-- where these are 16 at most, and any other line always
abbrev pub may_follow : List Name → List Near → (unwatched : List ℕ) → List Description → Standing → TaskLine → Bool
may_follow names nears unwatched described s (says.Naming name) = nat_lt (length names) 64 && not (is_named name.target names)
may_follow names nears unwatched described s (says.Locating near) = nat_lt (length nears) 64 && not (has_near near.target nears)
may_follow names nears unwatched described s (says.Unwatching target) = nat_lt (length unwatched) 64 && not (is_unwatched target unwatched)
may_follow names nears unwatched described s (says.Describing d) =
    nat_lt (length described) 16 && not (is_described d.rpc described) && has_room_for (new_columns described) d.values.items
    && are_of_one_sort described d.values.items
may_follow names nears unwatched described s (says.Command command wording expects) =
    (nat_lt s.counters 16 || not (counts expects)) && may_take s (values_asked wording command.call)
may_follow names nears unwatched described s _ = true

-- a described procedure may be asked for with the parameters of this request: they are of the kinds that the description says, and so they are
-- with a number in the place of each value of a file, if there is any, which has its form then; the request with these numbers may be asked
-- for
pub record IsTaken (description : Description) (raw : RawCall) : Type 0 where
  pub sample : RawCall
  pub values : List Value
  pub are : AreOfKinds (kinds_asked description) (raw_bytes sample.params) values
  pub is : ((values_in (raw_bytes raw.params) ≡ 0) × (sample ≡ raw))
      ⊎ ((0 < values_in (raw_bytes raw.params)) × AreValueFiles (value_items (raw_bytes raw.params)) × (sampled raw ≡ Some sample))

-- what is asked for is a procedure that one of these describes, with parameters that it may be asked for with
pub record IsFitting (described : List Description) (asked : Asked) : Type 0 where
  pub raw : RawCall
  pub asked_is : asked ≡ Raw raw
  pub description : Description
  pub found : described_as raw.rpc described ≡ Some description
  pub taken : IsTaken description raw

-- a line in the wording of a described procedure asks for one, with parameters of the kinds that its description says (`IsFitting`)
abbrev pub Fits : List Description → TaskLine → Type 0
Fits described (says.Command command Described expects) = IsFitting described command.call
Fits described _ = Unit {0}

-- a line may be where it is, behind lines that gave this: it may follow them (`may_follow`), and fits the descriptions among them (`Fits`)
pub record IsInPlace (names : List Name) (nears : List Near) (unwatched : List ℕ) (described : List Description) (s : Standing) (line : TaskLine) : Type 0 where
  pub follows : may_follow names nears unwatched described s line ≡ true
  pub fits : Fits described line

-- each of these lines is in its place (`IsInPlace`) behind these names, places, unwatched targets and descriptions, lines of which `s` holds,
-- and what the lines before it give of them
abbrev pub MayFollow : List Name → List Near → (unwatched : List ℕ) → List Description → Standing → List TaskLine → Type 0
MayFollow names nears unwatched described s [] = Unit {0}
MayFollow names nears unwatched described s (line ∷ later) =
    IsInPlace names nears unwatched described s line
    × MayFollow (names ++ name_at line) (nears ++ near_at line) (unwatched ++ unwatched_at line) (described ++ described_at line) (standing_by s line) later

-- a station's text may have these lines, and those that aren't skipped say this: each has its form, and may follow those before it
pub record AreTaskLines (lines : List (List ℕ)) (said : List TaskLine) : Type 0 where
  pub forms : AreLinesOf IsTaskLine (filter is_kept lines) said
  pub follow : MayFollow [] [] [] [] no_standing said

-- what a station's text gives: its tasks, of which the first `setup` are the setup, the names of targets, where targets are,
-- which targets aren't watched, the descriptions of procedures outside the table, and the names of the columns that these add
pub record TasksSeen : Type 0 where
  pub setup : ℕ
  pub tasks : List Task
  pub names : List Name
  pub nears : List Near
  pub unwatched : List ℕ
  pub described : List Description
  pub columns : List (ArrayVec ℕ)

-- tasks of the code as `TasksSeen`: each of their lists by its items
abbrev pub tasks_seen : Tasks → TasksSeen
tasks_seen all =
    record {
      setup = all.setup;
      tasks = all.tasks.items;
      names = all.names.items;
      nears = all.nears.items;
      unwatched = all.unwatched.items;
      described = all.described.items;
      columns = all.columns.items;
    }

-- the text gives these tasks, names, places, unwatched targets and descriptions. Before any line the deadline is `deadline`, and commands
-- are chained where `chained` says so. A place holds for all tasks of its target, wherever its line is, so does a line `unwatched`, and a
-- description for all of its procedure
pub record IsTasks (text : List ℕ) (deadline : ℕ) (chained : Bool) (all : TasksSeen) : Type 0 where
  pub said : List TaskLine
  pub lines : AreTaskLines (text_lines text) said
  pub tasks_are : all.tasks ≡ map (placed all.nears all.unwatched all.described) (tasks_of (first_mode deadline chained) said)
  pub setup_is : all.setup ≡ length (setup_of (first_mode deadline chained) said)
  pub names_are : all.names ≡ names_of said
  pub nears_are : all.nears ≡ nears_of said
  pub unwatched_are : all.unwatched ≡ unwatched_of said
  pub described_are : all.described ≡ described_of said
  pub columns_are : all.columns ≡ new_columns all.described

-- line number n of a station's text, counted from 1, is the first faulty one: it isn't skipped, and it has no form, or has one
-- and may not be behind those before it (`IsInPlace`)
pub record FirstFaultyTaskLine (text : List ℕ) (n : ℕ) : Type 0 where
  pub front : List (List ℕ)
  pub line : List ℕ
  pub here : HasKeptLine text front line
  pub place : n ≡ length front + 1
  pub before : List TaskLine
  pub lines : AreTaskLines front before
  pub faulty : (said : TaskLine) → IsTaskLine line said
      → IsInPlace (names_of before) (nears_of before) (unwatched_of before) (described_of before) (standing_of before) said → ⊥

-- the text has a line that isn't skipped, has a form and may follow the lines before it, and none of these is faulty: a reader
-- comes to such a line, and memory may be refused there
pub record ReachesASoundTaskLine (text : List ℕ) : Type 0 where
  pub front : List (List ℕ)
  pub line : List ℕ
  pub here : HasKeptLine text front line
  pub before : List TaskLine
  pub lines : AreTaskLines front before
  pub said : TaskLine
  pub form : IsTaskLine line said
  pub allowed : IsInPlace (names_of before) (nears_of before) (unwatched_of before) (described_of before) (standing_of before) said

-- why the reading of a station's text gave no tasks (`TextFaultBy`)
abbrev pub TaskFault : List ℕ → RunFault → Type 0
TaskFault text fault = TextFaultBy FirstFaultyTaskLine ReachesASoundTaskLine text fault

-- what a command asks for whose request is made anew on this occasion, and of which the text has this: that the clock be set to the moment, as
-- `date_time` has it; or a described procedure with the values of files from number `first` on in the places of those among its parameters
abbrev pub made_at : (first : ℕ) → Occasion → Asked → Asked
made_at first occasion (Table call) = Table (SetDate (date_time occasion.utc))
made_at first occasion (Raw raw) = Raw (filled_call raw (drop first occasion.values))

-- what a task asks for when it is sent on this occasion: what its command asks for; or, where the task's `now` is true, what is made of that
-- then
abbrev pub call_at : Task → Occasion → Asked
call_at task occasion = if task.now then made_at task.needs.first occasion task.command.call else task.command.call
