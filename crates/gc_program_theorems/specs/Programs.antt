-- What a command line that asks for a station brings about, from the words to the rows: this project's own. `traces` is what was noted of
-- a run of the program, and `status` is its exit status.
use Rattle.gc_program_theorems.specs.Common.{AllByRecursion, UnderWay, AnyState, OfAnyInstrument, IsInField, IsRunFaithful, Ends, IsInHarmedField, IsRunLocal, HarmedStretch, IsFront, asks_sync, KeptReply, Act, labels_of, front_text, most_turns, survey_of, HasTasks, acts_noted, began_noted, Stop, path_of, are_open, Followed, ForEachReadings, Reads, Tally, IsTasks, TasksSeen, Layout, Settings}
use Rattle.std.specs.Prelude.{◌≡◌, ◌⊎◌, ℕ, Bool, List, [], ◌∷◌, Option, Some, None, Result, Ok, Err, true, IfSome}
use Rattle.std.specs.declared.io.ErrorKind.{ErrorKind}
use Rattle.gc_console.specs.Prelude.{DoesProgram, ActsAt, HasNoRun, Seeing, rows_noted, Opening, IsJobOfWords}
use Rattle.gc_console.specs.declared.traces.Traces.{Traces}
use Rattle.gc_files.specs.declared.past.Past.{Past}
use Rattle.gc_logs.specs.declared.standard.Standard.{Standard}
use Rattle.gc_options.specs.declared.choice.Choice.{Choice}
use Rattle.gc_options.specs.Prelude.{begun_at, for_file, with_status_line}
use Rattle.gc_options.specs.declared.site.Recording.{Recording}
use Rattle.gc_options.specs.declared.site.Site.{Site}
use Rattle.gc_program_theorems.specs.Fields.{IsPlain}
use Rattle.gc_program_theorems.specs.Damaged.{AreFewByDamagedLines, HarmedRun, HasObjectsOwnOrDamaged, HasRowsOwnOrDamaged, HasTableOwnOrDamaged, harmed_program_of, own_or_damaged_lines}
use Rattle.gc_program_theorems.specs.Lasting.{IsReached, IsRunOfFile, IsSeen, OutlastsCrashes, OutlastsFailures, RunMoment}
use Rattle.gc_program_theorems.specs.Left.{LeavesObjects, LeavesTable}
use Rattle.gc_program_theorems.specs.Objects.{HasOwnObjects}
use Rattle.gc_program_theorems.specs.Rows.{IsOwnIfAnswered}
use Rattle.gc_program_theorems.specs.Tables.{FieldRun, HasOwnTable, IsStationRun, StationRun, acts_in, own_lines, program_of, records_of_run, table_form}
use Rattle.gc_theorems.specs.Beginnings as field
use Rattle.gc_console.specs.declared.words.ClientJob.TheVariants as client
use Rattle.gc_console.specs.declared.words.Job.TheVariants as job

-- The run of a station.

-- all bytes that were appended to a file, as was noted of it, if there was one
abbrev pub appended_noted : Option Past → Option (List ℕ)
appended_noted None = None
appended_noted (Some past) = rows_noted past

-- the bytes that a station wrote of its records: those that its output took, or, if it appends them to a file, those that were appended to
-- the file
abbrev pub written_by : Option Recording → Traces → Option (List ℕ)
written_by None traces = Some traces.told.bytes
written_by (Some recording) traces = appended_noted traces.acted.file

-- a station wrote nowhere else: without a file of records there is no file, and with one its output took nothing
abbrev pub WritesThereAlone : Option Recording → Traces → Type 0
WritesThereAlone None traces = traces.acted.file ≡ None
WritesThereAlone (Some recording) traces = traces.told.bytes ≡ []

-- the settings by which a station runs that was asked for with the settings `station`: at a terminal with a status line, and with the rows
-- of a file if its records are appended to one
abbrev pub settings_for : Standard → (station : Settings) → Option Recording → Settings
settings_for standard station None = with_status_line standard.terminal station
settings_for standard station (Some recording) = for_file (with_status_line standard.terminal station)

-- the status of a run that ended so: 0 if all of it is done or its end was asked for, else 1
abbrev pub status_of : Result Tally Stop → ℕ
status_of (Ok tally) = 0
status_of (Err stop) = 1

-- the program ran the station that was asked for at this site, with these settings and these records, and `run` is that run. Its tasks
-- are those of exactly the text that the reads of standard input gave, and its acts are those that the link recorded, which are what the
-- system's calls did at the site's place (`ActsAt`). It wrote its records on an output or into a file that had taken nothing before, and
-- what that took is exactly what is noted of it (`written_by`); and it wrote nowhere else. At each act link and output were seen as is
-- noted. The status says how the run ended (`status_of`)
pub record IsRunOfProgram (standard : Standard) (site : Site) (station : Settings) (recording : Option Recording) (traces : Traces) (status : ℕ)
    (run : StationRun) : Type 0 where
  pub all : TasksSeen
  pub tasks : HasTasks traces.heard.bytes station.choice all
  pub began : ℕ
  pub is_began : began_noted traces.acted.link ≡ Some began
  pub survey : run.survey ≡ survey_of (begun_at began (settings_for standard station recording)) most_turns all
  pub is_run : IsStationRun run
  -- the answers to a call of the table are read without a form
  pub plain : AllByRecursion (λ task. IsPlain task.form task.command.call) run.survey.tasks
  pub acts : acts_noted traces.acted.link ≡ Some run.recorded
  pub place : ActsAt site traces.acted
  pub fresh : run.old.taken ≡ Some []
  pub rows : run.new.taken ≡ written_by recording traces
  pub alone : WritesThereAlone recording traces
  pub unseen : run.old.turns ≡ []
  pub turns : run.new.turns ≡ traces.acted.kept.turns
  pub ends : status ≡ status_of run.result

-- these words, of which `texts` gives the texts, were read, and ask for a station at this site, with these settings and these records; and
-- the standard streams were open
pub record AskForStation {A X : Type 0} (standard : Standard) (texts : A → List (List ℕ)) (words : Result A X) (site : Site) (station : Settings)
    (recording : Option Recording) : Type 0 where
  pub args : A
  pub read : words ≡ Ok args
  pub asked : IsJobOfWords (texts args) (job.Client (client.Station site station recording))
  pub streams : are_open standard ≡ true

-- What is true of a run.

-- this run in the field, with this in flight at its start, and on whose line this happened. Its sink had taken nothing before
abbrev pub field_run : {State : Type 0} → StationRun → (in_flight : UnderWay State) → (happened : List (field.Run State)) → FieldRun State
field_run run in_flight happened = record { run = run; had = []; in_flight = in_flight; happened = happened }

-- `Holds` is true of this run in the field: of any instrument, whatever was in flight at its start, and whatever the line and the
-- instrument did meanwhile (`IsInField`), where `reads` gives what replies say of their calls
abbrev pub HoldsInField : {State : Type 0} → StationRun → (Ends State → (State → Option KeptReply) → Reads → FieldRun State → Type 0) → Type 0
HoldsInField {State = State} run Holds =
    OfAnyInstrument {State = State} (λ ends Good kept. ForEachReadings (λ reads. (in_flight : UnderWay State) (happened : List (field.Run State))
    → IsInField ends AnyState kept in_flight (program_of run.survey reads (acts_in run) happened) → Holds ends kept reads (field_run run in_flight happened)))

-- this run over a line that damages, with this in flight at its start, and on whose line this happened. Its sink had taken nothing before
abbrev pub harmed_run : {State : Type 0} → StationRun → (in_flight : UnderWay State) → (happened : List (HarmedStretch State)) → HarmedRun State
harmed_run run in_flight happened = record { run = run; had = []; in_flight = in_flight; happened = happened }

-- `Holds` is true of this run over a line that damages (`IsInHarmedField`): of any instrument, whatever was in flight at its start, and
-- whatever the line and the instrument did meanwhile, where `reads` gives what replies say of their calls
abbrev pub HoldsOverDamage : {State : Type 0} → StationRun → (Ends State → (State → Option KeptReply) → Reads → HarmedRun State → Type 0) → Type 0
HoldsOverDamage {State = State} run Holds =
    OfAnyInstrument {State = State} (λ ends Good kept. ForEachReadings (λ reads. (in_flight : UnderWay State) (happened : List (HarmedStretch State))
    → IsInHarmedField ends AnyState kept in_flight (harmed_program_of run.survey reads (acts_in run) happened) → Holds ends kept reads (harmed_run run in_flight happened)))

-- if run `x` in the field is written as a table, the row of each of its records whose command a reply in time ended is its own
-- (`IsOwnIfAnswered`), however much of it was written
abbrev pub HasOwnRows : {State : Type 0} → Ends State → (kept : State → Option KeptReply) → (reads : Reads) → FieldRun State → Type 0
HasOwnRows ends kept reads x =
    (columns : Bool) → x.run.survey.layout.form ≡ table_form columns
    → AllByRecursion (IsOwnIfAnswered ends AnyState kept x.run.survey.layout x.run.survey.labels x.in_flight (program_of x.run.survey reads (acts_in x.run) x.happened))
    (records_of_run reads x.run)

-- what the laws say of a run of a station: in the field it is faithful, and what it wrote is its own table or its own objects, each row
-- its own; over a line that damages each of its stretches is local, each row or object is by a line that is own or damaged, and no more
-- are by damaged lines than such lines came
pub record HasTrueRows (State : Type 0) (run : StationRun) : Type 0 where
  pub faithful : HoldsInField {State = State} run (λ ends kept reads x. IsRunFaithful ends AnyState kept x.in_flight (program_of run.survey reads (acts_in run) x.happened))
  pub table : HoldsInField {State = State} run (λ ends kept reads x. HasOwnTable ends kept reads x)
  pub objects : HoldsInField {State = State} run (λ ends kept reads x. HasOwnObjects ends kept reads x)
  pub records : HoldsInField {State = State} run (λ ends kept reads x. HasOwnRows ends kept reads x)
  pub local : HoldsOverDamage {State = State} run (λ ends kept reads x. IsRunLocal ends AnyState kept (harmed_program_of run.survey reads (acts_in run) x.happened))
  pub damaged_table : HoldsOverDamage {State = State} run (λ ends kept reads x. HasTableOwnOrDamaged ends reads x)
  pub damaged_objects : HoldsOverDamage {State = State} run (λ ends kept reads x. HasObjectsOwnOrDamaged ends reads x)
  pub damaged_records : HoldsOverDamage {State = State} run (λ ends kept reads x. HasRowsOwnOrDamaged ends reads x)
  pub few : HoldsOverDamage {State = State} run (λ ends kept reads x. AreFewByDamagedLines ends reads x)

-- a moment of this run of this file, seen at one of its acts. As it was then, the file syncs if it does so in the end: no call changes that
pub record IsMomentOf {R : Type 0} (run : StationRun) (file : Followed R) (m : RunMoment R) : Type 0 where
  pub is_run : m.run ≡ run
  pub is_file : m.file ≡ file
  pub same : asks_sync m.was.rows ≡ asks_sync file.rows
  pub seen : IsSeen m
  pub reached : IsReached m

-- what the laws say of a run of a station with this recording: it is a run of a file at the recording's path (`IsRunOfFile`), which syncs
-- exactly if the recording asks for that; if it does, then at each of the run's moments all rows that were settled by then outlast crashes
-- of the machine and failed syncs; and what is left of them are whole rows or objects, each its own, or, over a line that damages, by a line
-- that is own or damaged
pub record HasLastingRows (R State : Type 0) (run : StationRun) (recording : Recording) : Type 0 where
  pub file : Followed R
  pub is_of : IsRunOfFile run file
  pub at : path_of file ≡ recording.path.now
  pub syncs : asks_sync file.rows ≡ recording.sync
  pub crashes : recording.sync ≡ true → (m : RunMoment R) → IsMomentOf run file m → OutlastsCrashes m
  pub failures : recording.sync ≡ true → (m : RunMoment R) → IsMomentOf run file m → OutlastsFailures m
  pub table : HoldsInField {State = State} run (λ ends kept reads x. LeavesTable R (own_lines ends AnyState kept reads x) reads run)
  pub objects : HoldsInField {State = State} run (λ ends kept reads x. LeavesObjects R (own_lines ends AnyState kept reads x) reads run)
  pub damaged_table : HoldsOverDamage {State = State} run (λ ends kept reads x. LeavesTable R (own_or_damaged_lines ends reads x) reads run)
  pub damaged_objects : HoldsOverDamage {State = State} run (λ ends kept reads x. LeavesObjects R (own_or_damaged_lines ends reads x) reads run)

-- these words asked for a station, and the program ran it (`IsRunOfProgram`). It read all that standard input gives, where that is known.
-- The run's rows are true (`HasTrueRows`), and those of a recording last (`HasLastingRows`)
pub record RunsStation (R State : Type 0) {A X : Type 0} (standard : Standard) (begun : Opening) (texts : A → List (List ℕ)) (words : Result A X) (traces : Traces)
    (status : ℕ) : Type 0 where
  pub site : Site
  pub station : Settings
  pub recording : Option Recording
  pub asked : AskForStation standard texts words site station recording
  pub input : IfSome begun.remaining (λ bytes. traces.heard.bytes ≡ bytes)
  pub run : StationRun
  pub is : IsRunOfProgram standard site station recording traces status run
  pub rows : HasTrueRows State run
  pub lasting : IfSome recording (λ recording. HasLastingRows R State run recording)

-- if a link made any act, in what the program did by its words (`DoesProgram`), the words asked for a station, and of the run of that
-- station all laws hold (`RunsStation`)
abbrev pub ProgramsAreFaithful : {S T R K E M : Type 0} → Seeing S T (Followed R) K M → (shown : E → Option (List ℕ)) → (A X State : Type 0) → Type 0
ProgramsAreFaithful {R = R} seeing shown A X State =
    (standard : Standard) (begun : Opening) (texts : A → List (List ℕ)) (kind : X → ErrorKind) (words : Result A X) (traces : Traces)
    (status : ℕ) → DoesProgram seeing shown standard begun texts kind words traces status → (act : Act) (acts : List Act) → acts_noted traces.acted.link ≡ Some (act ∷ acts)
    → RunsStation R State standard begun texts words traces status

-- these are a front of what comes before the rows in this layout: of a table, the header with the columns of a text, which has these tasks
-- for a station with this choice; without a text, the header without further columns
pub record IsFrontOfHead (layout : Layout) (choice : Choice) (bytes : List ℕ) : Type 0 where
  pub columns : List (List ℕ)
  pub of_text : (columns ≡ []) ⊎ ((text : List ℕ) × (all : TasksSeen) × IsTasks text choice.deadline choice.chained all × (columns ≡ (labels_of all).columns))
  pub front : IsFront bytes (front_text layout columns)

-- these words asked for a station, and it wrote no row: what it wrote, if it came so far, is at most a front of what comes before the rows,
-- the header of a table on the output; to a file nothing was appended after its opening, which may have written the header of its table
pub record WritesNoRow {A X : Type 0} (standard : Standard) (texts : A → List (List ℕ)) (words : Result A X) (traces : Traces) : Type 0 where
  pub site : Site
  pub station : Settings
  pub recording : Option Recording
  pub asked : AskForStation standard texts words site station recording
  pub front : (bytes : List ℕ) → written_by recording traces ≡ Some bytes → IsFrontOfHead (settings_for standard station recording).layout (settings_for standard station recording).choice bytes
  pub alone : WritesThereAlone recording traces

-- if no link made an act, in what the program did by its words (`DoesProgram`), no station ran, and there was no file (`HasNoRun`); or the
-- words asked for a station, which wrote no row (`WritesNoRow`)
abbrev pub ProgramsWithoutActsWriteNoRow : {S T R K E M : Type 0} → Seeing S T (Followed R) K M → (shown : E → Option (List ℕ)) → (A X : Type 0) → Type 0
ProgramsWithoutActsWriteNoRow seeing shown A X =
    (standard : Standard) (begun : Opening) (texts : A → List (List ℕ)) (kind : X → ErrorKind) (words : Result A X) (traces : Traces)
    (status : ℕ) → DoesProgram seeing shown standard begun texts kind words traces status → ((act : Act) (acts : List Act) → acts_noted traces.acted.link ≡ Some (act ∷ acts) → ⊥)
    → HasNoRun traces.acted ⊎ WritesNoRow standard texts words traces
