-- What a station wrote of a run, as it is read: this project's own. The bytes are those that a sink took of a run, as the clauses
-- of `measure_at` and `append_at` have it: what comes before the records, and their texts in order. A part is what a station sees
-- of its run from one synchronization to the next, and a stretch what happens on the line meanwhile, once it has synchronized.
use Rattle.gc_program_theorems.specs.Common.{KeptReply, header, Form, Csv, Columns, Act, parts, Part, Record, state_after, ForEachReadings, Reads, Scope, watched_of, Tally, AreSound, Survey, PortsSeen, RunsAfterFront, text_by, Stop, Ends, UnderWay, AnyState, OfAnyInstrument, IsInField, IsItsOwn, Program, stretches}
use Rattle.std.specs.Prelude.{◌≡◌, ℕ, ◌-◌, ◌<◌, Bool, true, false, List, [], ◌∷◌, ◌++◌, length, take, Option, Some, Result, Err, if◌then◌else◌, slice_get}
use Rattle.csv.specs.Reading.{default_config, records}
use Rattle.gc_texts.specs.declared.fault.RunFault.TheVariants.{Output}
use Rattle.gc_measuring.specs.declared.stop.Stop.TheVariants.{Run}
use Rattle.gc_program_theorems.specs.Fields.{under, IsRowBy}
use Rattle.gc_theorems.specs.Beginnings as field

-- A run.

-- the scope of a run of this survey: at most how many acts it makes, what is watched, and what each reply says of its call
abbrev pub scope_of : Survey → Reads → Scope
scope_of survey reads = record { turns = survey.max_turns; watched = watched_of survey.plan.setup survey.tasks; reads = reads }

-- the acts of a run, among those that its link recorded: all but the close after an output that failed
abbrev pub acts_measured : Result Tally Stop → List Act → List Act
acts_measured (Err (Run Output)) recorded = take (length recorded - 1) recorded
acts_measured _ recorded = recorded

-- the records of a run by these acts
abbrev pub records_in : Survey → Reads → List Act → List Record
records_in survey reads acts = (state_after survey.plan survey.tasks (scope_of survey reads) acts).records

-- the parts of a run by these acts
abbrev pub parts_in : Survey → Reads → List Act → List Part
parts_in survey reads acts = parts survey.plan survey.tasks (scope_of survey reads) acts

-- a run of this survey by these acts, on whose line this happened, as a program
abbrev pub program_of : {State : Type 0} → Survey → Reads → List Act → List (field.Run State) → Program State
program_of survey reads acts happened = record { plan = survey.plan; commands = survey.tasks; scope = scope_of survey reads; acts = acts; runs = happened }

-- a run of a station: what it measures, what was seen of its ports at its start and at its end, how it ended, and the acts that
-- its link recorded
pub record StationRun : Type 0 where
  pub survey : Survey
  pub old : PortsSeen
  pub new : PortsSeen
  pub result : Result Tally Stop
  pub recorded : List Act

-- the run is one as the contract of a station has it (`RunsAfterFront`), its labels are as those of a text are, and its link had recorded no
-- act before
pub record IsStationRun (run : StationRun) : Type 0 where
  pub labels : AreSound run.survey.labels
  pub none : run.old.acts ≡ Some []
  pub acts : run.new.acts ≡ Some run.recorded
  pub ran : RunsAfterFront run.survey run.old run.new run.result

-- the acts of a run, but for the close after an output that failed (`acts_measured`)
abbrev pub acts_in : StationRun → List Act
acts_in run = acts_measured run.result run.recorded

-- the records of a run, where `reads` gives what replies say of their calls
abbrev pub records_of_run : Reads → StationRun → List Record
records_of_run reads run = records_in run.survey reads (acts_in run)

-- the parts of a run
abbrev pub parts_of_run : Reads → StationRun → List Part
parts_of_run reads run = parts_in run.survey reads (acts_in run)

-- a run of a station in the field, with the bytes that its sink had before, what was in flight at its start, and what happened
-- from there on, from one synchronization to the next
pub record FieldRun (State : Type 0) : Type 0 where
  pub run : StationRun
  pub had : List ℕ
  pub in_flight : UnderWay State
  pub happened : List (field.Run State)

-- where `reads` gives what replies say of their calls, the run is one of a station (`IsStationRun`), and one in the field
-- (`IsInField`). Its sink had taken the bytes `had` before
pub record IsFieldRun {State : Type 0} (ends : Ends State) (kept : State → Option KeptReply) (reads : Reads) (x : FieldRun State) : Type 0 where
  pub is_run : IsStationRun x.run
  pub took : x.run.old.taken ≡ Some x.had
  pub in_field : IsInField ends AnyState kept x.in_flight (program_of x.run.survey reads (acts_in x.run) x.happened)

-- `Holds` is true of each run of a station in the field (`IsFieldRun`): for any instrument, where `reads` gives what replies say
-- of their calls (`AreReadings`), all that a station measures and writes, and all that the line and the instrument may do
-- meanwhile
abbrev pub OfEachFieldRun : {State : Type 0} → (Ends State → (State → Option KeptReply) → Reads → FieldRun State → Type 0) → Type 0
OfEachFieldRun {State = State} Holds =
    OfAnyInstrument {State = State} (λ ends Good kept. ForEachReadings (λ reads. (x : FieldRun State) → IsFieldRun ends kept reads x → Holds ends kept reads x))

-- What a sink took.

-- these bytes are a front of the text of the first of these records, maybe empty, but not all of the text; if there is no record,
-- they are empty
abbrev pub IsPartOfNext : (Record → List ℕ) → List Record → List ℕ → Type 0
IsPartOfNext text [] torn = torn ≡ []
IsPartOfNext text (next ∷ later) torn = (rest : List ℕ) × (text next ≡ torn ++ rest) × (0 < length rest)

-- the records of a run that were written whole, and the bytes that were written after these (`torn`): all records were written,
-- unless the output failed; then `torn` is a part of the next one
pub record AreWritten (text : Record → List ℕ) (records : List Record) (result : Result Tally Stop) (torn : List ℕ) : Type 0 where
  pub written : List Record
  pub unwritten : List Record
  pub order : records ≡ written ++ unwritten
  pub all : (result ≡ Err (Run Output) → ⊥) → unwritten ≡ []
  pub part : IsPartOfNext text unwritten torn

-- `AreWritten` holds of the records of a run, where `reads` gives what replies say of their calls
abbrev pub AreWrittenIn : (reads : Reads) → StationRun → (torn : List ℕ) → Type 0
AreWrittenIn reads run torn = AreWritten (text_by run.survey) (records_of_run reads run) run.result torn

-- these are records, one for one and in order: each of `xs` has the relation `Is` to the record at its place
pub record AreOneForOne {X : Type 0} (Is : (place : ℕ) → X → Record → Type 0) (xs : List X) (records : List Record) : Type 0 where
  pub as_many : length xs ≡ length records
  pub each : (n : ℕ) (x : X) → slice_get xs n ≡ Some x → (r : Record) × (slice_get records n ≡ Some r) × Is n x r

-- which lines may have answered the command of the record at a place among those of a run
abbrev pub Answers : Type 1
Answers = (place : ℕ) → Record → (line : List ℕ) → Type 0

-- in a run in the field: those that are the record's own (`IsItsOwn`)
abbrev pub own_lines : {State : Type 0} → Ends State → (Good : State → Type 0) → (kept : State → Option KeptReply) → (reads : Reads) → FieldRun State → Answers
own_lines ends Good kept reads x place r line = IsItsOwn ends Good kept x.run.survey.tasks (parts_of_run reads x.run) (stretches ends x.in_flight x.happened) r line

-- Tables.

-- the form of a table, with a column for each quantity (true) or without these columns (false)
abbrev pub table_form : Bool → Form
table_form false = Csv
table_form true = Columns

-- the rows that the header is: one; or none if the output has its header already (`headed`)
abbrev pub head_rows : Survey → Bool → List (List (List ℕ))
head_rows survey columns = if survey.layout.headed then [] else header columns survey.labels.columns ∷ []

-- the toolchain's reader of comma-separated values gives these rows of these bytes, and reads on after them as at the start of
-- a text
abbrev pub AreReadAs : List ℕ → List (List (List ℕ)) → Type 0
AreReadAs bytes rows = (behind : List ℕ) → records default_config (bytes ++ behind) ≡ rows ++ records default_config behind

-- what the sink of a run took, after what it had: a table, whose rows after the header are the run's records as far as these were
-- written (`AreWrittenIn`), one for one and in order, each by a line that may have answered it
pub record IsTable (CanAnswer : Answers) (columns : Bool) (reads : Reads) (run : StationRun) (had : List ℕ) : Type 0 where
  pub bytes : List ℕ
  pub torn : List ℕ
  pub took : run.new.taken ≡ Some (had ++ (bytes ++ torn))
  pub are : AreWrittenIn reads run torn
  pub rows : List (List (List ℕ))
  pub reads_as : AreReadAs bytes (head_rows run.survey columns ++ rows)
  -- also in a file of --append: after earlier bytes, which a reader takes for `earlier`, it goes on with the table's rows
  pub behind : (held : List ℕ) (earlier : List (List (List ℕ))) → AreReadAs held earlier → AreReadAs (held ++ bytes) (earlier ++ (head_rows run.survey columns ++ rows))
  pub one_for_one : AreOneForOne (λ n row r. IsRowBy (CanAnswer n r) columns (λ name. under name (header columns run.survey.labels.columns) row) run.survey (scope_of run.survey reads) (acts_in run) r) rows are.written

-- what the sink of run `x` took is a table, each row of which is its own
abbrev pub IsOwnTable : {State : Type 0} → Ends State → (Good : State → Type 0) → (kept : State → Option KeptReply) → (columns : Bool) → (reads : Reads) → FieldRun State → Type 0
IsOwnTable ends Good kept columns reads x = IsTable (own_lines ends Good kept reads x) columns reads x.run x.had

-- if run `x` is written as a table, what its sink took is its own table
abbrev pub HasOwnTable : {State : Type 0} → Ends State → (kept : State → Option KeptReply) → (reads : Reads) → FieldRun State → Type 0
HasOwnTable ends kept reads x = (columns : Bool) → x.run.survey.layout.form ≡ table_form columns → IsOwnTable ends AnyState kept columns reads x

-- what a sink took of a run in the field is the run's own table, of each run that is written as a table (`OfEachFieldRun`)
abbrev pub TablesAreTheirOwn : Type 0 → Type 0
TablesAreTheirOwn State = OfEachFieldRun {State = State} (λ ends kept reads x. HasOwnTable ends kept reads x)
