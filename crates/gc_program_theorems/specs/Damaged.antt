-- What a station wrote of a run over a line that damages, as it is read: this project's own. It is a table, or lines of JSON, as of a
-- run in the field (`Tables`, `Objects`); but the line that answered a record is own or damaged (`HasItsAnswer` of gc_theorems).
use Rattle.gc_program_theorems.specs.Common.{AllByRecursion, KeptReply, Json, Act, line_of, Record, form_at, ForEachReadings, Reads, CameAt, Survey, Ends, UnderWay, AnyState, OfAnyInstrument, TreatsRawsAlike, AreFewRecordsByDamagedLines, AreOfTable, HarmedProgram, HasItsAnswer, IsInHarmedField, sent_until, HarmedStretch, HasDamageApart, undamaged_stretches}
use Rattle.std.specs.Prelude.{◌≡◌, ◌⊎◌, ℕ, Bool, List, Option, Some, slice_get}
use Rattle.gc_program_theorems.specs.Objects.{AreObjects, AreTyped}
use Rattle.gc_program_theorems.specs.Rows.{IsRowOfReply, SayFault}
use Rattle.gc_program_theorems.specs.Tables.{Answers, FieldRun, IsStationRun, IsTable, OfEachFieldRun, StationRun, acts_in, parts_of_run, records_of_run, scope_of, table_form}

-- a run of a station over a line that damages, with the bytes that its sink had before, what was in flight at its start, and what
-- happened from there on, stretch by stretch
pub record HarmedRun (State : Type 0) : Type 0 where
  pub run : StationRun
  pub had : List ℕ
  pub in_flight : UnderWay State
  pub happened : List (HarmedStretch State)

-- a run of this survey by these acts, on whose line this happened, as a program
abbrev pub harmed_program_of : {State : Type 0} → Survey → Reads → List Act → List (HarmedStretch State) → HarmedProgram State
harmed_program_of survey reads acts happened = record { plan = survey.plan; commands = survey.tasks; scope = scope_of survey reads; acts = acts; stretches = happened }

-- where `reads` gives what replies say of their calls, the run is one of a station (`IsStationRun`), and one over a line that damages
-- (`IsInHarmedField`). Its sink had taken the bytes `had` before
pub record IsHarmedRun {State : Type 0} (ends : Ends State) (kept : State → Option KeptReply) (reads : Reads) (x : HarmedRun State) : Type 0 where
  pub is_run : IsStationRun x.run
  pub took : x.run.old.taken ≡ Some x.had
  pub in_field : IsInHarmedField ends AnyState kept x.in_flight (harmed_program_of x.run.survey reads (acts_in x.run) x.happened)

-- `Holds` is true of each run of a station over a line that damages (`IsHarmedRun`): for any instrument, where `reads` gives what replies
-- say of their calls (`AreReadings`), all that a station measures and writes, and all that the line and the instrument may do meanwhile
abbrev pub OfEachHarmedRun : {State : Type 0} → (Ends State → (State → Option KeptReply) → Reads → HarmedRun State → Type 0) → Type 0
OfEachHarmedRun {State = State} Holds =
    OfAnyInstrument {State = State} (λ ends Good kept. ForEachReadings (λ reads. (x : HarmedRun State) → IsHarmedRun ends kept reads x → Holds ends kept reads x))

-- the lines that may have answered a record: it settled the request of the record's cycle and place; and if damage is apart in the
-- stretch of that request, it is own or damaged
abbrev pub own_or_damaged_lines : {State : Type 0} → Ends State → (reads : Reads) → HarmedRun State → Answers
own_or_damaged_lines ends reads x place r line = HasItsAnswer ends x.run.survey.tasks (parts_of_run reads x.run) x.happened (sent_until (records_of_run reads x.run) place) r line

-- if run `x` is written as a table, what its sink took is a table, whose rows are by lines that are own or damaged
abbrev pub HasTableOwnOrDamaged : {State : Type 0} → Ends State → (reads : Reads) → HarmedRun State → Type 0
HasTableOwnOrDamaged ends reads x = (columns : Bool) → x.run.survey.layout.form ≡ table_form columns → IsTable (own_or_damaged_lines ends reads x) columns reads x.run x.had

-- so it is of each run over a line that damages (`OfEachHarmedRun`)
abbrev pub TablesAreOwnOrDamaged : Type 0 → Type 0
TablesAreOwnOrDamaged State = OfEachHarmedRun {State = State} (λ ends kept reads x. HasTableOwnOrDamaged ends reads x)

-- the same of lines of JSON, if the run's records are in the types of the program (`AreTyped`)
abbrev pub HasObjectsOwnOrDamaged : {State : Type 0} → Ends State → (reads : Reads) → HarmedRun State → Type 0
HasObjectsOwnOrDamaged ends reads x =
    x.run.survey.layout.form ≡ Json → AreTyped x.run.survey (records_of_run reads x.run) → AreObjects (own_or_damaged_lines ends reads x) reads x.run x.had

-- so it is of each run over a line that damages
abbrev pub ObjectsAreOwnOrDamaged : Type 0 → Type 0
ObjectsAreOwnOrDamaged State = OfEachHarmedRun {State = State} (λ ends kept reads x. HasObjectsOwnOrDamaged ends reads x)

-- the row of the record at a place in a table is that of this line, which is own or damaged, and has the moment of the read that brought it,
-- and the fault for which it doesn't read
pub record IsRowOfOwnOrDamaged {State : Type 0} (ends : Ends State) (reads : Reads) (x : HarmedRun State) (place : ℕ) (r : Record) (line : List ℕ) : Type 0 where
  pub is_of : IsRowOfReply x.run.survey.layout x.run.survey.labels r line
  pub came : CameAt x.run.survey.plan x.run.survey.tasks (scope_of x.run.survey reads) (acts_in x.run) r line
  pub fault : SayFault (form_at x.run.survey.tasks r.place) is_of.fields r line
  pub answer : own_or_damaged_lines ends reads x place r line

-- if run `x` is written as a table, the row of each of its records whose command a reply in time ended is so, however much of it was written
abbrev pub HasRowsOwnOrDamaged : {State : Type 0} → Ends State → (reads : Reads) → HarmedRun State → Type 0
HasRowsOwnOrDamaged ends reads x =
    (columns : Bool) → x.run.survey.layout.form ≡ table_form columns → (place : ℕ) (r : Record) → slice_get (records_of_run reads x.run) place ≡ Some r
    → (line : List ℕ) → line_of r.end ≡ Some line → IsRowOfOwnOrDamaged ends reads x place r line

-- so it is of each run over a line that damages
abbrev pub RowsAreOwnOrDamaged : Type 0 → Type 0
RowsAreOwnOrDamaged State = OfEachHarmedRun {State = State} (λ ends kept reads x. HasRowsOwnOrDamaged ends reads x)

-- no more records of run `x`, and so of its rows, are of requests that were settled by lines that came damaged than such lines came
abbrev pub AreFewByDamagedLines : {State : Type 0} → Ends State → (reads : Reads) → HarmedRun State → Type 0
AreFewByDamagedLines ends reads x = AreFewRecordsByDamagedLines ends x.run.survey.tasks (parts_of_run reads x.run) x.happened (records_of_run reads x.run)

-- so it is of each run over a line that damages
abbrev pub RowsByDamagedLinesAreFew : Type 0 → Type 0
RowsByDamagedLinesAreFew State = OfEachHarmedRun {State = State} (λ ends kept reads x. AreFewByDamagedLines ends reads x)

-- a run in the field, as one over a line that damages
abbrev pub undamaged_run : {State : Type 0} → Ends State → FieldRun State → HarmedRun State
undamaged_run ends x = record { run = x.run; had = x.had; in_flight = x.in_flight; happened = undamaged_stretches ends x.in_flight x.happened }

-- each run in the field is one over a line that damages, and damage is apart in each of its stretches, if it asks only for calls of the
-- table, or the instrument treats raw requests alike
abbrev pub RunsInFieldAreInstances : Type 0 → Type 0
RunsInFieldAreInstances State =
    OfEachFieldRun {State = State} (λ ends kept reads x.
    AreOfTable x.run.survey.tasks ⊎ TreatsRawsAlike ends AnyState kept
    → IsHarmedRun ends kept reads (undamaged_run ends x) × AllByRecursion (HasDamageApart ends) (undamaged_stretches ends x.in_flight x.happened))
