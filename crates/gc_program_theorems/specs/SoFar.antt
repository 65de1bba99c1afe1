-- A run of a station at one of its moments, whether it ever ends or not, and what it has written by then, as that is read: this project's
-- own. A run that goes on is one, and so is a run that was killed. The bytes are those that its sink has taken: what comes before the
-- records, and texts of records in order.
use Rattle.gc_program_theorems.specs.Common.{AllByRecursion, KeptReply, IsFront, Act, Lacks, line_of, header, Json, Runs, opening, CameAt, Grew, Record, texts_of, form_at, ForEachReadings, Reads, AreSound, Survey, front_text, text_by, Ends, UnderWay, AnyState, OfAnyInstrument, IsInField, IsItsOwn, stretches, AreFewRecordsByDamagedLines, HasItsAnswer, IsInHarmedField, sent_until, HarmedStretch}
use Rattle.std.specs.Prelude.{◌≡◌, ℕ, ◌-◌, Bool, List, ◌++◌, length, take, Option, Some, slice_get}
use Rattle.gc_program_theorems.specs.Damaged.{harmed_program_of}
use Rattle.gc_program_theorems.specs.Fields.{IsRowBy, under}
use Rattle.gc_program_theorems.specs.Objects.{AreTyped, IsObject}
use Rattle.gc_program_theorems.specs.Rows.{IsRowOfReply, SayFault}
use Rattle.gc_program_theorems.specs.Tables.{Answers, AreOneForOne, AreReadAs, IsPartOfNext, head_rows, parts_in, program_of, records_in, scope_of, table_form}
use Rattle.gc_files.specs.Runs as rows
use Rattle.gc_theorems.specs.Beginnings as field

-- a run at one of its moments: what it measures, the bytes that its sink had taken before it, the acts that were made by this moment, and
-- the bytes that the sink has taken by then
pub record RunSoFar : Type 0 where
  pub survey : Survey
  pub had : List ℕ
  pub acts : List Act
  pub taken : List ℕ

-- these acts but the last one
abbrev pub before_last : List Act → List Act
before_last acts = take (length acts - 1) acts

-- the texts of the records that these acts settle in a run of this survey, one after the other
abbrev pub texts_by : Survey → Reads → List Act → List ℕ
texts_by survey reads acts = texts_of (text_by survey) (records_in survey reads acts)

-- where `reads` gives what replies say of their calls, this is a run so far: its labels are as those of a text are, and each act was the one
-- that was to be made next. After the bytes
-- that it had, its sink has taken what comes before the records; then the texts of all records that the acts before the last one settled;
-- and then, of the texts of those that the last act settled, the first bytes, be it none or all
pub record IsRunSoFar (reads : Reads) (x : RunSoFar) : Type 0 where
  pub labels : AreSound x.survey.labels
  pub runs : Runs x.survey.plan x.survey.tasks (opening x.survey.plan (scope_of x.survey reads)) x.acts
  pub since : List ℕ
  pub took : x.taken ≡ (x.had ++ front_text x.survey.layout x.survey.labels.columns) ++ (texts_by x.survey reads (before_last x.acts) ++ since)
  pub own : IsFront (texts_by x.survey reads (before_last x.acts) ++ since) (texts_by x.survey reads x.acts)

-- the records of a run so far
abbrev pub records_so_far : Reads → RunSoFar → List Record
records_so_far reads x = records_in x.survey reads x.acts

-- the records of a run so far that were written whole, and the bytes that were written after these (`torn`), which are a part of the next
-- one. All that the acts before the last one settled are written
pub record AreWrittenSoFar (reads : Reads) (x : RunSoFar) (torn : List ℕ) : Type 0 where
  pub written : List Record
  pub unwritten : List Record
  pub order : records_so_far reads x ≡ written ++ unwritten
  pub settled : Grew (records_in x.survey reads (before_last x.acts)) written
  pub part : IsPartOfNext (text_by x.survey) unwritten torn

-- what the sink of a run so far has taken, after what it had: a table, whose rows after the header are the run's records as far as these
-- were written (`AreWrittenSoFar`), one for one and in order, each by a line that may have answered it
pub record IsTableSoFar (CanAnswer : Answers) (columns : Bool) (reads : Reads) (x : RunSoFar) : Type 0 where
  pub bytes : List ℕ
  pub torn : List ℕ
  pub took : x.taken ≡ x.had ++ (bytes ++ torn)
  pub are : AreWrittenSoFar reads x torn
  pub rows : List (List (List ℕ))
  pub reads_as : AreReadAs bytes (head_rows x.survey columns ++ rows)
  -- also in a file of --append: after earlier bytes, which a reader takes for `earlier`, it goes on with the table's rows
  pub behind : (held : List ℕ) (earlier : List (List (List ℕ))) → AreReadAs held earlier → AreReadAs (held ++ bytes) (earlier ++ (head_rows x.survey columns ++ rows))
  pub one_for_one :
      AreOneForOne (λ n row r. IsRowBy (CanAnswer n r) columns (λ name. under name (header columns x.survey.labels.columns) row) x.survey (scope_of x.survey reads) x.acts r) rows are.written

-- what the sink of a run so far has taken, after what it had: lines, in none of which is a line feed, and which are the run's records as far
-- as these were written (`AreWrittenSoFar`), one for one and in order, each by a line that may have answered it
pub record AreObjectsSoFar (CanAnswer : Answers) (reads : Reads) (x : RunSoFar) : Type 0 where
  pub lines : List (List ℕ)
  pub torn : List ℕ
  pub took : x.taken ≡ x.had ++ (rows.row_lines lines ++ torn)
  pub are : AreWrittenSoFar reads x torn
  pub unbroken : AllByRecursion (Lacks 10) lines
  pub one_for_one : AreOneForOne (λ n line r. IsObject CanAnswer x.survey (scope_of x.survey reads) x.acts n line r) lines are.written

-- In the field.

-- a run in the field so far, with what was in flight at its start, and what happened from there on, from one synchronization to the next
pub record FieldRunSoFar (State : Type 0) : Type 0 where
  pub run : RunSoFar
  pub in_flight : UnderWay State
  pub happened : List (field.Run State)

-- the run is one so far (`IsRunSoFar`), and its acts are those of one in the field (`IsInField`)
pub record IsFieldRunSoFar {State : Type 0} (ends : Ends State) (kept : State → Option KeptReply) (reads : Reads) (x : FieldRunSoFar State) : Type 0 where
  pub is_run : IsRunSoFar reads x.run
  pub in_field : IsInField ends AnyState kept x.in_flight (program_of x.run.survey reads x.run.acts x.happened)

-- which lines may have answered a record: those that are its own (`IsItsOwn`)
abbrev pub own_lines_so_far : {State : Type 0} → Ends State → (kept : State → Option KeptReply) → (reads : Reads) → FieldRunSoFar State → Answers
own_lines_so_far ends kept reads x place r line =
    IsItsOwn ends AnyState kept x.run.survey.tasks (parts_in x.run.survey reads x.run.acts) (stretches ends x.in_flight x.happened) r line

-- `Holds` is true of each run in the field so far (`IsFieldRunSoFar`): for any instrument, where `reads` gives what replies say of their
-- calls, all that a station measures and writes, all that the line and the instrument may do meanwhile, and each moment of the run
abbrev pub OfEachRunSoFar : {State : Type 0} → (Ends State → (State → Option KeptReply) → Reads → FieldRunSoFar State → Type 0) → Type 0
OfEachRunSoFar {State = State} Holds =
    OfAnyInstrument {State = State} (λ ends Good kept. ForEachReadings (λ reads. (x : FieldRunSoFar State) → IsFieldRunSoFar ends kept reads x → Holds ends kept reads x))

-- what the sink of a run in the field has taken so far is the run's own table, of each run that is written as a table
abbrev pub TablesSoFarAreTheirOwn : Type 0 → Type 0
TablesSoFarAreTheirOwn State =
    OfEachRunSoFar {State = State} (λ ends kept reads x.
    (columns : Bool) → x.run.survey.layout.form ≡ table_form columns → IsTableSoFar (own_lines_so_far ends kept reads x) columns reads x.run)

-- the same of lines of JSON, if the run's records are in the types of the program (`AreTyped`)
abbrev pub ObjectsSoFarAreTheirOwn : Type 0 → Type 0
ObjectsSoFarAreTheirOwn State =
    OfEachRunSoFar {State = State} (λ ends kept reads x.
    x.run.survey.layout.form ≡ Json → AreTyped x.run.survey (records_so_far reads x.run) → AreObjectsSoFar (own_lines_so_far ends kept reads x) reads x.run)

-- Over a line that damages.

-- a run over a line that damages so far, with what was in flight at its start, and what happened from there on, stretch by stretch
pub record HarmedRunSoFar (State : Type 0) : Type 0 where
  pub run : RunSoFar
  pub in_flight : UnderWay State
  pub happened : List (HarmedStretch State)

-- the run is one so far (`IsRunSoFar`), and its acts are those of one over a line that damages (`IsInHarmedField`)
pub record IsHarmedRunSoFar {State : Type 0} (ends : Ends State) (kept : State → Option KeptReply) (reads : Reads) (x : HarmedRunSoFar State) : Type 0 where
  pub is_run : IsRunSoFar reads x.run
  pub in_field : IsInHarmedField ends AnyState kept x.in_flight (harmed_program_of x.run.survey reads x.run.acts x.happened)

-- the lines that may have answered a record: it settled the request of the record's cycle and place; and if damage is apart in the
-- stretch of that request, it is own or damaged
abbrev pub own_or_damaged_so_far : {State : Type 0} → Ends State → (reads : Reads) → HarmedRunSoFar State → Answers
own_or_damaged_so_far ends reads x place r line =
    HasItsAnswer ends x.run.survey.tasks (parts_in x.run.survey reads x.run.acts) x.happened (sent_until (records_so_far reads x.run) place) r line

-- `Holds` is true of each run over a line that damages so far (`IsHarmedRunSoFar`)
abbrev pub OfEachHarmedRunSoFar : {State : Type 0} → (Ends State → (State → Option KeptReply) → Reads → HarmedRunSoFar State → Type 0) → Type 0
OfEachHarmedRunSoFar {State = State} Holds =
    OfAnyInstrument {State = State} (λ ends Good kept. ForEachReadings (λ reads. (x : HarmedRunSoFar State) → IsHarmedRunSoFar ends kept reads x → Holds ends kept reads x))

-- what its sink has taken is a table, whose rows are by lines that are own or damaged
abbrev pub TablesSoFarAreOwnOrDamaged : Type 0 → Type 0
TablesSoFarAreOwnOrDamaged State =
    OfEachHarmedRunSoFar {State = State} (λ ends kept reads x.
    (columns : Bool) → x.run.survey.layout.form ≡ table_form columns → IsTableSoFar (own_or_damaged_so_far ends reads x) columns reads x.run)

-- or lines of JSON, by such lines
abbrev pub ObjectsSoFarAreOwnOrDamaged : Type 0 → Type 0
ObjectsSoFarAreOwnOrDamaged State =
    OfEachHarmedRunSoFar {State = State} (λ ends kept reads x.
    x.run.survey.layout.form ≡ Json → AreTyped x.run.survey (records_so_far reads x.run) → AreObjectsSoFar (own_or_damaged_so_far ends reads x) reads x.run)

-- the row of the record at a place in a table is that of this line, which is own or damaged; it has the moment of the read that brought the
-- line, and the fault for which that doesn't read
pub record IsRowOfOwnOrDamagedSoFar {State : Type 0} (ends : Ends State) (reads : Reads) (x : HarmedRunSoFar State) (place : ℕ) (r : Record) (line : List ℕ) : Type 0 where
  pub is_of : IsRowOfReply x.run.survey.layout x.run.survey.labels r line
  pub came : CameAt x.run.survey.plan x.run.survey.tasks (scope_of x.run.survey reads) x.run.acts r line
  pub fault : SayFault (form_at x.run.survey.tasks r.place) is_of.fields r line
  pub answer : own_or_damaged_so_far ends reads x place r line

-- the row of each record of a run so far whose command a reply in time ended is so, however much of it was written
abbrev pub RowsSoFarAreOwnOrDamaged : Type 0 → Type 0
RowsSoFarAreOwnOrDamaged State =
    OfEachHarmedRunSoFar {State = State} (λ ends kept reads x.
    (columns : Bool) → x.run.survey.layout.form ≡ table_form columns → (place : ℕ) (r : Record) → slice_get (records_so_far reads x.run) place ≡ Some r
    → (line : List ℕ) → line_of r.end ≡ Some line → IsRowOfOwnOrDamagedSoFar ends reads x place r line)

-- no more of its rows are of requests that were settled by lines that came damaged than such lines came
abbrev pub RowsSoFarByDamagedLinesAreFew : Type 0 → Type 0
RowsSoFarByDamagedLinesAreFew State =
    OfEachHarmedRunSoFar {State = State} (λ ends kept reads x.
    AreFewRecordsByDamagedLines ends x.run.survey.tasks (parts_in x.run.survey reads x.run.acts) x.happened (records_so_far reads x.run))
