-- What a station wrote of a run as lines of JSON, as they are read: this project's own. Texts are taken to be
-- bytes, and numbers to have 64 bits, as those of the program do.
use Rattle.gc_program_theorems.specs.Common.{AllByRecursion, KeptReply, Lacks, AreBytes, IsEndOfBytes, FitsIn64Bits, Json, Act, Record, Reads, Scope, Survey, when_of, Ends, AnyState}
use Rattle.std.specs.Prelude.{◌≡◌, ℕ, ◌<◌, ◌^◌, true, List, ◌++◌, Option, Some}
use Rattle.json.specs.Find.{get_member}
use Rattle.json.specs.Json.{document}
use Rattle.gc_texts.specs.declared.name.Name.{Name}
use Rattle.gc_program_theorems.specs.Fields.{IsRowBy}
use Rattle.gc_program_theorems.specs.Tables.{Answers, AreOneForOne, AreWrittenIn, FieldRun, OfEachFieldRun, StationRun, acts_in, own_lines, records_of_run, scope_of}
use Rattle.json.specs.Json as json
use Rattle.gc_files.specs.Runs as rows
pub use Rattle.gc_rows.specs.Lookup.{text_of}

-- the record, of a run that began at the moment `run`, is in the types of the program: the numbers that are written of it have 64
-- bits, and its texts are bytes
abbrev pub IsTyped : (run : ℕ) → Record → Type 0
IsTyped run r = FitsIn64Bits (when_of run r) × (r.command.target < 2 ^ 64) × IsEndOfBytes r.end

-- the records of a run of this survey are in the types of the program (`IsTyped`), and so are the run's beginning and its names
pub record AreTyped (survey : Survey) (records : List Record) : Type 0 where
  pub run : survey.layout.run < 2 ^ 64
  pub names : AllByRecursion (λ (name : Name). AreBytes name.text.items) survey.labels.names
  pub each : AllByRecursion (IsTyped survey.layout.run) records

-- a line is the object of the record at a place among those of a run of this survey with these acts: the toolchain's reader of JSON takes it
-- for an object, whose members are the record's, by a line that may have answered it
pub record IsObject (CanAnswer : Answers) (survey : Survey) (scope : Scope) (acts : List Act) (place : ℕ) (line : List ℕ) (r : Record) : Type 0 where
  pub members : json.Members
  pub reads_as : document line ≡ Some (json.object members)
  pub is_by : IsRowBy (CanAnswer place r) true (λ name. text_of (get_member name members)) survey scope acts r

-- what the sink of a run took, after what it had: lines, in none of which is a line feed, and which are the run's records as far as
-- these were written (`AreWrittenIn`), one for one and in order, each by a line that may have answered it
pub record AreObjects (CanAnswer : Answers) (reads : Reads) (run : StationRun) (had : List ℕ) : Type 0 where
  pub lines : List (List ℕ)
  pub torn : List ℕ
  pub took : run.new.taken ≡ Some (had ++ (rows.row_lines lines ++ torn))
  pub are : AreWrittenIn reads run torn
  pub unbroken : AllByRecursion (Lacks 10) lines
  pub one_for_one : AreOneForOne (λ n line r. IsObject CanAnswer run.survey (scope_of run.survey reads) (acts_in run) n line r) lines are.written

-- what the sink of run `x` took are lines of JSON, each of which is its own
abbrev pub AreOwnObjects : {State : Type 0} → Ends State → (Good : State → Type 0) → (kept : State → Option KeptReply) → (reads : Reads) → FieldRun State → Type 0
AreOwnObjects ends Good kept reads x = AreObjects (own_lines ends Good kept reads x) reads x.run x.had

-- if run `x` is written as lines of JSON, and its records are in the types of the program (`AreTyped`), what its sink took are its own
-- objects
abbrev pub HasOwnObjects : {State : Type 0} → Ends State → (kept : State → Option KeptReply) → (reads : Reads) → FieldRun State → Type 0
HasOwnObjects ends kept reads x = x.run.survey.layout.form ≡ Json → AreTyped x.run.survey (records_of_run reads x.run) → AreOwnObjects ends AnyState kept reads x

-- what a sink took of a run in the field are the run's own objects, of each run that is written as lines of JSON
-- (`OfEachFieldRun`), if its records are in the types of the program (`AreTyped`)
abbrev pub ObjectsAreTheirOwn : Type 0 → Type 0
ObjectsAreTheirOwn State = OfEachFieldRun {State = State} (λ ends kept reads x. HasOwnObjects ends kept reads x)
