-- What is left of a run's rows after a crash or a failed sync, as it is read: this project's own. `AreLeft` says which bytes are left. If
-- the run wrote into files before this one, a reader reads those first; else the bytes that are left are read as they are.
use Rattle.gc_program_theorems.specs.Common.{AllByRecursion, taken_in, bytes_in, header, Json, Record, texts_of, Reads, Lacks, text_by, AnyState}
use Rattle.std.specs.Prelude.{◌≡◌, ℕ, Bool, List, ◌++◌}
use Rattle.gc_program_theorems.specs.Damaged.{OfEachHarmedRun, own_or_damaged_lines}
use Rattle.gc_program_theorems.specs.Fields.{IsRowBy, under}
use Rattle.gc_program_theorems.specs.Lasting.{AreLeft, RunMoment}
use Rattle.gc_program_theorems.specs.Objects.{AreTyped, IsObject}
use Rattle.gc_program_theorems.specs.Tables.{Answers, AreOneForOne, AreReadAs, OfEachFieldRun, StationRun, acts_in, own_lines, records_of_run, scope_of, table_form}
use Rattle.gc_files.specs.Runs as rows

-- `left` is what is left of a run after a moment: with what went into files before this one, it is the texts of the first ones of the
-- run's records, each whole
pub record IsLeftOf {R : Type 0} (reads : Reads) (m : RunMoment R) (left : List ℕ) (records : List Record) : Type 0 where
  pub more : List ℕ
  pub has : left ≡ taken_in m.was.rows ++ more
  pub others : List Record
  pub order : records_of_run reads m.run ≡ records ++ others
  pub texts : bytes_in m.was ++ more ≡ texts_of (text_by m.run.survey) records

-- of a run that is written as a table: with what went into files before this one, what is left reads as rows, which are the first ones of
-- the run's records, one for one and in order, each by a line that may have answered it
pub record IsLeftTable {R : Type 0} (CanAnswer : Answers) (columns : Bool) (reads : Reads) (m : RunMoment R) (left : List ℕ) : Type 0 where
  pub records : List Record
  pub is_of : IsLeftOf reads m left records
  pub rows : List (List (List ℕ))
  pub reads_as : AreReadAs (bytes_in m.was ++ is_of.more) rows
  pub one_for_one : AreOneForOne (λ n row r. IsRowBy (CanAnswer n r) columns (λ name. under name (header columns m.run.survey.labels.columns) row) m.run.survey (scope_of m.run.survey reads) (acts_in m.run) r) rows records

-- of a run that is written as lines of JSON: with what went into files before this one, what is left are lines, which are the objects of
-- the first ones of the run's records, one for one and in order, each by a line that may have answered it
pub record AreLeftObjects {R : Type 0} (CanAnswer : Answers) (reads : Reads) (m : RunMoment R) (left : List ℕ) : Type 0 where
  pub records : List Record
  pub is_of : IsLeftOf reads m left records
  pub lines : List (List ℕ)
  pub split : bytes_in m.was ++ is_of.more ≡ rows.row_lines lines
  pub unbroken : AllByRecursion (Lacks 10) lines
  pub one_for_one : AreOneForOne (λ n line r. IsObject CanAnswer m.run.survey (scope_of m.run.survey reads) (acts_in m.run) n line r) lines records

-- if a run is written as a table, what is left of it after any moment (`AreLeft`) are rows, each by a line that may have answered its
-- record
abbrev pub LeavesTable : (R : Type 0) → Answers → (reads : Reads) → StationRun → Type 0
LeavesTable R CanAnswer reads run =
    (columns : Bool) → run.survey.layout.form ≡ table_form columns → (m : RunMoment R) (left : List ℕ) → m.run ≡ run → AreLeft m reads left → IsLeftTable CanAnswer columns reads m left

-- the same of lines of JSON, if the run's records are in the types of the program (`AreTyped`)
abbrev pub LeavesObjects : (R : Type 0) → Answers → (reads : Reads) → StationRun → Type 0
LeavesObjects R CanAnswer reads run =
    run.survey.layout.form ≡ Json → AreTyped run.survey (records_of_run reads run) → (m : RunMoment R) (left : List ℕ) → m.run ≡ run → AreLeft m reads left → AreLeftObjects CanAnswer reads m left

-- of each run in the field that is written as a table: what is left of it are rows, and each is its own
abbrev pub LeftTablesAreTheirOwn : (R State : Type 0) → Type 0
LeftTablesAreTheirOwn R State = OfEachFieldRun {State = State} (λ ends kept reads x. LeavesTable R (own_lines ends AnyState kept reads x) reads x.run)

-- the same of lines of JSON
abbrev pub LeftObjectsAreTheirOwn : (R State : Type 0) → Type 0
LeftObjectsAreTheirOwn R State = OfEachFieldRun {State = State} (λ ends kept reads x. LeavesObjects R (own_lines ends AnyState kept reads x) reads x.run)

-- of each run over a line that damages, if it is written as a table: what is left of it are rows by lines that are own or damaged
abbrev pub LeftTablesAreOwnOrDamaged : (R State : Type 0) → Type 0
LeftTablesAreOwnOrDamaged R State = OfEachHarmedRun {State = State} (λ ends kept reads x. LeavesTable R (own_or_damaged_lines ends reads x) reads x.run)

-- the same of lines of JSON
abbrev pub LeftObjectsAreOwnOrDamaged : (R State : Type 0) → Type 0
LeftObjectsAreOwnOrDamaged R State = OfEachHarmedRun {State = State} (λ ends kept reads x. LeavesObjects R (own_or_damaged_lines ends reads x) reads x.run)
