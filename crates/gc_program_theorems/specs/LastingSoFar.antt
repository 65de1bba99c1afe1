-- What is left of the rows of a run that goes on, or was killed, over crashes of the machine, or after a sync that failed: this project's
-- own. The run is taken at one of its moments, whether it ever ends or not.
use Rattle.gc_program_theorems.specs.Common.{AllByRecursion, runs_of, Step, IsFront, appended, cuts_none, opened_table, whole, AreRowCounts, rows_of, asks_sync, is_durable, steps_in, taken_in, Act, bytes_in, Followed, Lacks, header, Json, Runs, opening, Record, texts_of, ForEachReadings, Reads, AreSound, Survey, text_by}
use Rattle.std.specs.Prelude.{◌≡◌, ℕ, Bool, true, List, ◌++◌}
use Rattle.gc_program_theorems.specs.Fields.{IsRowBy, under}
use Rattle.gc_program_theorems.specs.Lasting.{CrashHistory, FileHistory, IsCrashHistory, IsFileHistory}
use Rattle.gc_program_theorems.specs.Objects.{AreTyped, IsObject}
use Rattle.gc_program_theorems.specs.SoFar.{OfEachHarmedRunSoFar, OfEachRunSoFar, own_lines_so_far, own_or_damaged_so_far, records_so_far, texts_by}
use Rattle.gc_program_theorems.specs.Tables.{Answers, AreOneForOne, AreReadAs, records_in, scope_of, table_form}
use Rattle.gc_files.specs.Runs as rows

-- a run that appends to a file, at one of its moments: what it measures, and the acts that were made by this moment; the acts that were made
-- before one of them, at which all that the file had taken lasted (`done`), and the file as it was then; and the calls that this file has had
-- by the moment, since it was opened
pub record FileRunSoFar (R : Type 0) : Type 0 where
  pub survey : Survey
  pub acts : List Act
  pub done : List Act
  pub was : Followed R
  pub calls : List Step

-- where `reads` gives what replies say of their calls, this is a run of a file so far. Its labels are as those of a text are, and each act was
-- the one that was to be made next. After
-- the first ones of its acts, `done`, the rows of all records that these settled were in the file, or in others before it; and they lasted,
-- as the file is one that syncs. Since then it has only been appended to; and what was appended, after those rows, are the first bytes of
-- the rows of the records that all its acts settled
pub record IsFileRunSoFar {R : Type 0} (reads : Reads) (m : FileRunSoFar R) : Type 0 where
  pub labels : AreSound m.survey.labels
  pub runs : Runs m.survey.plan m.survey.tasks (opening m.survey.plan (scope_of m.survey reads)) m.acts
  pub others : List Act
  pub order : m.acts ≡ m.done ++ others
  pub settled : bytes_in m.was ≡ texts_by m.survey reads m.done
  pub syncs : asks_sync m.was.rows ≡ true
  pub lasts : is_durable m.was.rows ≡ true
  pub since : List Step
  pub begins : m.calls ≡ steps_in m.was.rows ++ since
  pub appends : cuts_none m.calls ≡ true
  pub own : IsFront (bytes_in m.was ++ appended since) (texts_by m.survey reads m.acts)

-- `left` has the rows that are left of a run so far: all that this file had taken after the acts `done`, and perhaps more; no others than
-- of the run's records; and none in part
pub record AreLeftSoFar {R : Type 0} (m : FileRunSoFar R) (reads : Reads) (left : List ℕ) : Type 0 where
  pub more : List ℕ
  pub has : left ≡ taken_in m.was.rows ++ more
  pub own : IsFront (bytes_in m.was ++ more) (texts_by m.survey reads m.acts)
  pub lines : whole (bytes_in m.was ++ more) ≡ bytes_in m.was ++ more

-- a run that appends to a file (`IsFileRunSoFar`) is killed at this moment, or the machine crashes (`IsCrashHistory`). Whatever is found
-- then, the next start makes of it the table that was there at first, after it rows of the earlier runs, and then the rows that are left of
-- this run: where `reads` gives what replies say of their calls
abbrev pub RowsSoFarOutlastCrashes : Type 0 → Type 0
RowsSoFarOutlastCrashes R = ForEachReadings (λ reads. (m : FileRunSoFar R) → IsFileRunSoFar reads m → (x : CrashHistory) → IsCrashHistory m.calls x
    → (counts : List ℕ) × (left : List ℕ) × AreRowCounts x.earlier counts × AreLeftSoFar m reads left
    × (opened_table x.head x.found ≡ (opened_table x.head x.first ++ rows_of x.earlier counts) ++ left))

-- after events, in a file that isn't in doubt, a run (`IsFileRunSoFar`) ends at this moment, by a kill or by a sync that fails, and other
-- events follow (`IsFileHistory`). Whatever is found then, the next start makes of it the table that was there at first, rows of the earlier
-- runs, the rows that are left of this run, and rows of the later ones
abbrev pub RowsSoFarOutlastFailures : Type 0 → Type 0
RowsSoFarOutlastFailures R = ForEachReadings (λ reads. (m : FileRunSoFar R) → IsFileRunSoFar reads m → (x : FileHistory) → IsFileHistory m.calls x
    → (counts : List ℕ) × (left : List ℕ) × (counts' : List ℕ) × AreRowCounts (runs_of x.earlier) counts × AreLeftSoFar m reads left × AreRowCounts (runs_of x.later) counts'
    × (opened_table x.head x.found ≡ ((opened_table x.head x.first ++ rows_of (runs_of x.earlier) counts) ++ left) ++ rows_of (runs_of x.later) counts'))

-- As it is read.

-- `left` is what is left of a run so far: with what went into files before this one, it is the texts of the first ones of the run's records,
-- each whole
pub record IsLeftOfSoFar {R : Type 0} (reads : Reads) (m : FileRunSoFar R) (left : List ℕ) (records : List Record) : Type 0 where
  pub more : List ℕ
  pub has : left ≡ taken_in m.was.rows ++ more
  pub others : List Record
  pub order : records_in m.survey reads m.acts ≡ records ++ others
  pub texts : bytes_in m.was ++ more ≡ texts_of (text_by m.survey) records

-- of a run that is written as a table: with what went into files before this one, what is left reads as rows, which are the first ones of
-- the run's records, one for one and in order, each by a line that may have answered it
pub record IsLeftTableSoFar {R : Type 0} (CanAnswer : Answers) (columns : Bool) (reads : Reads) (m : FileRunSoFar R) (left : List ℕ) : Type 0 where
  pub records : List Record
  pub is_of : IsLeftOfSoFar reads m left records
  pub rows : List (List (List ℕ))
  pub reads_as : AreReadAs (bytes_in m.was ++ is_of.more) rows
  pub one_for_one : AreOneForOne (λ n row r. IsRowBy (CanAnswer n r) columns (λ name. under name (header columns m.survey.labels.columns) row) m.survey (scope_of m.survey reads) m.acts r) rows records

-- of a run that is written as lines of JSON: with what went into files before this one, what is left are lines, which are the objects of
-- the first ones of the run's records, one for one and in order, each by a line that may have answered it
pub record AreLeftObjectsSoFar {R : Type 0} (CanAnswer : Answers) (reads : Reads) (m : FileRunSoFar R) (left : List ℕ) : Type 0 where
  pub records : List Record
  pub is_of : IsLeftOfSoFar reads m left records
  pub lines : List (List ℕ)
  pub split : bytes_in m.was ++ is_of.more ≡ rows.row_lines lines
  pub unbroken : AllByRecursion (Lacks 10) lines
  pub one_for_one : AreOneForOne (λ n line r. IsObject CanAnswer m.survey (scope_of m.survey reads) m.acts n line r) lines records

-- of each run in the field so far: what is left of it (`AreLeftSoFar`) are rows, and each is its own
abbrev pub LeftTablesSoFarAreTheirOwn : (R State : Type 0) → Type 0
LeftTablesSoFarAreTheirOwn R State =
    OfEachRunSoFar {State = State} (λ ends kept reads x. (columns : Bool) → x.run.survey.layout.form ≡ table_form columns →
    (m : FileRunSoFar R) (left : List ℕ) → m.survey ≡ x.run.survey → m.acts ≡ x.run.acts → AreLeftSoFar m reads left
    → IsLeftTableSoFar (own_lines_so_far ends kept reads x) columns reads m left)

-- the same of lines of JSON, if the run's records are in the types of the program (`AreTyped`)
abbrev pub LeftObjectsSoFarAreTheirOwn : (R State : Type 0) → Type 0
LeftObjectsSoFarAreTheirOwn R State =
    OfEachRunSoFar {State = State} (λ ends kept reads x. x.run.survey.layout.form ≡ Json → AreTyped x.run.survey (records_so_far reads x.run) →
    (m : FileRunSoFar R) (left : List ℕ) → m.survey ≡ x.run.survey → m.acts ≡ x.run.acts → AreLeftSoFar m reads left
    → AreLeftObjectsSoFar (own_lines_so_far ends kept reads x) reads m left)

-- of each run over a line that damages so far: what is left of it are rows by lines that are own or damaged
abbrev pub LeftTablesSoFarAreOwnOrDamaged : (R State : Type 0) → Type 0
LeftTablesSoFarAreOwnOrDamaged R State =
    OfEachHarmedRunSoFar {State = State} (λ ends kept reads x. (columns : Bool) → x.run.survey.layout.form ≡ table_form columns →
    (m : FileRunSoFar R) (left : List ℕ) → m.survey ≡ x.run.survey → m.acts ≡ x.run.acts → AreLeftSoFar m reads left
    → IsLeftTableSoFar (own_or_damaged_so_far ends reads x) columns reads m left)

-- the same of lines of JSON, if the run's records are in the types of the program
abbrev pub LeftObjectsSoFarAreOwnOrDamaged : (R State : Type 0) → Type 0
LeftObjectsSoFarAreOwnOrDamaged R State =
    OfEachHarmedRunSoFar {State = State} (λ ends kept reads x. x.run.survey.layout.form ≡ Json → AreTyped x.run.survey (records_so_far reads x.run) →
    (m : FileRunSoFar R) (left : List ℕ) → m.survey ≡ x.run.survey → m.acts ≡ x.run.acts → AreLeftSoFar m reads left
    → AreLeftObjectsSoFar (own_or_damaged_so_far ends reads x) reads m left)
