-- The runs of programs over one file, each ended by itself, by a kill or by a crash of the machine. This project's own.
use Rattle.std.specs.Prelude.{◌≡◌, ◌⊎◌, ℕ, ◌≤◌, false, List, [], ◌∷◌, ◌++◌, length, take, Option, Some, None, if◌then◌else◌}
use Rattle.std.specs.List.{AllByRecursion, flat_map}
use Rattle.gc_files.specs.Files.{Step, Append, Cut, Sync, Life, settled, has_sync, content, later_by, MayBeLeft}
use Rattle.gc_files.specs.Rows.{has_feed, row_line, opened_table, head_written, Puts, MendedAndPut, IsFront, ComesTo, OpensFile}

-- what these steps appended before their last sync
abbrev pub synced : List Step → List ℕ
synced [] = []
synced (Append bytes ∷ steps) = if has_sync steps then bytes ++ synced steps else []
synced (Sync ∷ steps) = synced steps
synced (Cut size ∷ steps) = synced steps

-- a run of a program: its rows without their line feeds, what it did to the file, how many of its rows were reported to it as
-- kept, and what the machine's crash left, where one ended it
pub record Run : Type 0 where
  pub rows : List (List ℕ)
  pub steps : List Step
  pub kept : ℕ
  pub left : Option (List ℕ)

-- the rows, each with its line feed, one after the other
abbrev pub row_lines : List (List ℕ) → List ℕ
row_lines rows = flat_map row_line rows

-- each of these texts is a row: none has a line feed
abbrev pub AreRows : List (List ℕ) → Type 0
AreRows rows = AllByRecursion (λ row. has_feed row ≡ false) rows

-- a head is empty, or one line
abbrev pub IsHead : List ℕ → Type 0
IsHead head = (head ≡ []) ⊎ ((row : List ℕ) × (has_feed row ≡ false) × (head ≡ row_line row))

-- all that a run of these rows appends to a file that held `held`: the head, where no whole row was there, and the rows
abbrev pub run_bytes : (head held : List ℕ) (rows : List (List ℕ)) → List ℕ
run_bytes head held rows = head_written head held ++ row_lines rows

-- the first `kept` rows of a run are kept: they were appended before the last sync, and before them the head where the run
-- wrote it; or `kept` is 0
abbrev pub WereKept : (head held : List ℕ) (rows : List (List ℕ)) (kept : ℕ) → List Step → Type 0
WereKept head held rows kept steps = (kept ≡ 0) ⊎ IsFront (run_bytes head held (take kept rows)) (synced steps)

-- a run over a file that held `held`: it mended the file, and then wrote the head where no whole row was there, and its rows,
-- none of which has a line feed in it, as far as it came; and `Counts` holds of its rows, of how many of the first of them count
-- as kept, and of its steps
pub record IsRunBy (Counts : (head held : List ℕ) (rows : List (List ℕ)) (kept : ℕ) → List Step → Type 0) (head held : List ℕ) (run : Run) : Type 0 where
  pub rows : AreRows run.rows
  pub steps : ComesTo held (run_bytes head held run.rows) run.steps
  pub few : run.kept ≤ length run.rows
  pub kept : Counts head held run.rows run.kept run.steps

-- a run over a file that held `held`, whose first rows, as many as it counts as kept, were kept (`WereKept`)
abbrev pub IsRun : (head held : List ℕ) → Run → Type 0
IsRun head held run = IsRunBy WereKept head held run

-- the file's life once the run has ended: the life before with the run's steps; or, where a crash of the machine ended the run, a
-- new life that starts with what the crash left
abbrev pub life_once_ended : Life → Run → Option (List ℕ) → Life
life_once_ended life run None = later_by run.steps life
life_once_ended life run (Some left) = settled left

-- where a crash of the machine ended the run, what the crash left of the file is something that a crash at that moment may leave;
-- of a run that no crash ended (`None`) nothing is claimed
abbrev pub CrashMayLeave : Life → Run → Option (List ℕ) → Type 0
CrashMayLeave life run None = Unit {0}
CrashMayLeave life run (Some left) = MayBeLeft (later_by run.steps life) left

-- these runs can happen, one after the other, to a file with this head, which had this life before them
abbrev pub Happen : (head : List ℕ) → Life → List Run → Type 0
Happen head life [] = Unit {0}
Happen head life (run ∷ runs) = IsRun head (content life) run × CrashMayLeave life run run.left × Happen head (life_once_ended life run run.left) runs

-- the file's life after these runs
abbrev pub life_after : Life → List Run → Life
life_after life [] = life
life_after life (run ∷ runs) = life_after (life_once_ended life run run.left) runs

-- the lines of the first rows of each run, one run after the other: of each run as many rows as its count says
abbrev pub rows_of : List Run → (counts : List ℕ) → List ℕ
rows_of [] counts = []
rows_of (run ∷ runs) [] = []
rows_of (run ∷ runs) (n ∷ counts) = row_lines (take n run.rows) ++ rows_of runs counts

-- one count of rows for each run: at least as many as were kept, and at most as many as the run has
abbrev pub AreRowCounts : List Run → (counts : List ℕ) → Type 0
AreRowCounts [] [] = Unit {0}
AreRowCounts [] (n ∷ counts) = ⊥
AreRowCounts (run ∷ runs) [] = ⊥
AreRowCounts (run ∷ runs) (n ∷ counts) = (run.kept ≤ n) × (n ≤ length run.rows) × AreRowCounts runs counts

-- the table of a file that holds `held` is `before`, and after that, for each run in order, the run's first rows: at least
-- those that were kept, each once, none in part
abbrev pub HasRows : (head before : List ℕ) → List Run → (held : List ℕ) → Type 0
HasRows head before runs held = (counts : List ℕ) × AreRowCounts runs counts × (opened_table head held ≡ before ++ rows_of runs counts)

-- Over any runs and crashes the table stays: whatever a crash after them leaves or a read returns, the next opening makes of it
-- the table that was there before the runs, and after that table the first rows of each run, at least the kept ones.
abbrev pub TablesLast : Type 0
TablesLast = (head held : List ℕ) → IsHead head → (runs : List Run) → Happen head (settled held) runs
    → (left : List ℕ) → MayBeLeft (life_after (settled held) runs) left
    → HasRows head (opened_table head held) runs left

-- the first `count` rows of a run went out whole: what was appended after the mending (`bytes`) is a front of all that the run
-- had to append, which is the head, where it wrote one, and its rows; and the first `count` rows are whole in it; or `count` is 0
abbrev pub WereWritten : (head held : List ℕ) (rows : List (List ℕ)) (count : ℕ) → List Step → Type 0
WereWritten head held rows count steps =
    (count ≡ 0)
    ⊎ ((bytes : List ℕ) × MendedAndPut held steps bytes × IsFront bytes (run_bytes head held rows)
    × IsFront (run_bytes head held (take count rows)) bytes)

-- a run that ended by itself or by a kill, and not by a crash of the machine; only rows that went out whole count as kept
pub record IsUncrashedRun (head held : List ℕ) (run : Run) : Type 0 where
  pub is : IsRunBy WereWritten head held run
  pub uncrashed : run.left ≡ None

-- these runs happened to the file, one after the other, each ended by itself or by a kill (`IsUncrashedRun`)
abbrev pub AreUncrashedRuns : (head : List ℕ) → Life → List Run → Type 0
AreUncrashedRuns head life [] = Unit {0}
AreUncrashedRuns head life (run ∷ runs) = IsUncrashedRun head (content life) run × AreUncrashedRuns head (later_by run.steps life) runs

-- Over any runs and kills, while the machine goes on, no row that went out whole is lost, synced or not: the table is what was
-- there before the runs, and after that the first rows of each run, at least those that count as kept, for which it is enough
-- that they went out whole (`IsUncrashedRun`).
abbrev pub KillsLoseNothing : Type 0
KillsLoseNothing = (head : List ℕ) → IsHead head → (life : Life) (runs : List Run) → AreUncrashedRuns head life runs
    → HasRows head (opened_table head (content life)) runs (content (life_after life runs))

-- the steps of this run, over a file that held `held`, are those of an opening, and after them those of writes and syncs of the
-- run's rows, as far as they came
pub record OpensAndWrites (head held : List ℕ) (run : Run) : Type 0 where
  pub opening : List Step
  pub later : List Step
  pub split : run.steps ≡ opening ++ later
  pub opened : OpensFile head held opening
  pub front : List ℕ
  pub puts : Puts later front
  pub is_front : IsFront front (row_lines run.rows)

-- an opening, and after it writes and syncs of rows as far as they came, are a run of these rows, if the first `kept` of the rows
-- were kept (`WereKept`)
abbrev pub OpeningsAreRuns : Type 0
OpeningsAreRuns = (head held : List ℕ) (run : Run) → OpensAndWrites head held run
    → AreRows run.rows → run.kept ≤ length run.rows → WereKept head held run.rows run.kept run.steps → IsRun head held run

-- an opening that failed, as far as it came (`ComesTo`), is a run without rows
abbrev pub FailedOpeningsAreRuns : Type 0
FailedOpeningsAreRuns = (head held : List ℕ) (steps : List Step) (left : Option (List ℕ)) → ComesTo held (head_written head held) steps
    → IsRun head held (record { rows = []; steps = steps; kept = 0; left = left })

-- what the calls do to a file is a run; `kept`: a sync after an opening and writes keeps all that was appended
pub record CallsAreRuns : Type 0 where
  pub opened : OpeningsAreRuns
  pub failed : FailedOpeningsAreRuns
  pub kept : (held : List ℕ) (steps : List Step) (bytes : List ℕ) → MendedAndPut held steps bytes → synced (steps ++ Sync ∷ []) ≡ bytes
