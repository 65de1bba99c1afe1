-- Files of rows that took rows in turn: each until the rows went on in the next one, where a row had ended. This project's own.
use Rattle.std.specs.Prelude.{◌≡◌, ℕ, true, List, [], ◌∷◌, ◌++◌, map}
use Rattle.gc_files.specs.Files.{Step, content, later_by, settled, MayBeLeft}
use Rattle.gc_files.specs.Rows.{appended, cuts_none, opened_table, whole, OpensFile}
use Rattle.gc_files.specs.Runs.{AreRowCounts, Happen, IsHead, Run, life_after, rows_of, synced}

-- the steps of several files, those of one file after those of another
abbrev pub all_steps : List (List Step) → List Step
all_steps [] = []
all_steps (steps ∷ files) = steps ++ all_steps files

-- each of these files was only appended to and synced
abbrev pub AreOnlyAppendedTo : List (List Step) → Type 0
AreOnlyAppendedTo files = map cuts_none files ≡ map (λ _. true) files

-- what was appended to each of these files is whole rows
abbrev pub HaveWholeRows : List (List Step) → Type 0
HaveWholeRows files = map (λ steps. whole (appended steps)) files ≡ map appended files

-- all that was appended to each of these files was appended before its last sync
abbrev pub AreSynced : List (List Step) → Type 0
AreSynced files = map synced files ≡ map appended files

-- a run opened a file, did these calls after that, and left it. Whatever a kill, or a crash of the machine, leaves of the file from then on,
-- the next opening makes of it the table that was there at first, after it rows of the runs before, and then all that this run appended
abbrev pub LastsWhole : (calls : List Step) → Type 0
LastsWhole calls = (head first : List ℕ) (before : List Run) (opening : List Step) (found : List ℕ) → IsHead head → Happen head (settled first) before
    → OpensFile head (content (life_after (settled first) before)) opening
    → MayBeLeft (later_by (opening ++ calls) (life_after (settled first) before)) found
    → (counts : List ℕ) × AreRowCounts before counts × (opened_table head found ≡ (opened_table head first ++ rows_of before counts) ++ appended calls)

-- so it is of a file to which whole rows were appended, all of them before its last sync
abbrev pub LeftFilesLast : Type 0
LeftFilesLast = (calls : List Step) → cuts_none calls ≡ true → whole (appended calls) ≡ appended calls → synced calls ≡ appended calls → LastsWhole calls
