-- What is written of rows that were copied, and of a torn row that was cut off, as a file of rows was opened: this project's own.
use Rattle.std.specs.Prelude.{ℕ, List, [], ◌++◌, ◌==◌, if◌then◌else◌, codes}
use Rattle.std.specs.Fmt.{decimal}

-- what is written of a number of things, with these texts before and after it: nothing if there are none
abbrev pub count_line : (before : List ℕ) → (count : ℕ) → (after : List ℕ) → List ℕ
count_line before count after = if count == 0 then [] else codes "geocom: " ++ (before ++ (decimal count ++ (after ++ codes "\n")))

-- what is written of a torn row that was cut off, by its number of bytes: nothing if there were none
abbrev pub torn_line : (torn : ℕ) → List ℕ
torn_line torn = count_line [] torn (codes " bytes of an incomplete row were cut off")

-- what is written of rows that were copied to a new file, as after a kill or a failed sync, by their number: nothing if
-- there were none
abbrev pub copied_line : (copied : ℕ) → List ℕ
copied_line copied = count_line (codes "the last run was killed, or a sync failed: ") copied (codes " rows were copied to a new file and synced")
