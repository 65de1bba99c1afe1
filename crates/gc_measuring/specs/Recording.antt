-- How a file of records is opened, and what is reported of that: this project's own.
use Rattle.gc_measuring.specs.Common.{Appends, Unfit, IsOpenedAt, copied_line, torn_line, Followed, head_text, form_sign, run_fault_text, fault_line, RunFault, RecordsUnopened, RecordsHeld, RecordsForeign, Output, form_of_rows, Settings}
use Rattle.std.specs.Prelude.{ℕ, List, [], ◌++◌, Option, Result, OnOk, codes}
use Rattle.gc_files.specs.Prelude.{torn_in}
use Rattle.gc_files.specs.declared.appending.Appending.{Ghosts}
use Rattle.gc_files.specs.declared.rows_file.RowsFile.{RowsFile}
use Rattle.gc_files.specs.declared.system.Unfit.TheVariants.{Unopened, Held, Foreign, Failed}
use Rattle.gc_options.specs.declared.site.Recording.{Recording}

-- the fault that is reported if a path can't be used as a file of records
abbrev pub fault_of_unfit : Unfit → RunFault
fault_of_unfit Unopened = RecordsUnopened
fault_of_unfit Held = RecordsHeld
fault_of_unfit Foreign = RecordsForeign
fault_of_unfit Failed = Output

-- what is written after the fault's line: of a file that doesn't begin as this station's rows do, what may have happened and how
-- to rotate it; of any other nothing
abbrev pub rotation_line : Unfit → List ℕ
rotation_line Unopened = []
rotation_line Held = []
rotation_line Foreign =
    codes
    "geocom: the file does not begin as this station's rows do: it has other columns, or a rotation cut off its header (copytruncate). To rotate it, stop the station, rename the file, and start it\n"
rotation_line Failed = []

-- all that is written if a path can't be used as a file of records
abbrev pub unfit_text : Unfit → List ℕ
unfit_text why = fault_line (run_fault_text (fault_of_unfit why)) ++ rotation_line why

-- what is written of a file that was opened, by how many rows were copied and how many bytes were cut off
abbrev pub opened_lines : (copied torn : ℕ) → List ℕ
opened_lines copied torn = copied_line copied ++ torn_line torn

-- the file is at the path of this recording, and was just opened for rows in the station's form, with these columns beside those of the
-- table's quantities, each of which is to be synced if the recording asks for that
abbrev pub IsBegunAt : {R : Type 0} → Recording → Settings → (columns : List (List ℕ)) → Followed R → Type 0
IsBegunAt recording station columns followed =
    IsOpenedAt recording.path.now (head_text (form_of_rows station.layout.form) columns) (form_sign (form_of_rows station.layout.form) columns) recording.sync followed

-- the messages, which were `old` and are now `new`, got a report of the file's opening, if it could be written (`told`): a
-- number of copied rows, of which no more is said, and how many bytes of a torn row were cut off
abbrev pub ReportsOpening : {F : Type 0} {D : Ghosts F} {A E : Type 0} → RowsFile F D → (told : Result A E) → (old new : Option (List ℕ)) → Type 0
ReportsOpening file told old new = (copied : ℕ) × OnOk told (Appends old new (opened_lines copied (torn_in file)))
