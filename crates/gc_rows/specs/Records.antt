-- Records: how a command ended, with its moments, as a line, as a row of comma-separated values, or as a line of JSON. The words are
-- this project's own.
use Rattle.gc_rows.specs.Common.{decimal, value_fault_number, ValueFault, End, word_of, fault_of, line_of, escaped, stamp_text}
use Rattle.std.specs.Prelude.{ℕ, Bool, true, false, List, [], ◌∷◌, ◌++◌, map, Option, None, Some, codes}
use Rattle.gc_rows.specs.declared.record.EndedCommand.{EndedCommand}
use Rattle.gc_rows.specs.declared.record.Form.{Form}
use Rattle.gc_rows.specs.declared.record.Form.TheVariants.{Lines, Csv, Columns, Json}
use Rattle.gc_rows.specs.Columns.{Entry, entry_seen, run_column, first_columns, row_columns, row_fields, members_after_run}
use Rattle.gc_rows.specs.JsonLines.{json_line}
use Rattle.gc_rows.specs.Rows.{row_of}

-- a space and the number of a fault; empty if there is no fault
abbrev pub spaced_fault : Option ValueFault → List ℕ
spaced_fault None = []
spaced_fault (Some fault) = codes " " ++ decimal (value_fault_number fault)

-- a space and the line of a reply, escaped as in a row; empty if there is no line
abbrev pub spaced_line : Option (List ℕ) → List ℕ
spaced_line None = []
spaced_line (Some line) = codes " " ++ escaped line

-- how a command ended: the outcome, and the number of its fault and the line of its reply, if there are these. The bytes of the line are
-- escaped, so that no reply can look like another record
abbrev pub ending_text : End → List ℕ
ending_text end = codes " " ++ word_of end ++ spaced_fault (fault_of end) ++ spaced_line (line_of end)

-- the line of a record: when its command ended, the command's place, its target, and how it ended
abbrev pub record_line : Entry → List ℕ
record_line r =
    stamp_text r.when.stamp.utc ++ codes " " ++ decimal r.when.stamp.turn.place ++ codes " " ++ decimal r.command.target ++ ending_text r.end ++ codes "\n"

-- the record of an entry in this form. In the form `Lines` there is neither the target's name nor the request, nor the moment at which
-- that was sent
abbrev pub record_text : Form → Entry → List ℕ
record_text Lines r = record_line r
record_text Csv r = row_of (row_fields false r)
record_text Columns r = row_of (row_fields true r)
record_text Json r = json_line r.when.run (members_after_run r)

-- the record of a command that ended, in this form
abbrev pub record_of : Form → EndedCommand → List ℕ
record_of form ended = record_text form (entry_seen ended)

-- the names of the columns before the quantities
abbrev pub first_names : List (List ℕ)
first_names = map (λ c. c.name) (run_column ∷ first_columns)

-- the names of the columns of a row, without those of the quantities, or with them and with these
abbrev pub header : (has_quantities : Bool) → (columns : List (List ℕ)) → List (List ℕ)
header has_quantities columns = map (λ c. c.name) (row_columns has_quantities columns)

-- what comes before all records, where descriptions add columns with these names: the names of the columns as a row, or nothing in the
-- forms that have no columns
abbrev pub head_text : Form → (columns : List (List ℕ)) → List ℕ
head_text Lines columns = []
head_text Json columns = []
head_text Csv columns = row_of (header false columns)
head_text Columns columns = row_of (header true columns)

-- the bytes that a file of records begins with: what comes before all records, which is nothing in the form `Lines`; or, in the form
-- `Json`, the bytes that each line begins with
abbrev pub form_sign : Form → (columns : List (List ℕ)) → List ℕ
form_sign Json columns = codes "{\"run\":\""
form_sign form columns = head_text form columns
