-- A run in the field with rows of answers: all that is asked in the law on rows holds of it at once.
use Rattle.gc_program_theorems.specs.Common.{Form, Csv, Json, Act, Snapshot, Record, texts_of, ForEachAndSomeReadings, Reads, Layout, LabelsSeen, Survey, PortsSeen, RunsAfterFront, text_in, AnyState, never_kept}
use Rattle.std.specs.Prelude.{◌≡◌, ℕ, Bool, true, false, List, [], Some, None, Ok, codes}
use Rattle.gc_program_theorems.specs.Eventful.{IsEventful, acts, at_start, commands, plan, program, records, reporting, runs, tally, chained_record, off_target_record, off_target_reply, empty_reply, measured_reply, number_record, numbered_reply, pointed_reply, points_record, unreadable_record}
use Rattle.gc_program_theorems.specs.Rows.{IsRowOfLine}
use Rattle.gc_program_theorems.specs.Objects.{AreOwnObjects}
use Rattle.gc_program_theorems.specs.Tables.{FieldRun, IsOwnTable, table_form}

-- the layout of records in this form, of a run that began at moment 0, for an output that has its header already
abbrev pub layout_in : Form → Layout
layout_in form = record { form = form; headed = true; run = 0 }

-- the layout of a table whose header is there already
abbrev pub table_layout : Layout
table_layout = layout_in Csv

-- the row of command 0 in the third cycle, in `table_layout`
abbrev pub points_row : List ℕ
points_row = codes "1970-01-01T00:00:00.000Z,1970-01-01T00:00:00.405Z,1970-01-01T00:00:00.410Z,3,0,7,,9027,answered,,0,0,,ok,1,\"%R1Q,9027,1:2.25,1.625,0,0,0\"\n"

-- the row of command 1 in the third cycle, in `table_layout`
abbrev pub chained_row : List ℕ
chained_row = codes "1970-01-01T00:00:00.000Z,1970-01-01T00:00:00.410Z,1970-01-01T00:00:00.435Z,3,1,7,,2108,answered,,0,0,\"2.25,1.625,110.0625\",ok,1,\"%R1Q,2108,2:3000,1\"\n"

-- the row of command 2 in the third cycle, in `table_layout`
abbrev pub off_target_row : List ℕ
off_target_row = codes "1970-01-01T00:00:00.000Z,1970-01-01T00:00:00.410Z,1970-01-01T00:00:00.435Z,3,2,8,,2108,off_target,,0,0,\"0.5,1.5,87.25\",,1,\"%R1Q,2108,3:3000,1\"\n"

-- the row of command 3 in the third cycle, in `table_layout`
abbrev pub number_row : List ℕ
number_row = codes "1970-01-01T00:00:00.000Z,1970-01-01T00:00:00.410Z,1970-01-01T00:00:00.435Z,3,3,1,,5003,answered,,0,0,31,ok,1,\"%R1Q,5003,4:\"\n"

-- the row of command 4 in the third cycle, in `table_layout`
abbrev pub unreadable_row : List ℕ
unreadable_row = codes "1970-01-01T00:00:00.000Z,1970-01-01T00:00:00.410Z,1970-01-01T00:00:00.435Z,3,4,2,,5003,unreadable,15,0,0,,,1,\"%R1Q,5003,5:\"\n"

-- the labels of a text that gives none
abbrev pub no_labels : LabelsSeen
no_labels = record { names = []; described = []; columns = [] }

-- the run as a station measures it: its commands by its plan, written in this form
abbrev pub survey : Form → Survey
survey form = record { plan = plan; tasks = commands; max_turns = 200; layout = layout_in form; labels = no_labels }

-- what a sink takes of that run
abbrev pub taken : Form → List ℕ
taken form = texts_of (text_in (layout_in form) no_labels) records

-- the ports of a station whose link recorded the acts `recorded` and whose sink took the bytes `taken`; `turns` is what was seen
-- at each act
abbrev pub ports_at : List Act → List ℕ → List Snapshot → PortsSeen
ports_at recorded taken turns =
    record { input = record { remaining = None; reads = 0; ended = true; failed = false }; acts = Some recorded; taken = Some taken; messages = None; turns = turns }

-- the run as one in the field, written in this form; `turns` is what was seen at each act
abbrev pub run_in : Form → (turns : List Snapshot) → FieldRun (List ℕ)
run_in form turns =
    record {
      run = record { survey = survey form; old = ports_at [] [] []; new = ports_at acts (taken form) turns; result = Ok tally; recorded = acts };
      had = [];
      in_flight = at_start;
      happened = runs;
    }

module _ (reads : Reads) where
  -- the row of a record is this text, and its own, with this line as its reply
  abbrev pub IsOwnText : Record → (row line : List ℕ) → Type 0
  IsOwnText r row line =
      (text_in table_layout no_labels r ≡ row)
      × IsRowOfLine reporting AnyState never_kept table_layout no_labels at_start (program reads) r line

  -- the run is eventful, and the row of each command that a reply in time settled is its own: of both commands of the chain, of
  -- the one that was measured off target, of a number, and of one whose values don't read
  pub record HasOwnRows : Type 0 where
    pub run : IsEventful reads
    pub points : IsOwnText points_record points_row pointed_reply
    pub chained : IsOwnText chained_record chained_row measured_reply
    pub off_target : IsOwnText off_target_record off_target_row off_target_reply
    pub number : IsOwnText number_record number_row numbered_reply
    pub unreadable : IsOwnText unreadable_record unreadable_row empty_reply
    -- what was seen at each act, where the run was written in a form
    pub turns : Form → List Snapshot
    -- the table that its sink took is its own, too, with a column for each quantity or without
    pub tables : (columns : Bool) → IsOwnTable reporting AnyState never_kept columns reads (run_in (table_form columns) (turns (table_form columns)))
    -- and so are its lines of JSON
    pub objects : AreOwnObjects reporting AnyState never_kept reads (run_in Json (turns Json))

-- `HasOwnRows` holds for every function that gives what each reply says of its call, and there is such a function. In each form
-- the run is one as a station's contract has it: its link recorded these acts, and its sink took the texts of its records
pub record SomeRowIsItsOwn : Type 0 where
  pub own : ForEachAndSomeReadings HasOwnRows
  pub measured : (form : Form) → (turns : List Snapshot) × RunsAfterFront (survey form) (ports_at [] [] []) (ports_at acts (taken form) turns) (Ok tally)
