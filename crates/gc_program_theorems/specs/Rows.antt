-- The rows of a station in the field, this project's own: what is in the columns of a row of an answer was made by the
-- instrument on executing the very request of that row's cycle and place. A part is what a station sees of its run from one
-- synchronization to the next, and a stretch what happens on the line meanwhile, once it has synchronized.
use Rattle.gc_program_theorems.specs.Common.{decimal, AllByRecursion, value_fault_number, ValueFault, KeptReply, line_of, name_text, stamp_text, ReadsBackAs, row_of, ReplyFields, IsReply, Record, form_at, IsSaid, AreReadings, CameAt, Layout, LabelsSeen, text_in, Ends, UnderWay, OfAnyInstrument, IsInField, IsItsOwn, Program, program_parts, program_records, stretches}
use Rattle.std.specs.Prelude.{◌≡◌, ℕ, Bool, List, Option, Some, codes}
use Rattle.gc_catalogue.specs.declared.answer.Reading.TheVariants.{Unreadable}
use Rattle.gc_texts.specs.declared.form.Form.{Form}
use Rattle.gc_program_theorems.specs.Fields.{SaysCodes, SaysCommand, under}
use Rattle.gc_program_theorems.specs.Tables.{table_form}
use Rattle.gc_rows.specs.Records as rows

-- the field in the column of this name, of a row with these fields; `name` is that of one of the first thirteen columns
abbrev pub column : List ℕ → List (List ℕ) → List ℕ
column name fields = under name rows.first_names fields

-- the fields of a row that is written in this layout, with these labels, say when the run began, what the record says of its
-- command (`SaysCommand`), the name of its target, and the codes and parameters of its reply, this line
pub record FieldsSay (layout : Layout) (labels : LabelsSeen) (fields : List (List ℕ)) (r : Record) (line : List ℕ) : Type 0 where
  pub run : column (codes "run") fields ≡ stamp_text layout.run
  pub command : SaysCommand (λ name. column name fields) r
  pub name : column (codes "name") fields ≡ name_text r.command.target labels.names
  pub says : SaysCodes (λ name. column name fields) line
  pub values : column (codes "values") fields ≡ says.reply.params

-- if the outcome is `unreadable`, the fields of a row have the number of the fault for which the parameters of the reply, this line, don't
-- read as an answer to the record's command, by the form if there is one
abbrev pub SayFault : Option Form → (fields : List (List ℕ)) → Record → (line : List ℕ) → Type 0
SayFault form fields r line =
    column (codes "outcome") fields ≡ codes "unreadable" →
    (reply : ReplyFields) × IsReply line reply × (why : ValueFault) × IsSaid form r.command.call reply (Unreadable why) × (column (codes "fault") fields ≡ decimal (value_fault_number why))

-- the row of a record that is written in this layout, with these labels, is by the line of its reply: a reader of
-- comma-separated values gives the row back as its fields, `escaped` as the row has them, whatever stands after it; and the fields
-- say what the line says
pub record IsRowOfReply (layout : Layout) (labels : LabelsSeen) (r : Record) (line : List ℕ) : Type 0 where
  pub fields : List (List ℕ)
  pub row : text_in layout labels r ≡ row_of fields
  pub reads_back : ReadsBackAs (text_in layout labels r) fields
  pub says : FieldsSay layout labels fields r line

module _ {State : Type 0} (ends : Ends State) (Good : State → Type 0) (kept : State → Option KeptReply) where
  -- Of the run `x`, with `u` in flight at its start, whose records are written in a layout, with these labels.
  module _ (layout : Layout) (labels : LabelsSeen) (u : UnderWay State) (x : Program State) where
    -- the row of a record in a table is its own: it is that of this line (`IsRowOfReply`), which was made by the instrument on executing the
    -- request of the record's cycle and place; it has the moment of the read that brought the line; and, where the run has of each line what
    -- that says, the fault for which it doesn't read
    pub record IsRowOfLine (r : Record) (line : List ℕ) : Type 0 where
      pub is_of : IsRowOfReply layout labels r line
      pub came : CameAt x.plan x.commands x.scope x.acts r line
      pub fault : AreReadings x.scope.reads → SayFault (form_at x.commands r.place) is_of.fields r line
      pub own : IsItsOwn ends Good kept x.commands (program_parts x) (stretches ends u x.runs) r line

    -- if a reply in time ended the record's command (`line_of`), its row is its own
    abbrev pub IsOwnIfAnswered : Record → Type 0
    IsOwnIfAnswered r = (line : List ℕ) → line_of r.end ≡ Some line → IsRowOfLine r line

-- the row of each record whose command a reply in time ended is its own: for any instrument, every layout of a table, all labels, every
-- plan, all commands, every run of the station in the field (`IsInField`), and all that the line and the instrument may do meanwhile
abbrev pub RowsAreTheirOwn : Type 0 → Type 0
RowsAreTheirOwn State = OfAnyInstrument {State = State} (λ ends Good kept.
    (layout : Layout) (columns : Bool) (labels : LabelsSeen) → layout.form ≡ table_form columns →
    (u : UnderWay State) (x : Program State) → IsInField ends Good kept u x →
    AllByRecursion (IsOwnIfAnswered ends Good kept layout labels u x) (program_records x))
