-- The rows of a run in the field are their own: what is in a row of an answer was made by the instrument on executing the
-- very request of the row's cycle and place.
use Rattle.gc_program_theorems.proofs.Common.{◌≡◌, ℕ, ◌<◌, Bool, true, false, List, [], ◌∷◌, length, Option, None, Some, Result, Ok, Err, refl, sym, subst, ap, ◌∙◌, arith, codes, AllByRecursion, IsSmallNumber, reply_at, ReplyFields, IsReply, reply_found, Unreadable as DoesntRead, heard, id_in, KeptReply, ValueFault, End, fault_of, line_of, name_text, Task, record_text, Bytes, Code, field_of, Entry, bytes_content, fault_content, line_content, moment_content, row_fields, row_of, com_of, code_of, fault_field, moment_text, values_of, reply_columns, rows_read_back, Act, AnswerIsJustified, Record, Runs, opening, form_at, IsSaid, AreReadings, Reads, Scope, IsAsRead, each_said, Plan, answers_true, Layout, LabelsSeen, entry_in, text_in, Ends, UnderWay, AnyState, IsOwnAnswer, Program, program_parts, program_records, stretches, run_faithful, column, FieldsSay, IsOwnIfAnswered, IsRowOfReply, RowsAreTheirOwn, SayFault, same_Some, table_form, all_read, came_at}
use Rattle.gc_lines.specs.declared.fault.LineFault.{LineFault}
use Rattle.gc_texts.specs.declared.form.Form.{Form}
use Rattle.gc_program_theorems.proofs.Endings.{is_unreadable}

-- a line from which an id is heard (`heard`) reads as a reply
pub heard_is_reply : (line : List ℕ) (id : ℕ) → heard line ≡ Some id → (r : ReplyFields) × IsReply line r
heard_is_reply line id h = by_read (reply_at line) refl where
  -- the lemma above, by what the line reads as
  by_read : (read : Result ReplyFields LineFault) → reply_at line ≡ read → (r : ReplyFields) × IsReply line r
  by_read (Ok r) e = (r, reply_found line r e)
  by_read (Err f) e = let none = ap id_in e in absurd (cc)

-- a row has more than one field
pub two_fields : (columns : Bool) (r : Entry) → 1 < length (row_fields columns r)
two_fields columns r = omega arith

-- the field of a moment is its text; empty if there is none
moment_field : (o : Option ℕ) → field_of (moment_content o) ≡ moment_text o
moment_field None = refl
moment_field (Some utc) = refl

-- the field of bytes is these bytes
bytes_field : (bytes : List ℕ) → field_of (bytes_content bytes) ≡ bytes
bytes_field [] = refl
bytes_field (b ∷ bs) = refl

-- the field of a fault is its number; empty if there is none
number_field : (o : Option ValueFault) → field_of (fault_content o) ≡ fault_field o
number_field None = refl
number_field (Some fault) = refl

-- the text of a record in a table is the row of its fields
pub in_table : (columns : Bool) (r : Entry) → record_text (table_form columns) r ≡ row_of (row_fields columns r)
in_table false r = refl
in_table true r = refl

-- the fields of a record's row
abbrev pub record_fields : Layout → Bool → LabelsSeen → Record → List (List ℕ)
record_fields layout columns labels r = row_fields columns (entry_in layout labels r)

-- if this line, a reply, ended the record's command in time, the fields of the record's row say what the record and the line
-- say
fields_say : (layout : Layout) (columns : Bool) (labels : LabelsSeen) (r : Record) (line : List ℕ) → line_of r.end ≡ Some line
    → (reply : ReplyFields) × IsReply line reply → FieldsSay layout labels (record_fields layout columns labels r) r line
fields_say layout columns labels r line answered reply =
    let fields = record_fields layout columns labels r in
    let said = reply_columns line reply.0 reply.1 in
    let rc_com : column (codes "rc_com") fields ≡ com_of line = ap (λ o. field_of (line_content (λ l. Code (com_of l)) o)) answered in
    let rc : column (codes "rc") fields ≡ code_of line = ap (λ o. field_of (line_content (λ l. Code (code_of l)) o)) answered in
    let values : column (codes "values") fields ≡ values_of line = ap (λ o. field_of (line_content (λ l. Bytes (values_of l)) o)) answered in
    record {
      run = refl;
      command = record {
        sent = moment_field r.sent;
        time = refl;
        cycle = refl;
        step = refl;
        target = refl;
        procedure = refl;
        outcome = refl;
        fault = number_field (fault_of r.end);
      };
      name = bytes_field (name_text r.command.target labels.names);
      says = record {
        reply = reply.0;
        is_reply = reply.1;
        rc_com = subst (λ (t : List ℕ). IsSmallNumber t reply.0.rc_com) (sym rc_com) said.rc_com;
        rc = subst (λ (t : List ℕ). IsSmallNumber t reply.0.rc) (sym rc) said.rc;
      };
      values = values ∙ said.values;
    }

-- if this line, a reply, ended the record's command in time, and it is unreadable only as its line reads, the row has that fault
fields_fault : (reads : Reads) → AreReadings reads → (form : Option Form) → (layout : Layout) (columns : Bool) (labels : LabelsSeen) (r : Record) (line : List ℕ) → line_of r.end ≡ Some line
    → (reply : ReplyFields) × IsReply line reply → IsAsRead (reads form) r → SayFault form (record_fields layout columns labels r) r line
fields_fault reads are form layout columns labels r line answered reply as_read unreadable =
    let e = is_unreadable r.end unreadable in
    let reading = each_said form r.command.call reply.0 in
    let same : e.0 ≡ line = same_Some e.0 line (ap line_of (sym e.2) ∙ answered) in
    let by_line : reads form r.command.call line ≡ DoesntRead e.1 = subst (λ (l : List ℕ). reads form r.command.call l ≡ DoesntRead e.1) same (as_read e.0 e.1 e.2) in
    let says : reading.0 ≡ DoesntRead e.1 = sym (are form r.command.call line reading.0 (record { reply = reply.0; is_reply = reply.1; is_reading = reading.1 })) ∙ by_line in
    let number = number_field (fault_of r.end) ∙ ap (λ (end : End). fault_field (fault_of end)) e.2 in
    (reply.0, reply.1, e.1, subst (IsSaid form r.command.call reply.0) says reading.1, number)

-- if a record's answer is justified, and a reply in time ended its command, its row is that of the reply's line
row_of_reply : (layout : Layout) (columns : Bool) (labels : LabelsSeen) → layout.form ≡ table_form columns → (plan : Plan) (commands : List Task) (scope : Scope) (acts : List Act) (r : Record)
    → AnswerIsJustified plan commands scope acts r → (line : List ℕ) → line_of r.end ≡ Some line → IsRowOfReply layout labels r line
row_of_reply layout columns labels form plan commands scope acts r came line answered =
    let justified = came line answered in
    let fields = record_fields layout columns labels r in
    let row : text_in layout labels r ≡ row_of fields =
    ap (λ f. record_text f (entry_in layout labels r)) form ∙ in_table columns (entry_in layout labels r) in
    record {
      fields = fields;
      row = row;
      reads_back = λ behind. rw row (rows_read_back.row fields (two_fields columns (entry_in layout labels r)) behind);
      says = fields_say layout columns labels r line answered (heard_is_reply line _ justified.reply.id);
    }

-- a row of a record that this line ended, and the fault for which the line doesn't read, if it doesn't
pub record HasRowAndFault (layout : Layout) (labels : LabelsSeen) (r : Record) (line : List ℕ) : Type 0 where
  pub is_of : IsRowOfReply layout labels r line
  pub fault : (reads : Reads) → AreReadings reads → (form : Option Form) → IsAsRead (reads form) r → SayFault form is_of.fields r line

-- if a record's answer is justified, and a reply in time ended its command, it has both
pub row_and_fault : (layout : Layout) (columns : Bool) (labels : LabelsSeen) → layout.form ≡ table_form columns → (plan : Plan) (commands : List Task) (scope : Scope) (acts : List Act) (r : Record)
    → AnswerIsJustified plan commands scope acts r → (line : List ℕ) → line_of r.end ≡ Some line → HasRowAndFault layout labels r line
unfolding row_of_reply
row_and_fault layout columns labels form plan commands scope acts r came line answered =
    record {
      is_of = row_of_reply layout columns labels form plan commands scope acts r came line answered;
      fault = λ reads are form_read as_read. fields_fault reads are form_read layout columns labels r line answered (heard_is_reply line _ (came line answered).reply.id) as_read;
    }

module _ {State : Type 0} (ends : Ends State) (kept : State → Option KeptReply) (layout : Layout) (columns : Bool) (labels : LabelsSeen) (form : layout.form ≡ table_form columns)
    (u : UnderWay State) (x : Program State) where
  -- the answer of this record of the run is its own
  abbrev AnswerIsOwn : Record → Type 0
  AnswerIsOwn = IsOwnAnswer ends AnyState kept x.commands (program_parts x) (stretches ends u x.runs)

  -- the answer of this record of the run is justified
  abbrev IsJustified : Record → Type 0
  IsJustified = AnswerIsJustified x.plan x.commands x.scope x.acts

  -- if a record's answer is its own and justified, and a reply in time ended its command, its row is its own; in a run, where the record
  -- is unreadable only as its line reads
  one_own : Runs x.plan x.commands (opening x.plan x.scope) x.acts → (r : Record) → AnswerIsOwn r → IsJustified r → IsAsRead (x.scope.reads (form_at x.commands r.place)) r
      → IsOwnIfAnswered ends AnyState kept layout labels u x r
  one_own runs r own came as_read line answered =
      let row = row_and_fault layout columns labels form x.plan x.commands x.scope x.acts r came line answered in
      record {
        is_of = row.is_of;
        came = came_at x.plan x.commands x.scope x.acts runs r line answered (came line answered);
        fault = λ are. row.fault x.scope.reads are (form_at x.commands r.place) as_read;
        own = own line answered;
      }

  -- if the answers of these records are their own and justified, the row of each of them whose command a reply in time ended is
  -- its own
  each_own : Runs x.plan x.commands (opening x.plan x.scope) x.acts → (records : List Record) → AllByRecursion AnswerIsOwn records → AllByRecursion IsJustified records
      → AllByRecursion (λ r. IsAsRead (x.scope.reads (form_at x.commands r.place)) r) records → AllByRecursion (IsOwnIfAnswered ends AnyState kept layout labels u x) records
  each_own runs [] own came as_read = tt
  each_own runs (r ∷ records) own came as_read = (one_own runs r own.0 came.0 as_read.0, each_own runs records own.1 came.1 as_read.1)

-- in a run in the field, the row of each record whose command a reply in time ended is its own
pub rows_own : {State : Type 0} → RowsAreTheirOwn State
rows_own ends kept is layout columns labels form u x field =
    let faithful = run_faithful ends AnyState kept is u x field in
    each_own ends kept layout columns labels form u x field.runs (program_records x) faithful.own (answers_true x.plan x.commands x.scope x.acts field.runs)
    (all_read x.plan x.commands x.scope x.acts)
