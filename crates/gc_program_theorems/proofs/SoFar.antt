-- What a run has written so far, at any of its moments: rows that are its own.
use Rattle.gc_program_theorems.proofs.Common.{◌≡◌, ℕ, ◌-◌, Bool, List, ◌++◌, length, drop, map, Option, refl, sym, ap, ◌∙◌, subst, append_assoc, append-nil, flat_map-append, append_cancel_left, take-append-drop, KeptReply, Act, Json, Grew, Record, texts_of, form_at, AreReadings, Reads, AnswerIsJustified, answers_true, all_at, came_at, one_added, records_stay, Survey, front_text, text_by, Ends, AnyState, IsAnInstrument, IsOwnAnswer, stretches, run_faithful, run_local, harmed_program_of, AreTyped, AreObjectsSoFar, AreWrittenSoFar, FieldRunSoFar, HarmedRunSoFar, IsFieldRunSoFar, IsHarmedRunSoFar, IsRunSoFar, IsTableSoFar, ObjectsSoFarAreOwnOrDamaged, ObjectsSoFarAreTheirOwn, RowsSoFarAreOwnOrDamaged, RowsSoFarByDamagedLinesAreFew, RunSoFar, TablesSoFarAreOwnOrDamaged, TablesSoFarAreTheirOwn, before_last, own_lines_so_far, own_or_damaged_so_far, records_so_far, texts_by, Answers, head_rows, parts_in, program_of, records_in, scope_of, table_form}
use Rattle.gc_program_theorems.proofs.Fronts.{front_has_whole}
use Rattle.gc_program_theorems.proofs.Objected.{each_line, line_of_record, no_front, objects_one_for_one, one_line, written_unbroken}
use Rattle.gc_program_theorems.proofs.Owning.{row_and_fault}
use Rattle.gc_program_theorems.proofs.Reading.{both_read}
use Rattle.gc_program_theorems.proofs.Tabled.{row, rows_one_for_one, written_reads}
use Rattle.gc_program_theorems.proofs.Written.{IsAnswered}

-- acts are those before the last one, and maybe the last
abbrev last_of : List Act → List Act
last_of acts = drop (length acts - 1) acts

-- what all acts settle begins with what those before the last one settled
pub news_grew : (survey : Survey) (reads : Reads) (acts : List Act) → Grew (records_in survey reads (before_last acts)) (records_in survey reads acts)
news_grew survey reads acts =
    subst (λ (xs : List Act). Grew (records_in survey reads (before_last acts)) (records_in survey reads xs)) (take-append-drop (length acts - 1) acts)
    (records_stay survey.plan survey.tasks (scope_of survey reads) (before_last acts) (last_of acts))

-- what a run so far has written: its records as far as they are written, and what its sink has taken
pub record Written (reads : Reads) (x : RunSoFar) : Type 0 where
  pub torn : List ℕ
  pub are : AreWrittenSoFar reads x torn
  pub is : x.taken ≡ (x.had ++ front_text x.survey.layout x.survey.labels.columns) ++ (texts_of (text_by x.survey) are.written ++ torn)

-- each run so far has written so
pub written_so_far : (reads : Reads) (x : RunSoFar) → IsRunSoFar reads x → Written reads x
written_so_far reads x is =
    let text = text_by x.survey in
    let settled = records_in x.survey reads (before_last x.acts) in
    let news = news_grew x.survey reads x.acts in
    let both : texts_by x.survey reads x.acts ≡ texts_of text settled ++ texts_of text news.0 = ap (texts_of text) news.1 ∙ flat_map-append text settled news.0 in
    let split : texts_of text news.0 ≡ is.since ++ is.own.rest =
    append_cancel_left (texts_of text settled) (texts_of text news.0) (is.since ++ is.own.rest)
    (sym both ∙ is.own.split ∙ append_assoc (texts_of text settled) is.since is.own.rest) in
    let w = front_has_whole text news.0 is.since is.own.rest split in
    record {
      torn = w.torn;
      are = record {
        written = settled ++ w.written;
        unwritten = w.unwritten;
        order = news.1 ∙ ap (λ (l : List Record). settled ++ l) w.order ∙ sym (append_assoc settled w.written w.unwritten);
        settled = (w.written, refl);
        part = w.part;
      };
      is = is.took ∙ ap (λ (l : List ℕ). (x.had ++ front_text x.survey.layout x.survey.labels.columns) ++ l)
          (ap (λ (l : List ℕ). texts_of text settled ++ l) w.is ∙ sym (append_assoc (texts_of text settled) (texts_of text w.written) w.torn)
          ∙ ap (λ (l : List ℕ). l ++ w.torn) (sym (flat_map-append text settled w.written)));
    }

-- what the sink of a run so far has taken is a table, if its records are answered by such lines
pub table_so_far : (CanAnswer : Answers) (reads : Reads) → AreReadings reads → (x : RunSoFar) → IsRunSoFar reads x → IsAnswered CanAnswer reads x.survey x.acts
    → (columns : Bool) → x.survey.layout.form ≡ table_form columns → IsTableSoFar CanAnswer columns reads x
table_so_far CanAnswer reads are x is_run is columns form =
    let w = written_so_far reads x is_run in
    let front = front_text x.survey.layout x.survey.labels.columns in
    let written = w.are.written in
    let texts = texts_of (text_by x.survey) written in
    let whole = written_reads CanAnswer reads are x.survey x.acts is columns form written in
    record {
      bytes = front ++ texts;
      torn = w.torn;
      took = w.is ∙ append_assoc x.had front (texts ++ w.torn) ∙ ap (λ (l : List ℕ). x.had ++ l) (sym (append_assoc front texts w.torn));
      are = w.are;
      rows = map (row x.survey columns) written;
      reads_as = whole;
      behind = λ held earlier first. both_read held (front ++ texts) earlier (head_rows x.survey columns ++ map (row x.survey columns) written) first whole;
      one_for_one = rows_one_for_one CanAnswer reads are x.survey x.acts is columns form written w.are.unwritten w.are.order;
    }

-- or lines of JSON
pub objects_so_far : (CanAnswer : Answers) (reads : Reads) → AreReadings reads → (x : RunSoFar) → IsRunSoFar reads x → IsAnswered CanAnswer reads x.survey x.acts
    → x.survey.layout.form ≡ Json → AreTyped x.survey (records_so_far reads x) → AreObjectsSoFar CanAnswer reads x
objects_so_far CanAnswer reads are x is_run is form small =
    let w = written_so_far reads x is_run in
    let written = w.are.written in
    let line = line_of_record CanAnswer reads are x.survey x.acts is form small in
    let nothing_first : x.had ++ front_text x.survey.layout x.survey.labels.columns ≡ x.had = ap (λ (l : List ℕ). x.had ++ l) (no_front x.survey.layout.headed x.survey.labels.columns x.survey.layout.form form) ∙ append-nil x.had in
    record {
      lines = map line written;
      torn = w.torn;
      took = w.is ∙ ap (λ (l : List ℕ). l ++ (texts_of (text_by x.survey) written ++ w.torn)) nothing_first
          ∙ ap (λ (l : List ℕ). x.had ++ (l ++ w.torn)) (each_line (text_by x.survey) line (one_line CanAnswer reads are x.survey x.acts is form small) written);
      are = w.are;
      unbroken = written_unbroken CanAnswer reads are x.survey x.acts is form small written w.are.unwritten w.are.order;
      one_for_one = objects_one_for_one CanAnswer reads are x.survey x.acts is form small written w.are.unwritten w.are.order;
    }

-- a run in the field so far is answered by lines that are its records' own
pub answered_so_far : {State : Type 0} (ends : Ends State) (kept : State → Option KeptReply) → IsAnInstrument ends AnyState kept → (reads : Reads) (x : FieldRunSoFar State)
    → IsFieldRunSoFar ends kept reads x → IsAnswered (own_lines_so_far ends kept reads x) reads x.run.survey x.run.acts
answered_so_far ends kept is reads x was =
    let faithful = run_faithful ends AnyState kept is x.in_flight (program_of x.run.survey reads x.run.acts x.happened) was.in_field in
    record {
      labels = was.is_run.labels;
      runs = was.in_field.runs;
      answers = λ n r got.
          all_at (IsOwnAnswer ends AnyState kept x.run.survey.tasks (parts_in x.run.survey reads x.run.acts) (stretches ends x.in_flight x.happened)) (records_so_far reads x.run) n r
          faithful.own got;
    }

-- one over a line that damages, by lines that are own or damaged
pub answered_amid_damage : {State : Type 0} (ends : Ends State) (kept : State → Option KeptReply) → IsAnInstrument ends AnyState kept → (reads : Reads) (x : HarmedRunSoFar State)
    → IsHarmedRunSoFar ends kept reads x → IsAnswered (own_or_damaged_so_far ends reads x) reads x.run.survey x.run.acts
answered_amid_damage ends kept is reads x was =
    let local = run_local ends AnyState kept is x.in_flight (harmed_program_of x.run.survey reads x.run.acts x.happened) was.in_field in
    record { labels = was.is_run.labels; runs = was.in_field.runs; answers = λ n r got. local.answers n r got }

-- the law: what the sink of a run in the field has taken so far is its own table
pub tables_so_far_own : {State : Type 0} → TablesSoFarAreTheirOwn State
tables_so_far_own ends kept is reads are x was columns form =
    table_so_far (own_lines_so_far ends kept reads x) reads are x.run was.is_run (answered_so_far ends kept is reads x was) columns form

-- or its own objects
pub objects_so_far_own : {State : Type 0} → ObjectsSoFarAreTheirOwn State
objects_so_far_own ends kept is reads are x was form small =
    objects_so_far (own_lines_so_far ends kept reads x) reads are x.run was.is_run (answered_so_far ends kept is reads x was) form small

-- over a line that damages it is a table by lines that are own or damaged
pub tables_so_far_own_or_damaged : {State : Type 0} → TablesSoFarAreOwnOrDamaged State
tables_so_far_own_or_damaged ends kept is reads are x was columns form =
    table_so_far (own_or_damaged_so_far ends reads x) reads are x.run was.is_run (answered_amid_damage ends kept is reads x was) columns form

-- or such objects
pub objects_so_far_own_or_damaged : {State : Type 0} → ObjectsSoFarAreOwnOrDamaged State
objects_so_far_own_or_damaged ends kept is reads are x was form small =
    objects_so_far (own_or_damaged_so_far ends reads x) reads are x.run was.is_run (answered_amid_damage ends kept is reads x was) form small

-- the row of each record whose command a reply in time ended is that of a line that is own or damaged
pub rows_so_far_own_or_damaged : {State : Type 0} → RowsSoFarAreOwnOrDamaged State
rows_so_far_own_or_damaged ends kept is reads are x was columns form place r got line answers =
    let survey = x.run.survey in
    let acts = x.run.acts in
    let scope = scope_of survey reads in
    let came = all_at (AnswerIsJustified survey.plan survey.tasks scope acts) (records_so_far reads x.run) place r (answers_true survey.plan survey.tasks scope acts was.in_field.runs) got in
    let row = row_and_fault survey.layout columns survey.labels form survey.plan survey.tasks scope acts r came line answers in
    record {
      is_of = row.is_of;
      came = came_at survey.plan survey.tasks scope acts was.in_field.runs r line answers (came line answers);
      fault = row.fault reads are (form_at survey.tasks r.place) (one_added survey.plan survey.tasks scope acts was.in_field.runs place r got).1;
      answer = (answered_amid_damage ends kept is reads x was).answers place r got line answers;
    }

-- few records are by damaged lines
pub rows_so_far_few : {State : Type 0} → RowsSoFarByDamagedLinesAreFew State
rows_so_far_few ends kept is reads are x was = (run_local ends AnyState kept is x.in_flight (harmed_program_of x.run.survey reads x.run.acts x.happened) was.in_field).few_records
