-- A table that a station wrote of a run: what is in a row of an answer is what a line says that may have answered its command. In the
-- field that line is the row's own.
use Rattle.gc_program_theorems.proofs.Common.{◌≡◌, ℕ, Bool, true, false, List, [], ◌∷◌, ◌++◌, map, Some, if◌then◌else◌, sym, ap, ◌∙◌, subst, arith, append_assoc, ◌||◌, slice_get, bytes_eq, false≢true, map-append, escaped, last_columns, row_fields, first_names, head_text, header, record_text, row_of, IsShown, is_among, quantity_names, Form, added_follow, columns_hold, fixed_found, records_read_back, Act, Record, texts_of, AreReadings, Reads, AreSound, Survey, front_text, text_by, AnyState, IsRowBy, under, Answers, AreOneForOne, AreReadAs, IsStationRun, IsTable, StationRun, TablesAreTheirOwn, acts_in, head_rows, own_lines, records_in, scope_of, table_form}
use Rattle.std.proofs.Math.Bool.{or-true}
use Rattle.std.proofs.lemmas.List.Folds.{list_any-append}
use Rattle.gc_program_theorems.proofs.Owning.{in_table, two_fields}
use Rattle.gc_program_theorems.proofs.Reading.{both_read, each_reads, none_read, row_reads}
use Rattle.gc_program_theorems.proofs.Shown.{ShowsAdded, ShowsCells, has_its_texts}
use Rattle.gc_program_theorems.proofs.Taken.{run_took}
use Rattle.gc_program_theorems.proofs.Written.{HasItsTexts, IsAnswered, answered_in_field, entry_of, one_for_one, written_by}

-- A row.

-- a name that is among the second of two lists is among both together
among_behind : (name : List ℕ) (xs ys : List (List ℕ)) → is_among name ys ≡ true → is_among name (xs ++ ys) ≡ true
among_behind name xs ys is = list_any-append (λ n. bytes_eq n name) xs ys ∙ ap (λ b. is_among name xs || b) is ∙ or-true (is_among name xs)

module _ (survey : Survey) (columns : Bool) (r : Record) where
  -- the row of the record, as a reader gives it
  abbrev pub row : List (List ℕ)
  row = map escaped (row_fields columns (entry_of survey r))

  -- the field of the record's row under a name
  abbrev at : List ℕ → List ℕ
  at name = under name (header columns survey.labels.columns) row

module _ (survey : Survey) (sound : AreSound survey.labels) (r : Record) where
  -- under the names that a record has whatever the text describes, its row shows the cells
  row_shows : (b : Bool) → ShowsCells survey r b false (at survey b r)
  row_shows false key known = records_read_back.row false (entry_of survey r) key
  row_shows true key known =
      subst (λ content. IsShown content (at survey true r key)) (fixed_found survey.labels.columns sound.new (entry_of survey r) key known)
      (records_read_back.row true (entry_of survey r) key)

  -- under those that its description adds, it has the values
  row_adds : (b : Bool) → b ≡ true → ShowsAdded survey r b false (at survey b r)
  row_adds false has = absurd (false≢true has)
  row_adds true has = record {
    holds = λ d line is name among named. columns_hold.row (entry_of survey r) d line name is sound.new (among_behind name quantity_names survey.labels.columns among);
    blank = λ d described none name among named. columns_hold.unanswered (entry_of survey r) name none sound.new (among_behind name quantity_names survey.labels.columns among);
  }

  -- under the names of the header the record's row has what `HasItsTexts` says
  row_stands : (columns : Bool) → HasItsTexts survey columns (at survey columns r) r
  row_stands columns = has_its_texts survey r columns false (at survey columns r) (row_shows columns) (row_adds columns)

-- A table.

-- the header, unless it is there already (`headed`), reads as one row: the names of the columns
head_reads : (headed columns : Bool) (names : List (List ℕ)) → map escaped names ≡ names → (form : Form) → form ≡ table_form columns
    → AreReadAs (if headed then [] else head_text form names) (if headed then [] else header columns names ∷ [])
head_reads true columns names plain form is = none_read
head_reads false columns names plain form is = subst (λ (f : Form). AreReadAs (head_text f names) (header columns names ∷ [])) (sym is) (names_read columns) where
  -- the header of a table with quantities (`true`) or without (`false`) reads as one row: the names of its columns
  names_read : (b : Bool) → AreReadAs (head_text (table_form b) names) (header b names ∷ [])
  names_read false = row_reads (header false names) (omega arith)
  names_read true = subst (λ fields. AreReadAs (head_text (table_form true) names) (fields ∷ [])) names_stay (row_reads (header true names) (omega arith)) where
    -- escaping changes nothing in the names of the header
    names_stay : map escaped (header true names) ≡ header true names
    names_stay =
        let last = map (λ c. c.name) last_columns in
        ap (map escaped) (added_follow.order names)
        ∙ ap (λ l. first_names ++ (quantity_names ++ l)) (map-append escaped names last ∙ ap (λ l. l ++ last) plain)
        ∙ sym (added_follow.order names)

module _ (CanAnswer : Answers) (reads : Reads) (are : AreReadings reads) (survey : Survey) (acts : List Act) (is : IsAnswered CanAnswer reads survey acts)
    (columns : Bool) (form : survey.layout.form ≡ table_form columns) where
  -- the text of a record is read as its row
  pub one_reads : (r : Record) → AreReadAs (text_by survey r) (row survey columns r ∷ [])
  one_reads r =
      let entry = entry_of survey r in
      let is_row : text_by survey r ≡ row_of (row_fields columns entry) = ap (λ (f : Form). record_text f entry) form ∙ in_table columns entry in
      subst (λ (t : List ℕ). AreReadAs t (row survey columns r ∷ [])) (sym is_row) (row_reads (row_fields columns entry) (two_fields columns entry))

  -- the row of each record that was written whole is by a line that may have answered it
  pub rows_by : (written others : List Record) → records_in survey reads acts ≡ written ++ others → (n : ℕ) (r : Record) → slice_get written n ≡ Some r
      → IsRowBy (CanAnswer n r) columns (at survey columns r) survey (scope_of survey reads) acts r
  rows_by written others order n r got = written_by CanAnswer reads are survey acts is columns (at survey columns r) r (row_stands survey is.labels r columns) written others order n got

  -- what comes before the records, and then the texts of these records, which were written whole, are a table
  pub written_reads : (written : List Record)
      → AreReadAs (front_text survey.layout survey.labels.columns ++ texts_of (text_by survey) written) (head_rows survey columns ++ map (row survey columns) written)
  written_reads written =
      both_read (front_text survey.layout survey.labels.columns) (texts_of (text_by survey) written) (head_rows survey columns) (map (row survey columns) written)
      (head_reads survey.layout.headed columns survey.labels.columns is.labels.plain survey.layout.form form) (each_reads (text_by survey) (row survey columns) one_reads written)

  -- the rows are those of these records, one for one
  pub rows_one_for_one : (written others : List Record) → records_in survey reads acts ≡ written ++ others
      → AreOneForOne (λ n fields r. IsRowBy (CanAnswer n r) columns (λ name. under name (header columns survey.labels.columns) fields) survey (scope_of survey reads) acts r) (map (row survey columns) written) written
  rows_one_for_one written others order =
      one_for_one (λ n fields r. IsRowBy (CanAnswer n r) columns (λ name. under name (header columns survey.labels.columns) fields) survey (scope_of survey reads) acts r) (row survey columns) written
      (rows_by written others order)

-- what the sink took of a run that is answered so is a table
pub tabled : (CanAnswer : Answers) (reads : Reads) → AreReadings reads → (run : StationRun) (had : List ℕ) → IsStationRun run → run.old.taken ≡ Some had
    → IsAnswered CanAnswer reads run.survey (acts_in run) → (columns : Bool) → run.survey.layout.form ≡ table_form columns → IsTable CanAnswer columns reads run had
tabled CanAnswer reads are run had is_run old is columns form =
    let took = run_took reads are run had is_run old in
    let survey = run.survey in
    let acts = acts_in run in
    let front = front_text survey.layout survey.labels.columns in
    let written = took.are.written in
    let texts = texts_of (text_by survey) written in
    let whole = written_reads CanAnswer reads are survey acts is columns form written in
    record {
      bytes = front ++ texts;
      torn = took.torn;
      took = took.is ∙ ap Some (append_assoc had front (texts ++ took.torn) ∙ ap (λ (l : List ℕ). had ++ l) (sym (append_assoc front texts took.torn)));
      are = took.are;
      rows = map (row survey columns) written;
      reads_as = whole;
      behind = λ held earlier first. both_read held (front ++ texts) earlier (head_rows survey columns ++ map (row survey columns) written) first whole;
      one_for_one = rows_one_for_one CanAnswer reads are survey acts is columns form written took.are.unwritten took.are.order;
    }

-- what a sink took of a run in the field is its own table
pub tables_own : {State : Type 0} → TablesAreTheirOwn State
tables_own ends kept is reads are x was columns form =
    tabled (own_lines ends AnyState kept reads x) reads are x.run x.had was.is_run was.took (answered_in_field ends kept is reads x was) columns form
