-- Lines of JSON that a station wrote of a run: what is in the object of an answer is what a line says that may have answered its
-- command. In the field that line is the object's own.
use Rattle.gc_program_theorems.proofs.Common.{◌≡◌, ℕ, ◌<◌, true, List, [], ◌∷◌, ◌++◌, map, inl, inr, Some, if◌then◌else◌, refl, sym, ap, ◌∙◌, subst, append-nil, ◌&&◌, ◌||◌, not, codes, slice_get, ◌==◌, AllByRecursion, flat_map, bytes_eq, and_parts, cases_Bool, cond_both, false≢true, bytes_eq-Decides, every_front as all_front, are_columns, ends_as_text, is_column, is_named, names_of_row, Lacks, DescriptionSeen, described_as, description_seen, line_of, FieldSeen, AreBytes, name_text, stamp_text, Description, lookup, Entry, cells_after_run, cells_if, cells_in, counted_answer, first_columns, items_column, last_columns, members_after_run, object_cells, quantity_cells, run_column, members_text, string_text, HasFieldNames, record_read, HasColumns, IsShown, is_among, text_of, head_text, record_text, procedure_of, Form, Json, each_fit, columns_hold, lookup_behind, object_lookup, records_read_back, Act, Record, texts_of, AreReadings, Reads, AreSound, HasSoundFields, Survey, front_text, text_by, AnyState, description_of, AreObjects, AreTyped, IsObject, IsTyped, ObjectsAreTheirOwn, Answers, AreOneForOne, IsStationRun, StationRun, acts_in, own_lines, records_in, records_of_run, scope_of}
use Rattle.std.specs.Prelude.{None, option_map, Bool, false}
use Rattle.std.proofs.lemmas.List.Elements.{All-from_recursion}
use Rattle.json.specs.Find.{get_member}
use Rattle.gc_texts.specs.declared.name.Name.{Name}
use Rattle.gc_rows.proofs.JsonLines.{feed_apart, object_reads_back}
use Rattle.gc_rows.proofs.Apart.{among_parts, lookup_before}
use Rattle.gc_rows.proofs.DescribedNames.{column_apart, column_no_text, names_before, names_behind, object_single}
use Rattle.gc_rows.proofs.Members.{each_member_plain}
use Rattle.gc_program_theorems.proofs.Shown.{ShowsAdded, has_its_texts}
use Rattle.gc_program_theorems.proofs.Taken.{run_took}
use Rattle.gc_program_theorems.proofs.Unbroken.{line_text, line_unbroken}
use Rattle.gc_program_theorems.proofs.Written.{HasItsTexts, IsAnswered, all_written, answered_in_field, entry_of, one_for_one, written_by}
use Rattle.gc_files.specs.Runs as rows

-- An object.

-- the description of a procedure, if there is one, has columns that may be those of one answer
described_soundly : (described : List Description) → AllByRecursion HasSoundFields described → (rpc : ℕ) → HasColumns (option_map description_seen (described_as rpc described))
described_soundly [] each rpc = tt
described_soundly (d ∷ described) each rpc = elim (cases_Bool (d.rpc == rpc)) [
  | inl this ↦ rw this each.0.columns
  | inr other ↦ rw other (described_soundly described each.1 rpc)
]

-- and its fields have names
described_with_names : (described : List Description) → AllByRecursion HasSoundFields described → (rpc : ℕ) → HasFieldNames (option_map description_seen (described_as rpc described))
described_with_names [] each rpc = tt
described_with_names (d ∷ described) each rpc = elim (cases_Bool (d.rpc == rpc)) [
  | inl this ↦ rw this each.0.named
  | inr other ↦ rw other (described_with_names described each.1 rpc)
]

-- the name of a column doesn't end with `_text`, and is none of a row's
name_facts : (fields : List FieldSeen) (name : List ℕ) → are_columns fields ≡ true → is_named name fields ≡ true
    → (ends_as_text name ≡ false) × (is_among name names_of_row ≡ false)
name_facts [] name are named = absurd (false≢true named)
name_facts (f ∷ fs) name are named =
    let parts = and_parts (is_column f && not (is_named f.name fs)) (are_columns fs) are in
    let one = and_parts (is_column f) (not (is_named f.name fs)) parts.0 in
    elim (cases_Bool (bytes_eq f.name name)) [
      | inl same ↦
          let equal = (bytes_eq-Decides f.name name).0 same in
          (ap ends_as_text (sym equal) ∙ column_no_text f one.0, ap (λ n. is_among n names_of_row) (sym equal) ∙ column_apart f one.0)
      | inr other ↦ name_facts fs name parts.1 (sym (ap (λ b. b || is_named name fs) other) ∙ named)
    ]

-- an object of a record without an answer that counts has nothing under the names of a description
object_blank : (r : Entry) (d : DescriptionSeen) → r.described ≡ Some d → are_columns d.values ≡ true → counted_answer r.end ≡ None → (name : List ℕ) → is_named name d.values ≡ true
    → text_of (get_member name (record_read r.when.run (members_after_run r))) ≡ []
object_blank r d described columns none name named =
    let has = subst HasColumns (sym described) columns in
    let facts = name_facts d.values name columns named in
    let before : is_among name names_before ≡ false = (among_parts name names_before names_behind facts.1).0 in
    let behind : is_among name names_behind ≡ false = (among_parts name names_before names_behind facts.1).1 in
    let front = cells_in (run_column ∷ first_columns) r in
    let back = cells_in (items_column ∷ last_columns) r in
    let found : lookup name (object_cells r) ≡ lookup name (quantity_cells r) = lookup_behind name front (quantity_cells r ++ back) before ∙ lookup_before name (quantity_cells r) back behind in
    let no_cell : quantity_cells r ≡ [] = ap (λ o. cells_if r.command.call r.described o (line_of r.end)) none in
    subst (λ content. IsShown content (text_of (get_member name (record_read r.when.run (members_after_run r))))) (found ∙ ap (lookup name) no_cell)
    (object_lookup name (object_cells r) (object_single r has name facts.0))

module _ (survey : Survey) (r : Record) where
  -- the text under a name in the record's object
  abbrev at : List ℕ → List ℕ
  at name = text_of (get_member name (record_read survey.layout.run (members_after_run (entry_of survey r))))

  module _ (sound : AreSound survey.labels) where
    -- the columns of the description of the record's procedure are those of one answer
    has_columns : HasColumns (description_of survey r)
    has_columns = described_soundly survey.labels.described sound.each (procedure_of r.command.call)

    -- so are they if the description is known
    their_columns : (d : DescriptionSeen) → description_of survey r ≡ Some d → are_columns d.values ≡ true
    their_columns d is = subst HasColumns is has_columns

    -- under the names that its description adds, the object has the values
    object_adds : ShowsAdded survey r true true at
    object_adds = record {
      holds = λ d line is name among named. columns_hold.object (entry_of survey r) d line name is (their_columns d is.described_is) named;
      blank = λ d described none name among named. object_blank (entry_of survey r) d described (their_columns d described) none name named;
    }

    -- under these names the record's object has what `HasItsTexts` says
    object_stands : HasItsTexts survey true at r
    object_stands = has_its_texts survey r true true at (λ key known. records_read_back.known (entry_of survey r) key has_columns known) (λ shows. object_adds)

-- Lines.

-- the text of a record is its line and a line feed
line_ends : (r : Entry) → record_text Json r ≡ line_text r.when.run (cells_after_run r) ++ 10 ∷ []
line_ends r = feed_apart (codes "{\"run\":" ++ string_text (stamp_text r.when.run)) (members_text (members_after_run r))

-- if each text is a line and a line feed, the texts joined are the lines joined, each with its line feed
pub each_line : {X : Type 0} (text line : X → List ℕ) → ((x : X) → text x ≡ line x ++ 10 ∷ []) → (xs : List X) → flat_map text xs ≡ rows.row_lines (map line xs)
each_line says_text line one [] = refl
each_line says_text line one (x ∷ xs) = ap (λ (l : List ℕ). l ++ flat_map says_text xs) (one x) ∙ ap (λ (l : List ℕ). (line x ++ 10 ∷ []) ++ l) (each_line says_text line one xs)

-- where all names are bytes, so is the name of a target, which is empty if it has none
name_bytes : (target : ℕ) (names : List Name) → AllByRecursion (λ (name : Name). AreBytes name.text.items) names → AreBytes (name_text target names)
name_bytes target [] are = All-from_recursion (λ (b : ℕ). b < 256) [] tt
name_bytes target (name ∷ names) are =
    cond_both (name.target == target) name.text.items (name_text target names) AreBytes (λ _. are.0) (λ _. name_bytes target names are.1)

-- nothing comes before lines of JSON
pub no_front : (headed : Bool) (names : List (List ℕ)) (form : Form) → form ≡ Json → (if headed then [] else head_text form names) ≡ []
no_front true names form is = refl
no_front false names form is = ap (λ f. head_text f names) is

module _ (CanAnswer : Answers) (reads : Reads) (are : AreReadings reads) (survey : Survey) (acts : List Act) (is : IsAnswered CanAnswer reads survey acts)
    (form : survey.layout.form ≡ Json) (small : AreTyped survey (records_in survey reads acts)) where
  -- the line of a record of the run, without its line feed
  abbrev pub line_of_record : Record → List ℕ
  line_of_record r = line_text survey.layout.run (cells_after_run (entry_of survey r))

  -- the text of a record of the run is its line and a line feed
  pub one_line : (r : Record) → text_by survey r ≡ line_of_record r ++ 10 ∷ []
  one_line r = ap (λ (f : Form). record_text f (entry_of survey r)) form ∙ line_ends (entry_of survey r)

  -- the name of a record's target is of bytes
  name_of_bytes : (r : Record) → AreBytes (entry_of survey r).name
  name_of_bytes r = name_bytes r.command.target survey.labels.names small.names

  -- the line of each record that was written whole is its object
  pub objects_by : (written others : List Record) → records_in survey reads acts ≡ written ++ others → (n : ℕ) (r : Record) → slice_get written n ≡ Some r
      → IsObject CanAnswer survey (scope_of survey reads) acts n (line_of_record r) r
  objects_by written others order n r got =
      let entry = entry_of survey r in
      let bounds = all_written (IsTyped survey.layout.run) (records_in survey reads acts) written others order small.each n r got in
      let names = described_with_names survey.labels.described is.labels.each (procedure_of r.command.call) in
      let members = each_member_plain entry bounds.0 (name_of_bytes r) bounds.1 bounds.2 names in
      record {
        members = record_read survey.layout.run (members_after_run entry);
        reads_as = object_reads_back survey.layout.run (members_after_run entry) small.run members;
        is_by = written_by CanAnswer reads are survey acts is true (at survey r) r (object_stands survey r is.labels) written others order n got;
      }

  -- the lines of records in the types of the program have no line feed
  pub all_unbroken : (rs : List Record) → AllByRecursion (IsTyped survey.layout.run) rs
      → AllByRecursion (Lacks 10) (map line_of_record rs)
  all_unbroken [] bounds = tt
  all_unbroken (r ∷ rs) bounds =
      let entry = entry_of survey r in
      let fit = each_fit entry bounds.0.0 (name_of_bytes r) bounds.0.1 bounds.0.2 in
      let names = described_with_names survey.labels.described is.labels.each (procedure_of r.command.call) in
      let members = each_member_plain entry bounds.0.0 (name_of_bytes r) bounds.0.1 bounds.0.2 names in
      (line_unbroken survey.layout.run (cells_after_run entry) fit members, all_unbroken rs bounds.1)

  -- so have those of the first ones of the run's records
  pub written_unbroken : (written others : List Record) → records_in survey reads acts ≡ written ++ others → AllByRecursion (Lacks 10) (map line_of_record written)
  written_unbroken written others order =
      all_unbroken written (all_front (IsTyped survey.layout.run) written others (subst (AllByRecursion (IsTyped survey.layout.run)) order small.each))

  -- the lines are the objects of these records, one for one
  pub objects_one_for_one : (written others : List Record) → records_in survey reads acts ≡ written ++ others
      → AreOneForOne (λ n line r. IsObject CanAnswer survey (scope_of survey reads) acts n line r) (map line_of_record written) written
  objects_one_for_one written others order =
      one_for_one (λ n line r. IsObject CanAnswer survey (scope_of survey reads) acts n line r) line_of_record written (objects_by written others order)

-- what the sink took of a run that is answered so are lines of JSON
pub objected : (CanAnswer : Answers) (reads : Reads) → AreReadings reads → (run : StationRun) (had : List ℕ) → IsStationRun run → run.old.taken ≡ Some had
    → IsAnswered CanAnswer reads run.survey (acts_in run) → run.survey.layout.form ≡ Json → AreTyped run.survey (records_of_run reads run) → AreObjects CanAnswer reads run had
objected CanAnswer reads are run had is_run old is form small =
    let survey = run.survey in
    let acts = acts_in run in
    let took = run_took reads are run had is_run old in
    let written = took.are.written in
    let line = line_of_record CanAnswer reads are survey acts is form small in
    let nothing_first : had ++ front_text survey.layout survey.labels.columns ≡ had = ap (λ (l : List ℕ). had ++ l) (no_front survey.layout.headed survey.labels.columns survey.layout.form form) ∙ append-nil had in
    record {
      lines = map line written;
      torn = took.torn;
      took = took.is ∙ ap (λ (l : List ℕ). Some (l ++ (texts_of (text_by survey) written ++ took.torn))) nothing_first
          ∙ ap (λ (l : List ℕ). Some (had ++ (l ++ took.torn))) (each_line (text_by survey) line (one_line CanAnswer reads are survey acts is form small) written);
      are = took.are;
      unbroken = written_unbroken CanAnswer reads are survey acts is form small written took.are.unwritten took.are.order;
      one_for_one = objects_one_for_one CanAnswer reads are survey acts is form small written took.are.unwritten took.are.order;
    }

-- what a sink took of a run in the field are its own objects
pub objects_own : {State : Type 0} → ObjectsAreTheirOwn State
objects_own ends kept is reads are x was form small =
    objected (own_lines ends AnyState kept reads x) reads are x.run x.had was.is_run was.took (answered_in_field ends kept is reads x was) form small
