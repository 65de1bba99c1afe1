-- What is left of the rows of a run so far, as it is read: whole rows, each its own.
use Rattle.gc_program_theorems.proofs.Common.{◌≡◌, inl, inr, ℕ, Bool, true, false, List, [], ◌∷◌, ◌++◌, map, refl, sym, ◌∙◌, ap, subst, arith, if◌then◌else◌, codes, AllByRecursion, flat_map, list_any, cases_Bool, cond_both, ne_eqb, cons_tail, every_front as all_front, has_feed, whole, bytes_in, Lacks, escaped, row_fields, record_text, behind_comma, field_text, fields_behind_commas, is_special, row_of, within_quotes, Form, Json, lacks_both, Record, texts_of, AreReadings, Reads, Survey, text_by, Act, AreLeftObjectsSoFar, AreLeftSoFar, FileRunSoFar, IsLeftOfSoFar, IsLeftTableSoFar, LeftObjectsSoFarAreOwnOrDamaged, LeftObjectsSoFarAreTheirOwn, LeftTablesSoFarAreOwnOrDamaged, LeftTablesSoFarAreTheirOwn, own_lines_so_far, own_or_damaged_so_far, AreTyped, IsTyped, Answers, AreReadAs, records_in, table_form, feed_behind_first, tail_whole, whole_rest}
use Rattle.std.proofs.Common.{◌==◌}
use Rattle.gc_program_theorems.proofs.Objected.{all_unbroken, each_line, line_of_record, objects_one_for_one, one_line}
use Rattle.gc_program_theorems.proofs.Owning.{in_table}
use Rattle.gc_program_theorems.proofs.Reading.{each_reads}
use Rattle.gc_program_theorems.proofs.Tabled.{one_reads, row, rows_one_for_one}
use Rattle.gc_program_theorems.proofs.Unbroken.{escaped_lacks, quote_lacks}
use Rattle.gc_program_theorems.proofs.SoFar.{answered_amid_damage, answered_so_far}
use Rattle.gc_program_theorems.proofs.Written.{IsAnswered, entry_of}

-- Lines.

-- bytes that lack a line feed have none
lacks_feed : (xs : List ℕ) → Lacks 10 xs → has_feed xs ≡ false
lacks_feed [] lacks = refl
lacks_feed (b ∷ xs) lacks = rw (ne_eqb b 10 lacks.0) (lacks_feed xs lacks.1)

-- a text in which each double quote is doubled has no line feed if it had none before
within_lacks : (text : List ℕ) → Lacks 10 text → Lacks 10 (flat_map within_quotes text)
within_lacks [] lacks = tt
within_lacks (b ∷ bs) lacks =
    lacks_both 10 (within_quotes b) (flat_map within_quotes bs)
    (cond_both (b == 34) (34 ∷ 34 ∷ []) (b ∷ []) (Lacks 10) (λ _. ((λ e. omega (arith, e)), ((λ e. omega (arith, e)), tt))) (λ _. (lacks.0, tt))) (within_lacks bs lacks.1)

-- a field has no line feed
field_lacks : (bytes : List ℕ) → Lacks 10 (field_text bytes)
field_lacks bytes =
    cond_both (list_any is_special (escaped bytes)) (codes "\"" ++ flat_map within_quotes (escaped bytes) ++ codes "\"") (escaped bytes) (Lacks 10)
    (λ _. lacks_both 10 (codes "\"" ++ flat_map within_quotes (escaped bytes)) (codes "\"")
    (lacks_both 10 (codes "\"") (flat_map within_quotes (escaped bytes)) quote_lacks (within_lacks (escaped bytes) (escaped_lacks bytes))) quote_lacks)
    (λ _. escaped_lacks bytes)

-- nor have fields after commas
fields_lack : (fields : List (List ℕ)) → Lacks 10 (fields_behind_commas fields)
fields_lack [] = tt
fields_lack (field ∷ fields) = lacks_both 10 (behind_comma field) (fields_behind_commas fields) ((λ e. omega (arith, e)), field_lacks field) (fields_lack fields)

-- a row without its line feed
abbrev row_text : List (List ℕ) → List ℕ
row_text [] = []
row_text (first ∷ others) = field_text first ++ fields_behind_commas others

-- a row is that, and a line feed
row_ends : (fields : List (List ℕ)) → row_of fields ≡ row_text fields ++ 10 ∷ []
row_ends [] = refl
row_ends (first ∷ others) = refl

-- it has no other one
row_lacks : (fields : List (List ℕ)) → Lacks 10 (row_text fields)
row_lacks [] = tt
row_lacks (first ∷ others) = lacks_both 10 (field_text first) (fields_behind_commas others) (field_lacks first) (fields_lack others)

-- Fronts.

-- whole bytes that are a front of a line and more, and not empty, go through the line's end
record IsThrough (line xs ys rest : List ℕ) : Type 0 where
  more : List ℕ
  is : xs ≡ (line ++ 10 ∷ []) ++ more
  behind : ys ≡ more ++ rest

-- the first byte of a line, and the others, are no line feeds
first_lacks : (b : ℕ) (line : List ℕ) → has_feed (b ∷ line) ≡ false → ((b == 10) ≡ false) × (has_feed line ≡ false)
first_lacks b line none = elim (cases_Bool (b == 10)) [
  | inl is ↦ let clash : true ≡ false = subst (λ t. (if t then true else has_feed line) ≡ false) is none in absurd (cc)
  | inr isnt ↦ (isnt, subst (λ t. (if t then true else has_feed line) ≡ false) isnt none)
]

through : (line xs ys rest : List ℕ) → has_feed line ≡ false → whole xs ≡ xs → has_feed xs ≡ true → (line ++ 10 ∷ []) ++ ys ≡ xs ++ rest → IsThrough line xs ys rest
through line [] ys rest none is some e = let wrong : false ≡ true = some in absurd (cc)
through [] (b ∷ xs) ys rest none is some e =
    let same : b ≡ 10 = cc in
    record { more = xs; is = ap (λ n. n ∷ xs) same; behind = cons_tail 10 b ys (xs ++ rest) e }
through (c ∷ line) (b ∷ xs) ys rest none is some e =
    let same : c ≡ b = cc in
    let n = first_lacks c line none in
    let isnt : (b == 10) ≡ false = subst (λ n. (n == 10) ≡ false) same n.0 in
    let t = through line xs ys rest n.1 (tail_whole b xs is).1 (feed_behind_first b xs isnt some) (cons_tail c b ((line ++ 10 ∷ []) ++ ys) (xs ++ rest) e) in
    record { more = t.more; is = ap (λ n. n ∷ xs) (sym same) ∙ ap (λ l. c ∷ l) t.is; behind = t.behind }

-- a text is a line, which has no line feed, and a line feed after it
record IsLine (text line : List ℕ) : Type 0 where
  is : text ≡ line ++ 10 ∷ []
  none : has_feed line ≡ false

-- these bytes are the texts of the first ones of these records
record IsOfFirst (text : Record → List ℕ) (records : List Record) (bytes : List ℕ) : Type 0 where
  first : List Record
  others : List Record
  order : records ≡ first ++ others
  texts : bytes ≡ texts_of text first

-- whole bytes that are a front of the texts of records, each of which is a line, are the texts of the first ones
first_of : (text line : Record → List ℕ) (records : List Record) (bytes rest : List ℕ) → AllByRecursion (λ r. IsLine (text r) (line r)) records → whole bytes ≡ bytes
    → texts_of text records ≡ bytes ++ rest → IsOfFirst text records bytes
first_of text line [] [] rest lines is e = record { first = []; others = []; order = refl; texts = refl }
first_of text line [] (b ∷ bytes) rest lines is e = let wrong : [] ≡ b ∷ (bytes ++ rest) = e in absurd (cc)
first_of text line (r ∷ records) [] rest lines is e = record { first = []; others = r ∷ records; order = refl; texts = refl }
first_of text line (r ∷ records) (b ∷ bytes) rest lines is e =
    let t = through (line r) (b ∷ bytes) (texts_of text records) rest lines.0.none is (tail_whole b bytes is).0 (ap (λ (l : List ℕ). l ++ texts_of text records) (sym lines.0.is) ∙ e) in
    let more = first_of text line records t.more rest lines.1 (whole_rest (line r ++ 10 ∷ []) t.more (subst (λ (l : List ℕ). whole l ≡ l) t.is is)) t.behind in
    record {
      first = r ∷ more.first;
      others = more.others;
      order = ap (λ (l : List Record). r ∷ l) more.order;
      texts = t.is ∙ ap (λ (l : List ℕ). (line r ++ 10 ∷ []) ++ l) more.texts ∙ ap (λ (l : List ℕ). l ++ texts_of text more.first) (sym lines.0.is);
    }

-- texts that end lines which lack line feeds are lines
all_lines : (text line : Record → List ℕ) → ((r : Record) → text r ≡ line r ++ 10 ∷ []) → (records : List Record) → AllByRecursion (Lacks 10) (map line records)
    → AllByRecursion (λ r. IsLine (text r) (line r)) records
all_lines text line one [] lacks = tt
all_lines text line one (r ∷ records) lacks = (record { is = one r; none = lacks_feed (line r) lacks.0 }, all_lines text line one records lacks.1)

module _ {R : Type 0} (CanAnswer : Answers) (reads : Reads) (are : AreReadings reads) (m : FileRunSoFar R) (is : IsAnswered CanAnswer reads m.survey m.acts)
    (left : List ℕ) (left_are : AreLeftSoFar m reads left) where
  -- what the run measures
  abbrev survey : Survey
  survey = m.survey

  -- where the text of each record is a line, what is left is of the first ones of the records
  first_left : (line : Record → List ℕ) → AllByRecursion (λ r. IsLine (text_by survey r) (line r)) (records_in m.survey reads m.acts)
      → IsOfFirst (text_by survey) (records_in m.survey reads m.acts) (bytes_in m.was ++ left_are.more)
  first_left line lines = first_of (text_by survey) line (records_in m.survey reads m.acts) (bytes_in m.was ++ left_are.more) left_are.own.rest lines left_are.lines left_are.own.split

  -- it is left of the run
  abbrev left_of : (f : IsOfFirst (text_by survey) (records_in m.survey reads m.acts) (bytes_in m.was ++ left_are.more)) → IsLeftOfSoFar reads m left f.first
  left_of f = record { more = left_are.more; has = left_are.has; others = f.others; order = f.order; texts = f.texts }

  module _ (columns : Bool) (form : survey.layout.form ≡ table_form columns) where
    -- a record's row in a table, without its line feed
    abbrev row_line_of : Record → List ℕ
    row_line_of r = row_text (row_fields columns (entry_of survey r))

    -- the text of a record is that, and a line feed
    row_text_ends : (r : Record) → text_by survey r ≡ row_line_of r ++ 10 ∷ []
    row_text_ends r =
        let entry = entry_of survey r in
        ap (λ (f : Form). record_text f entry) form ∙ in_table columns entry ∙ row_ends (row_fields columns entry)

    -- it has no other one
    rows_lack : (records : List Record) → AllByRecursion (Lacks 10) (map row_line_of records)
    rows_lack [] = tt
    rows_lack (r ∷ records) = (row_lacks (row_fields columns (entry_of survey r)), rows_lack records)

    -- what is left is a table's
    pub left_table : IsLeftTableSoFar CanAnswer columns reads m left
    left_table =
        let records = records_in m.survey reads m.acts in
        let f = first_left row_line_of (all_lines (text_by survey) row_line_of row_text_ends records (rows_lack records)) in
        record {
          records = f.first;
          is_of = left_of f;
          rows = map (row survey columns) f.first;
          reads_as = subst (λ (l : List ℕ). AreReadAs l (map (row survey columns) f.first)) (sym f.texts)
              (each_reads (text_by survey) (row survey columns) (one_reads CanAnswer reads are m.survey m.acts is columns form) f.first);
          one_for_one =
              rows_one_for_one CanAnswer reads are m.survey m.acts is columns form f.first f.others f.order;
        }

  module _ (form : survey.layout.form ≡ Json) (small : AreTyped survey (records_in m.survey reads m.acts)) where
    -- what is left are objects
    pub left_objects : AreLeftObjectsSoFar CanAnswer reads m left
    left_objects =
        let records = records_in m.survey reads m.acts in
        let line = line_of_record CanAnswer reads are m.survey m.acts is form small in
        let ends = one_line CanAnswer reads are m.survey m.acts is form small in
        let unbroken = all_unbroken CanAnswer reads are m.survey m.acts is form small in
        let f = first_left line (all_lines (text_by survey) line ends records (unbroken records small.each)) in
        record {
          records = f.first;
          is_of = left_of f;
          lines = map line f.first;
          split = f.texts ∙ each_line (text_by survey) line ends f.first;
          unbroken = unbroken f.first (all_front (IsTyped survey.layout.run) f.first f.others (subst (AllByRecursion (IsTyped survey.layout.run)) f.order small.each));
          one_for_one = objects_one_for_one CanAnswer reads are m.survey m.acts is form small f.first f.others f.order;
        }

-- a run that is answered is answered under other names
renamed : (CanAnswer : Answers) (reads : Reads) (survey other : Survey) (acts same : List Act) → other ≡ survey → same ≡ acts → IsAnswered CanAnswer reads survey acts
    → IsAnswered CanAnswer reads other same
renamed CanAnswer reads survey other acts same s a is =
    subst (λ (x : Survey). IsAnswered CanAnswer reads x same) (sym s) (subst (λ (xs : List Act). IsAnswered CanAnswer reads survey xs) (sym a) is)

-- what is left of a run in the field so far are its own rows
pub left_tables_so_far_own : {R State : Type 0} → LeftTablesSoFarAreTheirOwn R State
left_tables_so_far_own ends kept is reads are x was columns form m left survey acts l =
    let can = own_lines_so_far ends kept reads x in
    left_table can reads are m (renamed can reads x.run.survey m.survey x.run.acts m.acts survey acts (answered_so_far ends kept is reads x was)) left l columns
    (ap (λ (s : Survey). s.layout.form) survey ∙ form)

-- or its own objects
pub left_objects_so_far_own : {R State : Type 0} → LeftObjectsSoFarAreTheirOwn R State
left_objects_so_far_own ends kept is reads are x was form small m left survey acts l =
    let can = own_lines_so_far ends kept reads x in
    left_objects can reads are m (renamed can reads x.run.survey m.survey x.run.acts m.acts survey acts (answered_so_far ends kept is reads x was)) left l
    (ap (λ (s : Survey). s.layout.form) survey ∙ form)
    (subst (λ (s : Survey). AreTyped s (records_in s reads m.acts)) (sym survey) (subst (λ (xs : List Act). AreTyped x.run.survey (records_in x.run.survey reads xs)) (sym acts) small))

-- what is left of a run over a line that damages so far are rows by lines that are own or damaged
pub left_tables_so_far_own_or_damaged : {R State : Type 0} → LeftTablesSoFarAreOwnOrDamaged R State
left_tables_so_far_own_or_damaged ends kept is reads are x was columns form m left survey acts l =
    let can = own_or_damaged_so_far ends reads x in
    left_table can reads are m (renamed can reads x.run.survey m.survey x.run.acts m.acts survey acts (answered_amid_damage ends kept is reads x was)) left l columns
    (ap (λ (s : Survey). s.layout.form) survey ∙ form)

-- or such objects
pub left_objects_so_far_own_or_damaged : {R State : Type 0} → LeftObjectsSoFarAreOwnOrDamaged R State
left_objects_so_far_own_or_damaged ends kept is reads are x was form small m left survey acts l =
    let can = own_or_damaged_so_far ends reads x in
    left_objects can reads are m (renamed can reads x.run.survey m.survey x.run.acts m.acts survey acts (answered_amid_damage ends kept is reads x was)) left l
    (ap (λ (s : Survey). s.layout.form) survey ∙ form)
    (subst (λ (s : Survey). AreTyped s (records_in s reads m.acts)) (sym survey) (subst (λ (xs : List Act). AreTyped x.run.survey (records_in x.run.survey reads xs)) (sym acts) small))
