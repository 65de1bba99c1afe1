-- Rows: the fields of one, and what a reader of comma-separated values makes of it. The writer and the reader of
-- comma-separated values are the library's.
use Rattle.gc_rows.proofs.Common.{◌≡◌, ◌==◌, ◌<◌, ◌++◌, ◌∷◌, ◌∙◌, [], ℕ, zero, suc, ◌-◌, List, Bool, true, false, inl, inr, refl, sym, ap, arith, append_assoc, length, map, replicate, ◌||◌, All, AllByRecursion, flat_map, list_any, flat_map-append, cases_Bool, cond_both, eqb-true, length-map, recursion_from_All, All-from_recursion, All-append, QUANTITIES, ReadsBackAs, RowsReadBack, RowsArePrintable, escaped, AreBytes, IsPrintable, IsPrintableByte, quantity_text, is_special, within_quotes, csv_field, field_text, behind_comma, fields_behind_commas, row_of, spread, value_behind_comma, Value, escaped_prints, bytes_by_recursion, escaped_injective}
use Rattle.csv.specs.Machine.{next_record}
use Rattle.csv.specs.Reading.{default_config, records_from}
use Rattle.csv.specs.Writing.{default_writer, fields_text, is_blank, needs_byte, row_text}
use Rattle.csv.specs.declared.parser.State.TheVariants.{StartRecord}
use Rattle.csv.proofs.RoundTrip.{read-write-many}
use Rattle.csv.specs.Writing as csv

-- after `front`, the texts of the items of three lists, one list after the other, are those of the lists joined
pub three_written : {X : Type 0} (text : X → List ℕ) (front : List ℕ) (xs ys zs : List X)
    → ((front ++ flat_map text xs) ++ flat_map text ys) ++ flat_map text zs ≡ front ++ flat_map text (xs ++ (ys ++ zs))
three_written text front xs ys zs =
    let x = flat_map text xs in
    let y = flat_map text ys in
    let z = flat_map text zs in
    append_assoc (front ++ x) y z ∙ append_assoc front x (y ++ z)
    ∙ ap (λ l. front ++ l) (sym (flat_map-append text xs (ys ++ zs) ∙ ap (λ l. x ++ l) (flat_map-append text ys zs)))

-- empty fields, each after a comma, are as many commas
pub blanks_text : (n : ℕ) → fields_behind_commas (replicate n []) ≡ replicate n 44
blanks_text zero = refl
blanks_text (suc n) = ap (λ l. 44 ∷ l) (blanks_text n)

-- values as `value_behind_comma` writes them are the fields of their quantities, each after a comma
values_text : (values : List Value) → flat_map value_behind_comma values ≡ fields_behind_commas (map quantity_text values)
values_text [] = refl
values_text (v ∷ vs) = ap (λ l. value_behind_comma v ++ l) (values_text vs)

-- `first` commas, values as `value_behind_comma` writes them, and a comma for each further column are, after any bytes, the
-- values in their columns
pub spread_text : (old : List ℕ) (first : ℕ) (values : List Value)
    → ((old ++ replicate first 44) ++ flat_map value_behind_comma values) ++ replicate (QUANTITIES - first - length values) 44
    ≡ old ++ fields_behind_commas (spread first (map quantity_text values))
spread_text old first values =
    let texts = map quantity_text values in
    let front : List (List ℕ) = replicate first [] in
    let left = QUANTITIES - first - length values in
    let back : List (List ℕ) = replicate left [] in
    let joined : fields_behind_commas (front ++ (texts ++ back)) ≡ fields_behind_commas front ++ (fields_behind_commas texts ++ fields_behind_commas back) =
    flat_map-append behind_comma front (texts ++ back) ∙ ap (λ l. fields_behind_commas front ++ l) (flat_map-append behind_comma texts back) in
    ap (λ l. ((old ++ l) ++ flat_map value_behind_comma values) ++ replicate left 44) (sym (blanks_text first))
    ∙ ap (λ l. ((old ++ fields_behind_commas front) ++ l) ++ replicate left 44) (values_text values)
    ∙ ap (λ l. ((old ++ fields_behind_commas front) ++ fields_behind_commas texts) ++ l) (sym (blanks_text left))
    ∙ append_assoc (old ++ fields_behind_commas front) (fields_behind_commas texts) (fields_behind_commas back)
    ∙ append_assoc old (fields_behind_commas front) (fields_behind_commas texts ++ fields_behind_commas back)
    ∙ ap (λ l. old ++ l) (sym joined)
    ∙ ap (λ n. old ++ fields_behind_commas (front ++ (texts ++ replicate (QUANTITIES - first - n) []))) (sym (length-map values quantity_text))

-- `or` of three tests is the same grouped the other way, and with `false` added twice
or_regrouped : (x y z : Bool) → ((x || y) || z) ≡ (((x || (y || z)) || false) || false)
or_regrouped true y z = refl
or_regrouped false true z = refl
or_regrouped false false true = refl
or_regrouped false false false = refl

-- a byte calls for quotes exactly if the writer of comma-separated values says so
byte_as_csv : (b : ℕ) → is_special b ≡ needs_byte default_writer b
byte_as_csv b = or_regrouped ((b == 44) || (b == 34)) (b == 13) (b == 10)

-- a text is within quotes exactly if the writer of comma-separated values puts it there
quotes_as_csv : (text : List ℕ) → list_any is_special text ≡ list_any (needs_byte default_writer) text
quotes_as_csv [] = refl
quotes_as_csv (b ∷ bs) = ap (λ x. x || list_any is_special bs) (byte_as_csv b) ∙ ap (λ x. needs_byte default_writer b || x) (quotes_as_csv bs)

-- a double quote within quotes is doubled as the writer of comma-separated values doubles it
doubled_as_csv : (text : List ℕ) → flat_map within_quotes text ≡ csv.escaped default_writer text
unfolding csv.escaped
doubled_as_csv [] = refl
doubled_as_csv (b ∷ bs) = elim (cases_Bool (b == 34)) [
  | inl same ↦ rw same (ap (λ l. 34 ∷ l) (ap (λ x. x ∷ flat_map within_quotes bs) (sym (eqb-true b 34 same)) ∙ ap (λ l. b ∷ l) (doubled_as_csv bs)))
  | inr other ↦ rw other (ap (λ l. b ∷ l) (doubled_as_csv bs))
]

-- a field is what the writer of comma-separated values writes of its text
field_as_csv : (text : List ℕ) → csv_field text ≡ csv.field_text default_writer text
field_as_csv text = elim (cases_Bool (list_any is_special text)) [
  | inl special ↦ rw (special, sym (quotes_as_csv text) ∙ special) (ap (λ l. 34 ∷ (l ++ 34 ∷ [])) (doubled_as_csv text))
  | inr plain ↦ rw (plain, sym (quotes_as_csv text) ∙ plain) refl
]

-- fields, each after a comma, are what the writer of comma-separated values writes of their bytes, escaped
fields_as_csv : (fields : List (List ℕ)) → fields_behind_commas fields ≡ fields_text default_writer (map escaped fields)
unfolding fields_text
fields_as_csv [] = refl
fields_as_csv (f ∷ fs) = ap (λ l. 44 ∷ (l ++ fields_behind_commas fs)) (field_as_csv (escaped f)) ∙ ap (λ l. 44 ∷ (csv.field_text default_writer (escaped f) ++ l)) (fields_as_csv fs)

-- a row of two fields or more is what the writer of comma-separated values writes of these fields' bytes, escaped
row_as_csv : (first second : List ℕ) (others : List (List ℕ)) → row_of (first ∷ second ∷ others) ≡ row_text default_writer (map escaped (first ∷ second ∷ others))
unfolding is_blank
row_as_csv first second others =
    ap (λ l. (l ++ fields_behind_commas (second ∷ others)) ++ 10 ∷ []) (field_as_csv (escaped first))
    ∙ ap (λ l. (csv.field_text default_writer (escaped first) ++ l) ++ 10 ∷ []) (fields_as_csv (second ∷ others))

-- a row of two fields or more reads back as its fields
row_back : (fields : List (List ℕ)) → 1 < length fields → ReadsBackAs (row_of fields) fields
row_back [] many behind = absurd (omega (arith, many))
row_back (first ∷ []) many behind = absurd (omega (arith, many))
row_back (first ∷ second ∷ others) many behind =
    ap (λ l. next_record default_config StartRecord [] [] (l ++ behind)) (row_as_csv first second others) ∙ read-write-many (escaped first) (escaped second) (map escaped others) behind

-- rows of two fields or more read back as a table of their fields, escaped
table_back : (rows : List (List (List ℕ))) → AllByRecursion (λ fields. 1 < length fields) rows
    → records_from default_config (length rows) StartRecord (flat_map row_of rows) ≡ map (map escaped) rows
unfolding records_from
table_back [] many = refl
table_back (fields ∷ rows) many = rw (row_back fields many.0 (flat_map row_of rows)) (ap (λ l. map escaped fields ∷ l) (table_back rows many.1))

-- the law: rows and tables read back
pub rows_read_back : RowsReadBack
rows_read_back = record {
  row = row_back;
  table = table_back;
  names = λ columns. (refl, refl);
  once = escaped_injective;
}

-- a list of one printable byte is printable
one_prints : (b : ℕ) → IsPrintableByte b → IsPrintable (b ∷ [])
one_prints b h = All-from_recursion IsPrintableByte (b ∷ []) (h, tt)

-- what is printable stays so with its double quotes doubled
doubled_prints : (text : List ℕ) → AllByRecursion IsPrintableByte text → IsPrintable (flat_map within_quotes text)
doubled_prints [] h = All-from_recursion IsPrintableByte [] tt
doubled_prints (b ∷ bs) h =
    All-append IsPrintableByte (within_quotes b) (flat_map within_quotes bs)
    (cond_both (b == 34) (34 ∷ 34 ∷ []) (b ∷ []) (All IsPrintableByte)
    (λ _. All-from_recursion IsPrintableByte (34 ∷ 34 ∷ []) ((omega arith, omega arith), ((omega arith, omega arith), tt))) (λ _. one_prints b h.0))
    (doubled_prints bs h.1)

-- the field of any bytes is printable
field_prints : (bytes : List ℕ) → AreBytes bytes → IsPrintable (field_text bytes)
field_prints bytes are =
    let text = escaped bytes in
    let shown = escaped_prints bytes (bytes_by_recursion bytes are) in
    let mark = one_prints 34 (omega arith, omega arith) in
    cond_both (list_any is_special text) (34 ∷ (flat_map within_quotes text ++ 34 ∷ [])) text (All IsPrintableByte)
    (λ _. All-append IsPrintableByte (34 ∷ []) (flat_map within_quotes text ++ 34 ∷ []) mark
    (All-append IsPrintableByte (flat_map within_quotes text) (34 ∷ []) (doubled_prints text (recursion_from_All IsPrintableByte text shown)) mark))
    (λ _. shown)

-- fields of any bytes, each after a comma, are printable
fields_print : (fields : List (List ℕ)) → AllByRecursion AreBytes fields → IsPrintable (fields_behind_commas fields)
fields_print [] are = All-from_recursion IsPrintableByte [] tt
fields_print (f ∷ fs) are =
    All-append IsPrintableByte (44 ∷ field_text f) (fields_behind_commas fs)
    (All-append IsPrintableByte (44 ∷ []) (field_text f) (one_prints 44 (omega arith, omega arith)) (field_prints f are.0)) (fields_print fs are.1)

-- the law: a row is printable before its line feed
pub rows_are_printable : RowsArePrintable
rows_are_printable [] are = ([], refl, All-from_recursion IsPrintableByte [] tt)
rows_are_printable (first ∷ others) are = (
  field_text first ++ fields_behind_commas others,
  refl,
  All-append IsPrintableByte (field_text first) (fields_behind_commas others) (field_prints first are.0) (fields_print others are.1),
)
