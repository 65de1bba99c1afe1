-- The names of an object's cells: no two are the same, if the columns of a description may be those of one answer.
use Rattle.gc_rows.proofs.Common.{◌≡◌, ◌++◌, ◌∷◌, ◌∙◌, [], ℕ, List, true, false, Option, Some, None, inl, inr, map, drop, refl, sym, ap, ◌&&◌, not, bytes_eq, and_from, and_parts, cases_Bool, false≢true, not-true, or_from, or_parts, map-append, Answer, Asked, Table, Raw, Value, are_columns, ends_as_text, is_column, is_name_of_row, is_named, names_of_row, DescriptionSeen, line_of, FieldSeen, Cell, names_of, Entry, cells_if, cells_in, counted_answer, first_columns, items_column, last_columns, object_cells, quantity_cells, run_column, answer_kinds, cells_of_values, field_cells, field_cells_if, are_distinct, items_of, HasColumns, is_among, is_single, values_of, values_read}
use Rattle.gc_rows.proofs.Apart.{among_parts, apart_both, apart_turned, are_apart, distinct_both, distinct_single}
use Rattle.gc_rows.proofs.Spreading.{each_spread}

-- the names of cells of quantities: distinct, and none of them a row's
pub record AreSuitable (names : List (List ℕ)) : Type 0 where
  pub distinct : are_distinct names ≡ true
  pub apart : are_apart names names_of_row ≡ true

-- no cell has no name
none_suit : AreSuitable []
none_suit = record { distinct = refl; apart = refl }

-- a name that no field has is among the names of no field's cell
unnamed : (key : List ℕ) (fields : List FieldSeen) (values : List Value) (items : List (List ℕ)) → is_named key fields ≡ false
    → is_among key (names_of (field_cells fields values items)) ≡ false
unnamed key [] values items none = refl
unnamed key (f ∷ fs) [] items none = refl
unnamed key (f ∷ fs) (v ∷ vs) items none =
    let parts = or_parts (bytes_eq f.name key) (is_named key fs) none in
    or_from _ _ parts.0 (unnamed key fs vs (drop 1 items) parts.1)

-- a column has no name of a row
pub column_apart : (f : FieldSeen) → is_column f ≡ true → is_among f.name names_of_row ≡ false
column_apart f is = elim (cases_Bool (is_name_of_row f.name)) [
  | inl row ↦ absurd (false≢true (sym (rw row refl) ∙ is))
  | inr other ↦ other
]

-- a column's name doesn't end with `_text`
pub column_no_text : (f : FieldSeen) → is_column f ≡ true → ends_as_text f.name ≡ false
column_no_text f is = elim (cases_Bool (ends_as_text f.name)) [
  | inl text ↦ absurd (false≢true (sym (rw (column_apart f is, text) refl) ∙ is))
  | inr other ↦ other
]

-- columns of one answer give names that suit
fields_suit : (fields : List FieldSeen) (values : List Value) (items : List (List ℕ)) → are_columns fields ≡ true → AreSuitable (names_of (field_cells fields values items))
fields_suit [] values items are = none_suit
fields_suit (f ∷ fs) [] items are = none_suit
fields_suit (f ∷ fs) (v ∷ vs) items are =
    let parts = and_parts (is_column f && not (is_named f.name fs)) (are_columns fs) are in
    let one = and_parts (is_column f) (not (is_named f.name fs)) parts.0 in
    let others = fields_suit fs vs (drop 1 items) parts.1 in
    record {
      distinct = and_from _ _ (ap not (unnamed f.name fs vs (drop 1 items) (not-true _ one.1))) others.distinct;
      apart = and_from _ _ (ap not (column_apart f one.0)) others.apart;
    }

-- so do values that were read, or none
read_suit : (fields : List FieldSeen) (values : Option (List Value)) (items : List (List ℕ)) → are_columns fields ≡ true → AreSuitable (names_of (field_cells_if fields values items))
read_suit fields (Some values) items are = fields_suit fields values items are
read_suit fields None items are = none_suit

-- so do the cells of an answer to a procedure that isn't in the table
raw_suit : (described : Option DescriptionSeen) (values : List ℕ) → HasColumns described → AreSuitable (names_of (cells_of_values described values))
raw_suit None values are = none_suit
raw_suit (Some d) values are = read_suit d.values (values_read (answer_kinds d) values) (items_of values) are

-- so do those of any answer, or none
cells_suit : (asked : Asked) (described : Option DescriptionSeen) (answer : Option Answer) (line : Option (List ℕ)) → HasColumns described
    → AreSuitable (names_of (cells_if asked described answer line))
cells_suit (Table call) described (Some answer) (Some line) are =
    let spread = each_spread call answer (values_of line) in record { distinct = spread.distinct; apart = spread.apart }
cells_suit (Raw raw) described (Some answer) (Some line) are = raw_suit described (values_of line) are
cells_suit asked described (Some answer) None are = none_suit
cells_suit asked described None line are = none_suit

-- so do those of a record
pub quantities_suit : (r : Entry) → HasColumns r.described → AreSuitable (names_of (quantity_cells r))
quantities_suit r are = cells_suit r.command.call r.described (counted_answer r.end) (line_of r.end) are

-- the names before the quantities of an object, and those behind them
abbrev pub names_before : List (List ℕ)
names_before = map (λ c. c.name) (run_column ∷ first_columns)

abbrev pub names_behind : List (List ℕ)
names_behind = map (λ c. c.name) (items_column ∷ last_columns)

-- the names of an object are those before the quantities, those of the quantities, and those behind them
pub object_names_are : (r : Entry) → names_of (object_cells r) ≡ names_before ++ (names_of (quantity_cells r) ++ names_behind)
object_names_are r = ap (λ l. names_before ++ l) (map-append (λ (c : Cell). c.name) (quantity_cells r) (cells_in (items_column ∷ last_columns) r))

-- names that are apart from those of a row are apart from each part of these
part_apart : (names : List (List ℕ)) → are_apart names names_of_row ≡ true → (are_apart names names_before ≡ true) × (are_apart names names_behind ≡ true)
part_apart [] apart = (refl, refl)
part_apart (n ∷ names) apart =
    let parts = and_parts (not (is_among n names_of_row)) (are_apart names names_of_row) apart in
    let both = among_parts n names_before names_behind (not-true _ parts.0) in
    let others = part_apart names parts.1 in
    (and_from _ _ (ap not both.0) others.0, and_from _ _ (ap not both.1) others.1)

-- no two names of an object are the same
pub object_distinct : (r : Entry) → HasColumns r.described → are_distinct (names_of (object_cells r)) ≡ true
object_distinct r are =
    let suit = quantities_suit r are in
    let names = names_of (quantity_cells r) in
    let apart = part_apart names suit.apart in
    ap are_distinct (object_names_are r)
    ∙ distinct_both names_before (names ++ names_behind) refl (distinct_both names names_behind suit.distinct refl apart.1)
    (apart_both names_before names names_behind (apart_turned names names_before apart.0) refl)

-- under a name that doesn't end with `_text` is at most one member
pub object_single : (r : Entry) → HasColumns r.described → (key : List ℕ) → ends_as_text key ≡ false → is_single key (names_of (object_cells r)) ≡ true
object_single r are key none = distinct_single key (names_of (object_cells r)) none (object_distinct r are)
