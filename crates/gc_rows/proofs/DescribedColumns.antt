-- Under each column that a description names stands the value of this name, and the added columns follow the table's.
use Rattle.gc_rows.proofs.Common.{◌≡◌, ◌++◌, ◌∷◌, ◌∙◌, [], ℕ, List, Bool, true, false, Option, Some, None, ◌⊎◌, inl, inr, map, drop, get_or, refl, sym, ap, subst, ◌&&◌, ◌||◌, codes, not, list_all, bytes_eq, and_from, and_parts, cases_Bool, false≢true, not-true, map-append, list_any-append, bytes_eq-Decides, get_member, Asked, Table, Raw, Value, are_columns, ends_as_text, is_column, is_named, names_of_row, DescriptionSeen, line_of, FieldSeen, escaped, value_under, Cell, Content, Quantity, cell, lookup, names_of, Column, Entry, cells_if, cells_in, cells_named, counted_answer, described_part, first_columns, items_column, last_columns, members_after_run, named_cells, new_columns, object_cells, object_columns, quantity_cells, row_columns, row_fields, run_column, table_columns, answer_kinds, cells_of_values, field_cells, field_cells_if, AddedColumnsFollow, DescribedColumnsHoldTheirValues, IsDescribedAnswer, are_distinct, are_new, described_value, value_if, items_of, record_read, HasColumns, IsKnownName, IsShown, is_among, text_of, under, value_text, quantity_names, first_names, header, values_of, values_read}
use Rattle.std.specs.Prelude.{if◌then◌else◌}
use Rattle.gc_rows.proofs.Apart.{among_parts, apart_both, apart_turned, are_apart, distinct_both, lookup_before, lookup_without, not_among}
use Rattle.gc_rows.proofs.DescribedNames.{column_apart, column_no_text, names_before, names_behind, object_single, quantities_suit}
use Rattle.gc_rows.proofs.Finding.{lookup_among, lookup_behind, object_lookup, row_lookup, names_in}

-- A name that each record has, or that of a quantity of the table.

-- it doesn't end with `_text`
pub known_no_text : (key : List ℕ) → IsKnownName key → ends_as_text key ≡ false
known_no_text key (inl is) = by_list names_of_row refl is where
  -- no name of this list ends so
  by_list : (names : List (List ℕ)) → list_all (λ n. not (ends_as_text n)) names ≡ true → is_among key names ≡ true → ends_as_text key ≡ false
  by_list [] all is = absurd (false≢true is)
  by_list (n ∷ names) all is =
      let parts = and_parts (not (ends_as_text n)) (list_all (λ n. not (ends_as_text n)) names) all in
      elim (cases_Bool (bytes_eq n key)) [
        | inl same ↦ ap ends_as_text (sym ((bytes_eq-Decides n key).0 same)) ∙ not-true _ parts.0
        | inr other ↦ by_list names parts.1 (sym (ap (λ b. b || is_among key names) other) ∙ is)
      ]
known_no_text key (inr is) = by_list quantity_names refl is where
  -- no name of this list ends so
  by_list : (names : List (List ℕ)) → list_all (λ n. not (ends_as_text n)) names ≡ true → is_among key names ≡ true → ends_as_text key ≡ false
  by_list [] all is = absurd (false≢true is)
  by_list (n ∷ names) all is =
      let parts = and_parts (not (ends_as_text n)) (list_all (λ n. not (ends_as_text n)) names) all in
      elim (cases_Bool (bytes_eq n key)) [
        | inl same ↦ ap ends_as_text (sym ((bytes_eq-Decides n key).0 same)) ∙ not-true _ parts.0
        | inr other ↦ by_list names parts.1 (sym (ap (λ b. b || is_among key names) other) ∙ is)
      ]

-- the cells of an object before its quantities, and those behind them
abbrev cells_before : Entry → List Cell
cells_before r = cells_in (run_column ∷ first_columns) r

abbrev cells_behind : Entry → List Cell
cells_behind r = cells_in (items_column ∷ last_columns) r

-- what is looked up under such a name in the cells of an object is what the fixed columns hold
pub known_found : (r : Entry) → HasColumns r.described → (key : List ℕ) → IsKnownName key → lookup key (cells_in object_columns r) ≡ lookup key (object_cells r)
known_found r are key (inl row) =
    let suit = quantities_suit r are in
    let none = not_among key names_of_row (names_of (quantity_cells r)) (apart_turned (names_of (quantity_cells r)) names_of_row suit.apart) row in
    let quantities : is_among key (names_of (cells_named quantity_names (quantity_cells r))) ≡ false = not_among key names_of_row quantity_names refl row in
    lookup_without key (cells_before r) (cells_named quantity_names (quantity_cells r)) (cells_behind r) quantities
    ∙ sym (lookup_without key (cells_before r) (quantity_cells r) (cells_behind r) none)
known_found r are key (inr quantity) =
    let before : is_among key (names_of (cells_before r)) ≡ false = not_among key quantity_names names_before refl quantity in
    let behind : is_among key (names_of (cells_behind r)) ≡ false = not_among key quantity_names names_behind refl quantity in
    lookup_behind key (cells_before r) (cells_named quantity_names (quantity_cells r) ++ cells_behind r) before
    ∙ lookup_among key quantity_names (λ n. lookup n (quantity_cells r)) (cells_behind r) quantity
    ∙ sym (lookup_behind key (cells_before r) (quantity_cells r ++ cells_behind r) before ∙ lookup_before key (quantity_cells r) (cells_behind r) behind)

-- Rows.

-- the names of the added columns' cells
new_names : (names : List (List ℕ)) (r : Entry) → names_of (cells_in (new_columns names) r) ≡ names
new_names [] r = refl
new_names (name ∷ names) r = ap (λ l. name ∷ l) (new_names names r)

-- names that are new are apart from those of a row, and from those of the quantities
new_apart : (columns : List (List ℕ)) → are_new columns ≡ true → (are_apart columns names_of_row ≡ true) × (are_apart columns quantity_names ≡ true)
new_apart [] new = (refl, refl)
new_apart (n ∷ columns) new =
    let parts = and_parts (not (is_among n names_of_row) && not (is_among n quantity_names)) (are_new columns) new in
    let one = and_parts (not (is_among n names_of_row)) (not (is_among n quantity_names)) parts.0 in
    let others = new_apart columns parts.1 in
    (and_from _ _ one.0 others.0, and_from _ _ one.1 others.1)

-- a name that each record has, or that of a quantity of the table, isn't among the new ones
known_not_new : (columns : List (List ℕ)) → are_new columns ≡ true → (key : List ℕ) → IsKnownName key → is_among key columns ≡ false
known_not_new columns new key (inl row) = not_among key names_of_row columns (apart_turned columns names_of_row (new_apart columns new).0) row
known_not_new columns new key (inr quantity) = not_among key quantity_names columns (apart_turned columns quantity_names (new_apart columns new).1) quantity

-- the cells of a wide row: those before the quantities, those of the table's, the added ones, and the last
wide_cells : (names : List (List ℕ)) (r : Entry)
    → cells_in (row_columns true names) r
    ≡ (cells_before r ++ cells_in table_columns r) ++ (cells_in (new_columns names) r ++ cells_in last_columns r)
wide_cells names r =
    ap (λ l. (cells_before r ++ cells_in table_columns r) ++ l) (map-append (λ (c : Column). cell c.name (c.holds r)) (new_columns names) last_columns)

-- under such a name a wide row with added columns has what it has without
pub fixed_found : (names : List (List ℕ)) → are_new names ≡ true → (r : Entry) (key : List ℕ) → IsKnownName key
    → lookup key (cells_in (row_columns true names) r) ≡ lookup key (cells_in (row_columns true []) r)
fixed_found names new r key known =
    ap (lookup key) (wide_cells names r)
    ∙ lookup_without key (cells_before r ++ cells_in table_columns r) (cells_in (new_columns names) r) (cells_in last_columns r)
    (ap (is_among key) (new_names names r) ∙ known_not_new names new key known)

-- of the added columns, the one of a name holds what belongs to this
added_holds : (key : List ℕ) (names : List (List ℕ)) (r : Entry) (others : List Cell) → is_among key names ≡ true
    → lookup key (cells_in (new_columns names) r ++ others) ≡ lookup key (described_part r)
added_holds key [] r others is = absurd (false≢true is)
added_holds key (n ∷ names) r others is = elim (cases_Bool (bytes_eq n key)) [
  | inl same ↦ rw same (ap (λ k. lookup k (described_part r)) ((bytes_eq-Decides n key).0 same))
  | inr other ↦ rw other (added_holds key names r others (sym (ap (λ b. b || is_among key names) other) ∙ is))
]

-- under the name of a quantity of the table a wide row has what its cell holds
quantity_holds : (r : Entry) (key : List ℕ) → are_new r.columns ≡ true → is_among key quantity_names ≡ true
    → lookup key (cells_in (row_columns true r.columns) r) ≡ lookup key (quantity_cells r)
quantity_holds r key new is =
    fixed_found r.columns new r key (inr is)
    ∙ lookup_behind key (cells_before r) (cells_named quantity_names (quantity_cells r) ++ cells_in last_columns r) (not_among key quantity_names names_before refl is)
    ∙ lookup_among key quantity_names (λ n. lookup n (quantity_cells r)) (cells_in last_columns r) is

-- under an added name it has what the description's cell of this name holds
new_holds : (r : Entry) (key : List ℕ) → are_new r.columns ≡ true → is_among key r.columns ≡ true
    → lookup key (cells_in (row_columns true r.columns) r) ≡ lookup key (described_part r)
new_holds r key new is =
    let apart = new_apart r.columns new in
    let front : are_apart r.columns (names_before ++ quantity_names) ≡ true = apart_both r.columns names_before quantity_names (row_front r.columns apart.0) apart.1 in
    ap (lookup key) (wide_cells r.columns r)
    ∙ lookup_behind key (cells_before r ++ cells_in table_columns r) (cells_in (new_columns r.columns) r ++ cells_in last_columns r)
    (not_among key r.columns (names_before ++ quantity_names) front is)
    ∙ added_holds key r.columns r (cells_in last_columns r) is where
      -- names apart from those of a row are apart from those before the quantities
      row_front : (columns : List (List ℕ)) → are_apart columns names_of_row ≡ true → are_apart columns names_before ≡ true
      row_front [] apart = refl
      row_front (n ∷ columns) apart =
          let parts = and_parts (not (is_among n names_of_row)) (are_apart columns names_of_row) apart in
          and_from _ _ (ap not (among_parts n names_before names_behind (not-true _ parts.0)).0) (row_front columns parts.1)

-- a name that is among two lists together is among one of them
among_one : (key : List ℕ) (xs ys : List (List ℕ)) → is_among key (xs ++ ys) ≡ true → (is_among key xs ≡ true) ⊎ (is_among key ys ≡ true)
among_one key xs ys is = elim (cases_Bool (is_among key xs)) [
  | inl here ↦ inl here
  | inr other ↦ inr (sym (ap (λ b. b || is_among key ys) other) ∙ sym (list_any-append (λ n. bytes_eq n key) xs ys) ∙ is)
]

-- what a cell of this value shows is its text
value_shown : (name : List ℕ) (fields : List FieldSeen) (values : List Value) (items : List (List ℕ)) (shown : List ℕ)
    → IsShown (lookup name (field_cells fields values items)) shown → shown ≡ escaped (value_text (value_under name fields values))
value_shown name [] values items shown is = is
value_shown name (f ∷ fs) [] items shown is = is ∙ sym (ap (λ o. escaped (value_text o)) (no_value (f ∷ fs))) where
  -- no value has a name
  no_value : (fields : List FieldSeen) → value_under name fields [] ≡ None
  no_value [] = refl
  no_value (f ∷ fs) = elim (cases_Bool (bytes_eq f.name name)) [ inl same ↦ rw same refl | inr other ↦ rw other (no_value fs) ]
value_shown name (f ∷ fs) (v ∷ vs) items shown is =
    let by_name : Bool → Content = λ b. if b then Quantity v (get_or items 0 []) else lookup name (field_cells fs vs (drop 1 items)) in
    elim (cases_Bool (bytes_eq f.name name)) [
      | inl same ↦ rw same (subst (λ b. IsShown (by_name b) shown) same is)
      | inr other ↦ rw other (value_shown name fs vs (drop 1 items) shown (subst (λ b. IsShown (by_name b) shown) other is))
    ]

-- so is what the cells of values that were read show, or none
pub read_shown : (name : List ℕ) (fields : List FieldSeen) (values : Option (List Value)) (items : List (List ℕ)) (shown : List ℕ)
    → IsShown (lookup name (field_cells_if fields values items)) shown → shown ≡ escaped (value_text (value_if fields values name))
read_shown name fields (Some values) items shown is = value_shown name fields values items shown is
read_shown name fields None items shown is = is

module _ (r : Entry) (d : DescriptionSeen) (line : List ℕ) (is : IsDescribedAnswer r d line) where
  -- the cells of the quantities are those of the description
  described_are : quantity_cells r ≡ cells_of_values (Some d) (values_of line)
  described_are =
      ap (λ asked. cells_if asked r.described (counted_answer r.end) (line_of r.end)) is.call_is
      ∙ ap (λ described. cells_if (Raw is.raw) described (counted_answer r.end) (line_of r.end)) is.described_is
      ∙ ap (λ answer. cells_if (Raw is.raw) (Some d) answer (line_of r.end)) is.counts ∙ ap (cells_if (Raw is.raw) (Some d) (Some is.answer)) is.line_is

  -- so are those that a description names
  part_are : described_part r ≡ cells_of_values (Some d) (values_of line)
  part_are =
      ap (λ asked. named_cells asked r.described r.end) is.call_is
      ∙ ap (λ described. cells_if (Raw is.raw) described (counted_answer r.end) (line_of r.end)) is.described_is
      ∙ ap (λ answer. cells_if (Raw is.raw) (Some d) answer (line_of r.end)) is.counts ∙ ap (cells_if (Raw is.raw) (Some d) (Some is.answer)) is.line_is

  -- what one of these cells shows is the value's text
  part_shown : (name shown : List ℕ) → IsShown (lookup name (cells_of_values (Some d) (values_of line))) shown → shown ≡ escaped (value_text (described_value d line name))
  part_shown name shown shows = read_shown name d.values (values_read (answer_kinds d) (values_of line)) (items_of (values_of line)) shown shows

-- what a wide row has under a name
abbrev row_at : Entry → List ℕ → List ℕ
row_at r name = under name (header true r.columns) (map escaped (row_fields true r))

-- what an object has under a name
abbrev pub object_at : Entry → List ℕ → List ℕ
object_at r name = text_of (get_member name (record_read r.when.run (members_after_run r)))

-- the row shows the cell of this name
row_shown : (r : Entry) (name : List ℕ) → IsShown (lookup name (cells_in (row_columns true r.columns) r)) (row_at r name)
row_shown r name =
    subst (λ names. IsShown (lookup name (cells_in (row_columns true r.columns) r)) (under name names (map escaped (row_fields true r)))) (names_in (row_columns true r.columns) r)
    (row_lookup name (cells_in (row_columns true r.columns) r))

-- an ending whose answer doesn't count has no cell that a description names
no_part : (r : Entry) → counted_answer r.end ≡ None → described_part r ≡ []
no_part r none = by_asked r.command.call where
  -- whatever was asked
  by_asked : (asked : Asked) → named_cells asked r.described r.end ≡ []
  by_asked (Table call) = refl
  by_asked (Raw raw) = ap (λ o. cells_if (Raw raw) r.described o (line_of r.end)) none

-- the law: under the columns that descriptions name stand the values of these names
pub columns_hold : DescribedColumnsHoldTheirValues
columns_hold = record {
  row = λ r d line name is new among. elim (among_one name quantity_names r.columns among) [
    | inl quantity ↦ part_shown r d line is name (row_at r name) (subst (λ content. IsShown content (row_at r name)) (quantity_holds r name new quantity ∙ ap (lookup name) (described_are r d line is)) (row_shown r name))
    | inr added ↦ part_shown r d line is name (row_at r name) (subst (λ content. IsShown content (row_at r name)) (new_holds r name new added ∙ ap (lookup name) (part_are r d line is)) (row_shown r name))
  ];
  object = λ r d line name is columns named.
      let has = subst HasColumns (sym is.described_is) columns in
      let facts = name_facts d.values name columns named in
      let before : is_among name (names_of (cells_before r)) ≡ false = (among_parts name names_before names_behind facts.1).0 in
      let behind : is_among name (names_of (cells_behind r)) ≡ false = (among_parts name names_before names_behind facts.1).1 in
      let found = lookup_behind name (cells_before r) (quantity_cells r ++ cells_behind r) before ∙ lookup_before name (quantity_cells r) (cells_behind r) behind in
      part_shown r d line is name (object_at r name)
      (subst (λ content. IsShown content (object_at r name)) (found ∙ ap (lookup name) (described_are r d line is)) (object_lookup name (object_cells r) (object_single r has name facts.0)));
  unanswered = λ r name none new among. elim (among_one name quantity_names r.columns among) [
    | inl quantity ↦ subst (λ content. IsShown content (row_at r name)) (quantity_holds r name new quantity ∙ ap (λ o. lookup name (cells_if r.command.call r.described o (line_of r.end))) none) (row_shown r name)
    | inr added ↦ subst (λ content. IsShown content (row_at r name)) (new_holds r name new added ∙ ap (lookup name) (no_part r none)) (row_shown r name)
  ];
  of_table = λ r call name is new among.
      subst (λ content. IsShown content (row_at r name)) (new_holds r name new among ∙ ap (λ asked. lookup name (named_cells asked r.described r.end)) is) (row_shown r name);
} where
  -- the name of a column doesn't end with `_text`, and is none of a row's
  name_facts : (fields : List FieldSeen) (name : List ℕ) → are_columns fields ≡ true → is_named name fields ≡ true
      → (ends_as_text name ≡ false) × (is_among name names_of_row ≡ false)
  name_facts [] name are named = absurd (false≢true named)
  name_facts (f ∷ fs) name are named =
      let parts = and_parts (is_column f && not (is_named f.name fs)) (are_columns fs) are in
      let one = and_parts (is_column f) (not (is_named f.name fs)) parts.0 in
      elim (cases_Bool (bytes_eq f.name name)) [
        | inl same ↦
            let equal = (bytes_eq-Decides f.name name).0 same in
            (ap ends_as_text (sym equal) ∙ column_no_text f one.0, ap (λ n. is_among n names_of_row) (sym equal) ∙ column_apart f one.0)
        | inr other ↦ name_facts fs name parts.1 (sym (ap (λ b. b || is_named name fs) other) ∙ named)
      ]

-- the names of the added columns' columns
pub column_names : (names : List (List ℕ)) → map (λ c. c.name) (new_columns names) ≡ names
column_names [] = refl
column_names (name ∷ names) = ap (λ l. name ∷ l) (column_names names)

-- the names of the last columns
abbrev last_names : List (List ℕ)
last_names = map (λ c. c.name) last_columns

-- the names of a wide row, in their order
names_ordered : (columns : List (List ℕ)) → header true columns ≡ first_names ++ (quantity_names ++ (columns ++ last_names))
names_ordered columns =
    ap (λ l. first_names ++ (quantity_names ++ l)) (map-append (λ (c : Column). c.name) (new_columns columns) last_columns ∙ ap (λ l. l ++ last_names) (column_names columns))

-- names that are apart from those of a row are so from its first and its last names
row_parts : (columns : List (List ℕ)) → are_apart columns names_of_row ≡ true → (are_apart columns first_names ≡ true) × (are_apart columns last_names ≡ true)
row_parts [] apart = (refl, refl)
row_parts (n ∷ columns) apart =
    let parts = and_parts (not (is_among n names_of_row)) (are_apart columns names_of_row) apart in
    let both = among_parts n first_names names_behind (not-true _ parts.0) in
    let others = row_parts columns parts.1 in
    (and_from _ _ (ap not both.0) others.0, and_from _ _ (ap not (among_parts n (codes "items" ∷ []) last_names both.1).1) others.1)

-- the law: the added columns follow those of the table, and no two names are the same
pub added_follow : AddedColumnsFollow
added_follow = record {
  order = names_ordered;
  distinct = λ columns new distinct.
      let apart = new_apart columns new in
      let row = row_parts columns apart.0 in
      let behind = distinct_both columns last_names distinct refl row.1 in
      let quantities = distinct_both quantity_names (columns ++ last_names) refl behind (apart_both quantity_names columns last_names (apart_turned columns quantity_names apart.1) refl) in
      ap are_distinct (names_ordered columns)
      ∙ distinct_both first_names (quantity_names ++ (columns ++ last_names)) refl quantities
      (apart_both first_names quantity_names (columns ++ last_names) refl (apart_both first_names columns last_names (apart_turned columns first_names row.0) refl));
}
