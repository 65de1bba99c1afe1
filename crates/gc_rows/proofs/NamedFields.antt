-- The fields under names: the code writes them one after the other, and the definitions look them up among the cells of an answer.
use Rattle.gc_rows.proofs.Common.{◌≡◌, ◌<◌, ◌++◌, ◌∷◌, ◌∙◌, [], ℕ, ◌+◌, List, true, Option, Some, None, inl, inr, append_assoc, length, map, drop, replicate, refl, sym, ap, arith, flat_map, bytes_eq, cases_Bool, drop_more, length-append, map-append, Answer, Asked, Table, Raw, Value, DescriptionSeen, End, line_of, FieldSeen, value_under, field_of, fields_of, lookup, Entry, answer_cells, cells_if, cells_in, counted_answer, described_part, end_cells, named_cells, new_columns, quantity_cells, field_cells, answer_fields_in, fields_asked, named_fields, quantity_fields, text_under, value_text, quantity_name, quantity_names, answer_columns, behind_comma, fields_behind_commas, values_of, QUANTITIES}
use Rattle.gc_rows.proofs.Spreading.{each_spread}

-- texts of names, each written as a field after a comma
pub fields_written : {X : Type 0} (f : List ℕ → List ℕ) (g : X → List ℕ) (xs : List X)
    → flat_map (λ x. behind_comma (f (g x))) xs ≡ fields_behind_commas (map f (map g xs))
fields_written f g [] = refl
fields_written f g (x ∷ xs) = ap (λ l. behind_comma (f (g x)) ++ l) (fields_written f g xs)

-- names, each written as a field after a comma
pub names_written : {X : Type 0} (g : X → List ℕ) (xs : List X) → flat_map (λ x. behind_comma (g x)) xs ≡ fields_behind_commas (map g xs)
names_written g [] = refl
names_written g (x ∷ xs) = ap (λ l. behind_comma (g x) ++ l) (names_written g xs)

-- the field under the name of one more quantity was written: with the fields of the others it makes up all
pub one_more_known : (f : List ℕ → List ℕ) (new old whole : List ℕ) (k : ℕ) → k < 24 → new ≡ old ++ behind_comma (f (quantity_name k))
    → old ++ fields_behind_commas (map f (drop k quantity_names)) ≡ whole → new ++ fields_behind_commas (map f (drop (k + 1) quantity_names)) ≡ whole
one_more_known f new old whole k lt written all =
    ap (λ l. l ++ fields_behind_commas (map f (drop (k + 1) quantity_names))) written
    ∙ append_assoc old (behind_comma (f (quantity_name k))) (fields_behind_commas (map f (drop (k + 1) quantity_names)))
    ∙ ap (λ names. old ++ fields_behind_commas (map f names)) (sym (drop_more quantity_names k [] lt)) ∙ all

-- no value has a name
none_under : (name : List ℕ) (fields : List FieldSeen) → value_under name fields [] ≡ None
none_under name [] = refl
none_under name (f ∷ fs) = elim (cases_Bool (bytes_eq f.name name)) [ inl same ↦ rw same refl | inr other ↦ rw other (none_under name fs) ]

-- under a name is the text of the value of this name
text_found : (fields : List FieldSeen) (values : List Value) (items : List (List ℕ)) (name : List ℕ)
    → field_of (lookup name (field_cells fields values items)) ≡ text_under fields values name
text_found [] values items name = refl
text_found (f ∷ fs) [] items name = ap value_text (sym (none_under name (f ∷ fs)))
text_found (f ∷ fs) (v ∷ vs) items name = elim (cases_Bool (bytes_eq f.name name)) [
  | inl same ↦ rw same refl
  | inr other ↦ rw other (text_found fs vs (drop 1 items) name)
]

-- so it is under each of these names
pub texts_found : (fields : List FieldSeen) (values : List Value) (items : List (List ℕ)) (names : List (List ℕ))
    → map (text_under fields values) names ≡ named_fields names (field_cells fields values items)
texts_found fields values items [] = refl
texts_found fields values items (name ∷ names) =
    ap (λ t. t ∷ map (text_under fields values) names) (sym (text_found fields values items name))
    ∙ ap (λ l. field_of (lookup name (field_cells fields values items)) ∷ l) (texts_found fields values items names)

-- without cells each field is empty
none_found : (names : List (List ℕ)) → named_fields names [] ≡ replicate (length names) []
none_found [] = refl
none_found (name ∷ names) = ap (λ l. [] ∷ l) (none_found names)

-- as many as there are quantities of the table and further columns
pub all_empty : (names : List (List ℕ)) (n : ℕ) → length names ≡ n → replicate (QUANTITIES + n) [] ≡ named_fields (quantity_names ++ names) []
all_empty names n same =
    let count : QUANTITIES + n ≡ length (quantity_names ++ names) = omega (arith, same, length-append quantity_names names) in
    ap (λ k. replicate k []) count ∙ sym (none_found (quantity_names ++ names))

-- the fields of columns that descriptions add
new_fields : (names : List (List ℕ)) (r : Entry) → fields_of (cells_in (new_columns names) r) ≡ named_fields names (described_part r)
new_fields [] r = refl
new_fields (name ∷ names) r = ap (λ l. field_of (lookup name (described_part r)) ∷ l) (new_fields names r)

-- the fields of a record's quantities are those of the table's, and those that descriptions add
pub quantities_apart : (r : Entry) → quantity_fields true r ≡ named_fields quantity_names (quantity_cells r) ++ named_fields r.columns (described_part r)
quantities_apart r = ap (λ l. named_fields quantity_names (quantity_cells r) ++ l) (new_fields r.columns r)

-- the cells of an answer that counts
cells_counted : (asked : Asked) (described : Option DescriptionSeen) (end : End) (answer : Answer) (line : List ℕ) → counted_answer end ≡ Some answer → line_of end ≡ Some line
    → end_cells asked described end ≡ answer_cells asked described answer line
cells_counted asked described end answer line counts came = ap (λ o. cells_if asked described o (line_of end)) counts ∙ ap (cells_if asked described (Some answer)) came

-- the fields of the quantities of an answer that counts
fields_counted : (asked : Asked) (described : Option DescriptionSeen) (end : End) (columns : List (List ℕ)) (answer : Answer) (line : List ℕ)
    → counted_answer end ≡ Some answer → line_of end ≡ Some line
    → named_fields quantity_names (end_cells asked described end) ++ named_fields columns (named_cells asked described end) ≡ fields_asked asked described columns answer line
fields_counted (Table call) described end columns answer line counts came =
    ap (λ cells. named_fields quantity_names cells ++ named_fields columns []) (cells_counted (Table call) described end answer line counts came)
    ∙ ap (λ l. l ++ named_fields columns []) (each_spread call answer (values_of line)).fields ∙ ap (λ l. answer_columns call answer ++ l) (none_found columns)
fields_counted (Raw raw) described end columns answer line counts came =
    ap (λ cells. named_fields quantity_names cells ++ named_fields columns cells) (cells_counted (Raw raw) described end answer line counts came)
    ∙ sym (map-append (λ name. field_of (lookup name (answer_cells (Raw raw) described answer line))) quantity_names columns)

-- the fields of a record whose answer counts
pub answered_fields : (r : Entry) (answer : Answer) (line : List ℕ) → counted_answer r.end ≡ Some answer → line_of r.end ≡ Some line
    → answer_fields_in r answer line ≡ quantity_fields true r
answered_fields r answer line counts came = sym (quantities_apart r ∙ fields_counted r.command.call r.described r.end r.columns answer line counts came)

-- an ending whose answer doesn't count has no cell of a quantity
no_named_cells : (asked : Asked) (described : Option DescriptionSeen) (end : End) → counted_answer end ≡ None → named_cells asked described end ≡ []
no_named_cells (Table call) described end none = refl
no_named_cells (Raw raw) described end none = ap (λ o. cells_if (Raw raw) described o (line_of end)) none

-- the fields of a record whose answer doesn't count are empty
pub unanswered_fields : (r : Entry) (n : ℕ) → length r.columns ≡ n → counted_answer r.end ≡ None → replicate (QUANTITIES + n) [] ≡ quantity_fields true r
unanswered_fields r n same none =
    all_empty r.columns n same ∙ map-append (λ name. field_of (lookup name [])) quantity_names r.columns
    ∙ ap (λ cells. named_fields quantity_names cells ++ named_fields r.columns []) (sym (ap (λ o. cells_if r.command.call r.described o (line_of r.end)) none))
    ∙ ap (λ cells. named_fields quantity_names (quantity_cells r) ++ named_fields r.columns cells) (sym (no_named_cells r.command.call r.described r.end none))
    ∙ sym (quantities_apart r)
