-- Fields tested from the left for whether they may be columns: `k` were tested.
use Rattle.gc_texts.proofs.Common.{◌≡◌, ◌<◌, ◌+◌, ◌-◌, ℕ, Bool, true, false, ◌&&◌, ◌||◌, List, [], ◌∷◌, length, map, take, drop, get_or, refl, ap, sym, ◌∙◌, arith, cond, length-drop, list_any, bytes_eq, drop_more, take_all, are_columns, ends_as_text, is_column, is_name_of_row, is_named, suits_name, FieldSeen, field_seen, Field}
use Rattle.std.specs.Prelude.{not}

-- whether one of the fields has a name, by the fields of the code
named_seen : (name : List ℕ) (fields : List Field) → list_any (λ (f : Field). bytes_eq f.name.items name) fields ≡ is_named name (map field_seen fields)
named_seen name [] = refl
named_seen name (f ∷ fs) = ap (λ b. bytes_eq f.name.items name || b) (named_seen name fs)

-- what the fields from place k on say, by the field there and those behind it
columns_here : (fields : List Field) (k : ℕ) (d : Field) → k < length fields
    → are_columns (map field_seen (drop k fields))
    ≡ (is_column (field_seen (get_or fields k d)) && not (is_named (get_or fields k d).name.items (map field_seen (drop (k + 1) fields)))
    && are_columns (map field_seen (drop (k + 1) fields)))
columns_here fields k d below = ap (λ (fs : List Field). are_columns (map field_seen fs)) (drop_more fields k d below)

-- `d` is the field at place k, and `name` its name
module _ (fields : List Field) (k : ℕ) (d : Field) (here : d ≡ get_or fields k d) where
  -- what the test for a column said
  pub column_test : (r : Bool) → r ≡ is_column (field_seen d) → r ≡ is_column (field_seen (get_or fields k d))
  column_test r is = is ∙ ap (λ (f : Field). is_column (field_seen f)) here

  -- what the test for its name among later fields said
  pub named_test : (name : List ℕ) (r : Bool) → name ≡ d.name.items
      → r ≡ list_any (λ (f : Field). bytes_eq f.name.items name) (take (length fields - (k + 1)) (drop (k + 1) fields))
      → r ≡ is_named (get_or fields k d).name.items (map field_seen (drop (k + 1) fields))
  named_test name r named is =
      is ∙ ap (λ (fs : List Field). list_any (λ (f : Field). bytes_eq f.name.items name) fs) (take_all (length fields - (k + 1)) (drop (k + 1) fields) (omega (arith, length-drop (k + 1) fields)))
      ∙ named_seen name (drop (k + 1) fields)
      ∙ ap (λ (n : List ℕ). is_named n (map field_seen (drop (k + 1) fields))) (named ∙ ap (λ (f : Field). f.name.items) here)

module _
    (fields : List Field) (k : ℕ) (d : Field) (at : are_columns (map field_seen fields) ≡ are_columns (map field_seen (drop k fields))) (below : k < length fields)
    (column named : Bool) (is_tested : column ≡ is_column (field_seen (get_or fields k d))) where
  -- a field that is no column
  pub no_column : column ≡ false → are_columns (map field_seen fields) ≡ false
  no_column isnt =
      at ∙ columns_here fields k d below
      ∙ ap (λ b. b && not (is_named (get_or fields k d).name.items (map field_seen (drop (k + 1) fields))) && are_columns (map field_seen (drop (k + 1) fields)))
      (sym is_tested ∙ isnt)

  -- what the fields say where this one is a column
  column_here : column ≡ true → are_columns (map field_seen fields)
      ≡ (not (is_named (get_or fields k d).name.items (map field_seen (drop (k + 1) fields))) && are_columns (map field_seen (drop (k + 1) fields)))
  column_here is =
      at ∙ columns_here fields k d below
      ∙ ap (λ b. b && not (is_named (get_or fields k d).name.items (map field_seen (drop (k + 1) fields))) && are_columns (map field_seen (drop (k + 1) fields)))
      (sym is_tested ∙ is)

  -- a field whose name a later one has
  pub named_twice : column ≡ true → named ≡ is_named (get_or fields k d).name.items (map field_seen (drop (k + 1) fields)) → named ≡ true
      → are_columns (map field_seen fields) ≡ false
  named_twice is tested again = column_here is ∙ ap (λ b. not b && are_columns (map field_seen (drop (k + 1) fields))) (sym tested ∙ again)

  -- a field that may be a column behind those before it
  pub one_column : column ≡ true → named ≡ is_named (get_or fields k d).name.items (map field_seen (drop (k + 1) fields)) → named ≡ false
      → are_columns (map field_seen fields) ≡ are_columns (map field_seen (drop (k + 1) fields))
  one_column is tested once = column_here is ∙ ap (λ b. not b && are_columns (map field_seen (drop (k + 1) fields))) (sym tested ∙ once)

-- a field under whose name JSON would have something else
pub column_as_text : (f : FieldSeen) → is_name_of_row f.name ≡ false → ends_as_text f.name ≡ true → is_column f ≡ false
column_as_text f no_row as_text =
    ap (λ b. cond b false (cond (ends_as_text f.name) false (suits_name f.name f.kind))) no_row ∙ ap (λ b. cond b false (suits_name f.name f.kind)) as_text

-- a field under whose name a row has nothing else
pub column_suits : (f : FieldSeen) → is_name_of_row f.name ≡ false → ends_as_text f.name ≡ false → is_column f ≡ suits_name f.name f.kind
column_suits f no_row no_text =
    ap (λ b. cond b false (cond (ends_as_text f.name) false (suits_name f.name f.kind))) no_row ∙ ap (λ b. cond b false (suits_name f.name f.kind)) no_text
