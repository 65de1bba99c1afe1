-- The column of a name, looked for from the left: `k` fields have another name.
use Rattle.gc_texts.proofs.Common.{◌≡◌, ◌<◌, ◌≤◌, ◌+◌, ℕ, true, false, List, length, map, drop, get_or, Some, None, ap, sym, ◌∙◌, cond, bytes_eq, drop_all, drop_more, drop-drop, Value, field_seen, first_value, value_under, Field}

-- the value at a place
pub value_there : (values : List Value) (k : ℕ) (d : Value) → k < length values → Some (get_or values k d) ≡ first_value (drop k values)
value_there values k d below = sym (ap first_value (drop_more values k d below))

pub value_past : (values : List Value) (k : ℕ) → length values ≤ k → None ≡ first_value (drop k values)
value_past values k past = sym (ap first_value (drop_all k values past))

-- `f` is the field at place k
module _
    (name : List ℕ) (fields : List Field) (values : List Value) (k : ℕ) (f : Field)
    (at : value_under name (map field_seen fields) values ≡ value_under name (map field_seen (drop k fields)) (drop k values))
    (below : k < length fields) (here : f ≡ get_or fields k f) where
  -- what the columns from here on say
  columns_here : value_under name (map field_seen (drop k fields)) (drop k values)
      ≡ cond (bytes_eq f.name.items name) (first_value (drop k values)) (value_under name (map field_seen (drop (k + 1) fields)) (drop 1 (drop k values)))
  columns_here =
      ap (λ (fs : List Field). value_under name (map field_seen fs) (drop k values)) (drop_more fields k f below)
      ∙ ap (λ (g : Field). cond (bytes_eq g.name.items name) (first_value (drop k values)) (value_under name (map field_seen (drop (k + 1) fields)) (drop 1 (drop k values)))) (sym here)

  -- where the field has the name, the value is here
  pub found_here : bytes_eq f.name.items name ≡ true → value_under name (map field_seen fields) values ≡ first_value (drop k values)
  found_here is = at ∙ columns_here ∙ ap (λ b. cond b (first_value (drop k values)) (value_under name (map field_seen (drop (k + 1) fields)) (drop 1 (drop k values)))) is

  -- where it hasn't, it is looked for behind the field
  pub found_behind : bytes_eq f.name.items name ≡ false
      → value_under name (map field_seen fields) values ≡ value_under name (map field_seen (drop (k + 1) fields)) (drop (k + 1) values)
  found_behind isnt =
      at ∙ columns_here
      ∙ ap (λ b. cond b (first_value (drop k values)) (value_under name (map field_seen (drop (k + 1) fields)) (drop 1 (drop k values)))) isnt
      ∙ ap (λ (vs : List Value). value_under name (map field_seen (drop (k + 1) fields)) vs) (drop-drop 1 k values)

-- where no field is left, none has the name
pub found_nowhere : (name : List ℕ) (fields : List Field) (values : List Value) (k : ℕ)
    → value_under name (map field_seen fields) values ≡ value_under name (map field_seen (drop k fields)) (drop k values) → length fields ≤ k
    → value_under name (map field_seen fields) values ≡ None
found_nowhere name fields values k at past = at ∙ ap (λ (fs : List Field). value_under name (map field_seen fs) (drop k values)) (drop_all k fields past)
