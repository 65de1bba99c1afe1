-- The labels of a station's text are sound.
use Rattle.gc_program_theorems.proofs.Common.{◌≡◌, ◌<◌, ℕ, Bool, true, false, List, [], ◌∷◌, ◌++◌, length, map, inl, inr, refl, sym, ap, arith, ◌∙◌, subst, ◌==◌, ◌&&◌, ◌||◌, not, nat_lt, AllByRecursion, list_all, bytes_eq, and_from, and_parts, cases_Bool, eqb-true, false≢true, lt-ltb, ltb-true, ne_eqb, not-true, bytes_eq-Decides, cons_tail, AreSound, HasSoundFields, labels_of, are_new, quantity_names, are_columns, is_column, is_name_of_row, is_named, names_of_row, FieldSeen, HaveNames, field_seen, is_field_name, is_name_byte, is_small_letter, escaped, is_unescaped, fresh_names, has_column, is_fresh, is_new_column, with_columns, IsTasks, TasksSeen, Description}
use Rattle.arrayvec.specs.ArrayVec.{ArrayVec}
use Rattle.gc_lines.proofs.Lists.{cons_head}
use Rattle.gc_texts.specs.declared.field.Field.{Field}
use Rattle.gc_texts.proofs.DescribedTexts.{HasSoundValues, descriptions_sound}
use Rattle.gc_rows.specs.Lookup as rows

-- descriptions of a text have sound fields
fields_sound : (described : List Description) → AllByRecursion HasSoundValues described → AllByRecursion HasSoundFields described
fields_sound [] each = tt
fields_sound (d ∷ described) each = (record { columns = each.0.0; named = each.0.1 }, fields_sound described each.1)

-- Names that are new.

-- a name that no quantity of the table has isn't among theirs
not_quantity : (name : List ℕ) → is_new_column name ≡ true → rows.is_among name quantity_names ≡ false
not_quantity name new = by_list quantity_names refl where
  -- a new column is none of a list of names that aren't new
  by_list : (names : List (List ℕ)) → list_all (λ n. not (is_new_column n)) names ≡ true → rows.is_among name names ≡ false
  by_list [] all = refl
  by_list (n ∷ names) all =
      let parts = and_parts (not (is_new_column n)) (list_all (λ n. not (is_new_column n)) names) all in
      elim (cases_Bool (bytes_eq n name)) [
        | inl same ↦ absurd (false≢true (sym (not-true _ parts.0) ∙ ap is_new_column ((bytes_eq-Decides n name).0 same) ∙ new))
        | inr other ↦ ap (λ b. b || rows.is_among name names) other ∙ by_list names parts.1
      ]

-- a field that may be a column has no name of a row
no_row_name : (f : FieldSeen) → is_column f ≡ true → is_name_of_row f.name ≡ false
no_row_name f is = elim (cases_Bool (is_name_of_row f.name)) [
  | inl bad ↦ absurd (false≢true (sym (rw (bad) refl) ∙ is))
  | inr good ↦ good
]

-- whether a name is new
abbrev is_new_name : List ℕ → Bool
is_new_name name = not (rows.is_among name names_of_row) && not (rows.is_among name quantity_names)

-- the fresh names of fields that may be columns are new
fresh_are_new : (columns : List (ArrayVec ℕ)) (fields : List Field) → are_columns (map field_seen fields) ≡ true
    → are_new (map (λ n. n.items) (fresh_names columns fields)) ≡ true
fresh_are_new columns [] are = refl
fresh_are_new columns (f ∷ fields) are =
    let parts = and_parts (is_column (field_seen f) && not (is_named f.name.items (map field_seen fields))) (are_columns (map field_seen fields)) are in
    let one = (and_parts (is_column (field_seen f)) (not (is_named f.name.items (map field_seen fields))) parts.0).0 in
    let others = fresh_are_new columns fields parts.1 in
    elim (cases_Bool (is_fresh columns f.name.items)) [
      | inl fresh ↦
          let new = (and_parts (is_new_column f.name.items) (not (has_column columns f.name.items)) fresh).0 in
          rw (fresh) (and_from (is_new_name f.name.items) _
          (and_from (not (rows.is_among f.name.items names_of_row)) _ (ap not (no_row_name (field_seen f) one)) (ap not (not_quantity f.name.items new))) others)
      | inr old ↦ rw (old) others
    ]

-- new names of two lists
both_new : (xs ys : List (ArrayVec ℕ)) → are_new (map (λ n. n.items) xs) ≡ true → are_new (map (λ n. n.items) ys) ≡ true → are_new (map (λ n. n.items) (xs ++ ys)) ≡ true
both_new [] ys front back = back
both_new (x ∷ xs) ys front back =
    let parts = and_parts (is_new_name x.items) (are_new (map (λ n. n.items) xs)) front in
    and_from (is_new_name x.items) _ parts.0 (both_new xs ys parts.1 back)

-- the columns of descriptions are new, with those before them
with_are_new : (columns : List (ArrayVec ℕ)) (described : List Description) → are_new (map (λ n. n.items) columns) ≡ true → AllByRecursion HasSoundFields described
    → are_new (map (λ n. n.items) (with_columns columns described)) ≡ true
with_are_new columns [] new each = new
with_are_new columns (d ∷ described) new each =
    with_are_new (columns ++ fresh_names columns d.values.items) described
    (both_new columns (fresh_names columns d.values.items) new (fresh_are_new columns d.values.items each.0.columns)) each.1

-- Names in which escaping changes nothing.

-- a byte between the controls and the delete, which is no backslash, isn't escaped
unescaped_between : (b : ℕ) → 31 < b → b < 127 → (b ≡ 92 → ⊥) → is_unescaped b ≡ true
unescaped_between b above below other = and_from (nat_lt 31 b && nat_lt b 127) (not (b == 92)) (and_from (nat_lt 31 b) (nat_lt b 127) (lt-ltb 31 b above) (lt-ltb b 127 below)) (ap not (ne_eqb b 92 other))

-- a small letter isn't
letter_plain : (b : ℕ) → is_small_letter b ≡ true → is_unescaped b ≡ true
letter_plain b is =
    let parts = and_parts (nat_lt 96 b) (nat_lt b 123) is in
    let low = ltb-true 96 b parts.0 in
    let high = ltb-true b 123 parts.1 in
    unescaped_between b (omega (arith, low)) (omega (arith, high)) (λ e. omega (arith, low, e))

-- nor is any byte of a name
byte_plain : (b : ℕ) → is_name_byte b ≡ true → is_unescaped b ≡ true
byte_plain b is = elim (cases_Bool (is_small_letter b)) [
  | inl letter ↦ letter_plain b letter
  | inr no_letter ↦ elim (cases_Bool (nat_lt 47 b && nat_lt b 58)) [
    | inl digit ↦
        let parts = and_parts (nat_lt 47 b) (nat_lt b 58) digit in
        let low = ltb-true 47 b parts.0 in
        let high = ltb-true b 58 parts.1 in
        unescaped_between b (omega (arith, low)) (omega (arith, high)) (λ e. omega (arith, high, e))
    | inr no_digit ↦
        let line : b ≡ 95 = eqb-true b 95 (sym (ap (λ x. (x || (nat_lt 47 b && nat_lt b 58)) || (b == 95)) no_letter ∙ ap (λ x. x || (b == 95)) no_digit) ∙ is) in
        unescaped_between b (omega (arith, line)) (omega (arith, line)) (λ e. omega (arith, line, e))
  ]
]

-- escaping leaves such bytes
pub bytes_stay : (bytes : List ℕ) → list_all is_name_byte bytes ≡ true → escaped bytes ≡ bytes
bytes_stay [] are = refl
bytes_stay (b ∷ bytes) are =
    let parts = and_parts (is_name_byte b) (list_all is_name_byte bytes) are in
    rw (byte_plain b parts.0) (ap (λ l. b ∷ l) (bytes_stay bytes parts.1))

-- and the name of a field
name_stays : (name : List ℕ) → is_field_name name ≡ true → escaped name ≡ name
name_stays [] is = absurd (false≢true is)
name_stays (b ∷ bytes) is =
    let parts = and_parts (is_small_letter b && nat_lt (length bytes) 32) (list_all is_name_byte bytes) is in
    let letter = (and_parts (is_small_letter b) (nat_lt (length bytes) 32) parts.0).0 in
    rw (letter_plain b letter) (ap (λ l. b ∷ l) (bytes_stay bytes parts.1))

-- escaping changes none of these names
abbrev ArePlain : List (ArrayVec ℕ) → Type 0
ArePlain columns = map escaped (map (λ n. n.items) columns) ≡ map (λ n. n.items) columns

-- one more
one_plain : (x : ArrayVec ℕ) (xs : List (ArrayVec ℕ)) → escaped x.items ≡ x.items → ArePlain xs → ArePlain (x ∷ xs)
one_plain x xs first others = ap (λ l. l ∷ map escaped (map (λ n. n.items) xs)) first ∙ ap (λ l. x.items ∷ l) others

-- so it is of the fresh names of fields
fresh_are_plain : (columns : List (ArrayVec ℕ)) (fields : List Field) → HaveNames (map field_seen fields) → ArePlain (fresh_names columns fields)
fresh_are_plain columns [] named = refl
fresh_are_plain columns (f ∷ fields) named = elim (cases_Bool (is_fresh columns f.name.items)) [
  | inl fresh ↦ rw (fresh) (one_plain f.name (fresh_names columns fields) (name_stays f.name.items named.0) (fresh_are_plain columns fields named.1))
  | inr old ↦ rw (old) (fresh_are_plain columns fields named.1)
]

-- of two lists
both_plain : (xs ys : List (ArrayVec ℕ)) → ArePlain xs → ArePlain ys → ArePlain (xs ++ ys)
both_plain [] ys front back = back
both_plain (x ∷ xs) ys front back =
    one_plain x (xs ++ ys) (cons_head (escaped x.items) x.items (map escaped (map (λ n. n.items) xs)) (map (λ n. n.items) xs) front)
    (both_plain xs ys (cons_tail (escaped x.items) x.items (map escaped (map (λ n. n.items) xs)) (map (λ n. n.items) xs) front) back)

-- and of the columns of descriptions
with_are_plain : (columns : List (ArrayVec ℕ)) (described : List Description) → ArePlain columns → AllByRecursion HasSoundFields described → ArePlain (with_columns columns described)
with_are_plain columns [] plain each = plain
with_are_plain columns (d ∷ described) plain each =
    with_are_plain (columns ++ fresh_names columns d.values.items) described
    (both_plain columns (fresh_names columns d.values.items) plain (fresh_are_plain columns d.values.items each.0.named)) each.1

-- the labels of a station's text are sound
pub labels_sound : (text : List ℕ) (deadline : ℕ) (chained : Bool) (all : TasksSeen) → IsTasks text deadline chained all → AreSound (labels_of all)
labels_sound text deadline chained all are =
    let each = fields_sound all.described (descriptions_sound text deadline chained all are) in
    record {
      each = each;
      new = ap (λ (cs : List (ArrayVec ℕ)). are_new (map (λ n. n.items) cs)) are.columns_are ∙ with_are_new [] all.described refl each;
      plain = subst ArePlain (sym are.columns_are) (with_are_plain [] all.described refl each);
    }
