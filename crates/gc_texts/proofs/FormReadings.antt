-- How a form's answers are read: in one way at most, and by the places of the columns of a measurement.
use Rattle.gc_texts.proofs.Common.{◌≡◌, ◌<◌, ◌≤◌, ◌+◌, ℕ, Bool, true, false, List, [], ◌∷◌, length, map, drop, get_or, Option, Some, None, arith, refl, ap, sym, ◌∙◌, cond, if◌then◌else◌, option_map, bytes_eq, drop_all, drop_more, drop-drop, Answer, Reading, Value, FieldSeen, field_seen, IsFormAnswer, IsFormReading, decimal_at, measured_part, place_named, AreOfKinds, kinds_seen, decimal_in, first_value, value_under, Field, Form}
use Rattle.gc_texts.proofs.KindReadings.{fault_has_no_values, one_kinds_fault, values_once}
use Rattle.gc_catalogue.specs.declared.answer.Reading.TheVariants as reading

-- The place of a name, looked for from the left: `k` fields have another name.

-- two counts in front of a place
counted_twice : (k : ℕ) (o : Option ℕ) → option_map (λ j. k + j) (option_map (λ j. j + 1) o) ≡ option_map (λ j. (k + 1) + j) o
counted_twice k None = refl
counted_twice k (Some j) = ap Some (omega arith)

-- no count in front of it
pub uncounted : (o : Option ℕ) → o ≡ option_map (λ j. 0 + j) o
uncounted None = refl
uncounted (Some j) = ap Some (omega arith)

-- `f` is the field at place k
module _
    (name : List ℕ) (fields : List Field) (k : ℕ) (f : Field)
    (at : place_named name (map field_seen fields) ≡ option_map (λ j. k + j) (place_named name (map field_seen (drop k fields))))
    (below : k < length fields) (here : f ≡ get_or fields k f) where
  -- what the fields from here on say
  place_here : place_named name (map field_seen (drop k fields))
      ≡ cond (bytes_eq f.name.items name) (Some 0) (option_map (λ j. j + 1) (place_named name (map field_seen (drop (k + 1) fields))))
  place_here =
      ap (λ (fs : List Field). place_named name (map field_seen fs)) (drop_more fields k f below)
      ∙ ap (λ (g : Field). cond (bytes_eq g.name.items name) (Some 0) (option_map (λ j. j + 1) (place_named name (map field_seen (drop (k + 1) fields))))) (sym here)

  -- where the field has the name, its place is k
  pub placed_here : bytes_eq f.name.items name ≡ true → Some k ≡ place_named name (map field_seen fields)
  placed_here is =
      let same : Some k ≡ Some (k + 0) = ap Some (omega arith) in
      same
      ∙ sym (at ∙ ap (option_map (λ j. k + j)) (place_here ∙ ap (λ b. cond b (Some 0) (option_map (λ j. j + 1) (place_named name (map field_seen (drop (k + 1) fields))))) is))

  -- where it hasn't, the name is looked for behind it
  pub placed_behind : bytes_eq f.name.items name ≡ false
      → place_named name (map field_seen fields) ≡ option_map (λ j. (k + 1) + j) (place_named name (map field_seen (drop (k + 1) fields)))
  placed_behind isnt =
      at ∙ ap (option_map (λ j. k + j)) (place_here ∙ ap (λ b. cond b (Some 0) (option_map (λ j. j + 1) (place_named name (map field_seen (drop (k + 1) fields))))) isnt)
      ∙ counted_twice k (place_named name (map field_seen (drop (k + 1) fields)))

-- where no field is left, none has the name
pub placed_nowhere : (name : List ℕ) (fields : List Field) (k : ℕ)
    → place_named name (map field_seen fields) ≡ option_map (λ j. k + j) (place_named name (map field_seen (drop k fields))) → length fields ≤ k
    → None ≡ place_named name (map field_seen fields)
placed_nowhere name fields k at past = sym (at ∙ ap (λ (fs : List Field). option_map (λ j. k + j) (place_named name (map field_seen fs))) (drop_all k fields past))

-- The readings.

-- parameters with these values have this answer by the form
pub form_answers : (form : Form) (params : List ℕ) (values : List Value) (answer : Answer) → AreOfKinds (kinds_seen form.kinds) params values
    → answer ≡ measured_part form values → IsFormAnswer form params answer
form_answers form params values answer are is = record { values = values; are = are; answer_is = is }

-- parameters have one reading by a form at most
pub one_form_reading : (form : Form) (params : List ℕ) (a b : Reading) → IsFormReading form params a → IsFormReading form params b → a ≡ b
one_form_reading form params (reading.Value v) (reading.Value w) x y =
    ap reading.Value (x.answer_is ∙ ap (measured_part form) (values_once (kinds_seen form.kinds) params x.values y.values x.are y.are) ∙ sym y.answer_is)
one_form_reading form params (reading.Unreadable e) (reading.Unreadable f) x y = ap reading.Unreadable (one_kinds_fault (kinds_seen form.kinds) params e f x y)
one_form_reading form params (reading.Value v) (reading.Unreadable e) x y = absurd (fault_has_no_values (kinds_seen form.kinds) params x.values e x.are y)
one_form_reading form params (reading.Unreadable e) (reading.Value v) x y = absurd (fault_has_no_values (kinds_seen form.kinds) params y.values e y.are x)
one_form_reading form params (reading.Refused c) b x y = absurd x
one_form_reading form params (reading.ComFault c) b x y = absurd x
one_form_reading form params (reading.Value v) (reading.Refused c) x y = absurd y
one_form_reading form params (reading.Value v) (reading.ComFault c) x y = absurd y
one_form_reading form params (reading.Unreadable e) (reading.Refused c) x y = absurd y
one_form_reading form params (reading.Unreadable e) (reading.ComFault c) x y = absurd y

-- the decimal at the place of a name is the one in the column of this name
pub decimal_of_place : (name : List ℕ) (fields : List FieldSeen) (values : List Value)
    → decimal_at values (place_named name fields) ≡ decimal_in (value_under name fields values)
decimal_of_place name [] values = refl
decimal_of_place name (f ∷ fs) values = by_test (bytes_eq f.name name) (decimal_of_place name fs (drop 1 values)) where
  -- a place behind the first is one of the values behind the first
  behind : (o : Option ℕ) → decimal_at values (option_map (λ k. k + 1) o) ≡ decimal_at (drop 1 values) o
  behind None = refl
  behind (Some k) = ap (λ (vs : List Value). decimal_in (first_value vs)) (ap (λ n. drop n values) (omega arith) ∙ sym (drop-drop k 1 values))

  -- the lemma above, by whether the first field has the name
  by_test : (b : Bool) → decimal_at (drop 1 values) (place_named name fs) ≡ decimal_in (value_under name fs (drop 1 values))
      → decimal_at values (if b then Some 0 else option_map (λ k. k + 1) (place_named name fs))
      ≡ decimal_in (if b then first_value values else value_under name fs (drop 1 values))
  by_test true more = refl
  by_test false more = behind (place_named name fs) ∙ more
