-- What the laws of items say: an item is read as one value of a kind, or has one fault, and never both; and a value's text reads
-- back.
use Rattle.gc_values.proofs.Common.{◌≡◌, ℕ, ◌<◌, Bool, true, false, List, length, ℤ, pos, refl, sym, ap, ◌∙◌, subst, inl, inr, arith, Result, Ok, Err, IfErr, Some, hex_digit_value, number_of, IsByte, kind_of, IsItem, HasNoForm, IsBeyond, IsItemFault, IsValue, text, SpellsBeyond, SpellsNothing, IsTextItem, IsLongString, IsEither, NamesWhole, NamesWholeBeyond, IsBetween, Decimal, ValueFault, Kind, Value}
use Rattle.gc_values.proofs.ByteLemmas.{one_byte, byte_reads}
use Rattle.gc_values.proofs.DecimalLemmas.{same_decimal}
use Rattle.gc_values.proofs.ReadLemmas.{spells_once, in_range_only}
use Rattle.gc_values.proofs.TextLemmas.{one_string}
use Rattle.gc_values.proofs.WholeLemmas.{one_whole}
use Rattle.gc_values.proofs.WholeText.{signed_reads, boolean_between, boolean_reads}
use Rattle.gc_values.proofs.WrittenSpells.{written_spells}
use Rattle.gc_values.specs.declared.fault.ValueFault.TheVariants as fault
use Rattle.gc_values.specs.declared.value.Kind.TheVariants as kind
use Rattle.gc_values.specs.declared.value.Value.TheVariants as value

-- the written text of a value in its kind's range reads as the value
pub written_is_read : (v : Value) → IsValue v → IsItem (text v) v
written_is_read (value.Double d) h = written_spells d.digits d.scale d.is_canonical d.has_few_places
written_is_read (value.Long z) h = (signed_reads z, h)
written_is_read (value.Short z) h = (signed_reads z, h)
written_is_read (value.Byte n) h = byte_reads n h
written_is_read (value.Bool b) h = boolean_reads b
written_is_read (value.Text bytes) h = record { string = record { item_is = refl; plain = h.plain }; few = h.few }

-- an item that equals the written text of a value in its kind's range is read as the value
pub equal_text_reads : (v : Value) (item : List ℕ) → item ≡ text v → IsValue v → IsItem item v
equal_text_reads v item e h = subst (λ t. IsItem t v) (sym e) (written_is_read v h)

-- truth values with the same number, 0 or 1, are the same
one_boolean : (a b : Bool) → pos (number_of a) ≡ pos (number_of b) → a ≡ b
one_boolean true true e = refl
one_boolean false false e = refl
one_boolean true false e = let h : ◌≡◌ {A = ℕ} 1 0 = cc in absurd (omega (arith, h))
one_boolean false true e = let h : ◌≡◌ {A = ℕ} 0 1 = cc in absurd (omega (arith, h))

-- an item is at most one value of a kind
pub one_value : (v w : Value) (item : List ℕ) → kind_of v ≡ kind_of w → IsItem item v → IsItem item w → v ≡ w
one_value (value.Double d) (value.Double d') item e x y = let s = spells_once item d.digits d.scale d'.digits d'.scale x y in ap (λ z. value.Double z) (same_decimal d d' s.0 s.1)
one_value (value.Long n) (value.Long m) item e x y = ap (λ z. value.Long z) (one_whole item n m x.0 y.0)
one_value (value.Short n) (value.Short m) item e x y = ap (λ z. value.Short z) (one_whole item n m x.0 y.0)
one_value (value.Byte n) (value.Byte m) item e x y = ap (λ z. value.Byte z) (one_byte item n m x y)
one_value (value.Bool a) (value.Bool b) item e x y = ap (λ z. value.Bool z) (one_boolean a b (one_whole item _ _ x y))
one_value (value.Text t) (value.Text u) item e x y = ap (λ z. value.Text z) (one_string item t u x.string y.string)
one_value v w item e x y = absurd (cc)

-- an item that writes a whole number from -below to above doesn't write one out of that range
between_not_beyond : (item : List ℕ) (z : ℤ) (below above : ℕ) → NamesWhole item z → IsBetween below above z → NamesWholeBeyond below above item → ⊥
between_not_beyond item z below above w h far = far.2 (subst (λ y. IsBetween below above y) (one_whole item z far.0 w far.1) h)

-- an item that is a string of at most 64 bytes isn't a string of more than 64
text_item_not_long : (item bytes : List ℕ) → IsTextItem item bytes → IsLongString item → ⊥
text_item_not_long item bytes t long = let same = one_string item bytes long.0 t.string long.1 in let few = t.few in let many = long.2 in omega (arith, few, many, ap length same)

-- an item that is read as a value has the form of the value's kind
pub item_has_form : (v : Value) (item : List ℕ) → IsItem item v → HasNoForm (kind_of v) item → ⊥
item_has_form (value.Double d) item x f = f x.0 x.1
item_has_form (value.Long z) item x f = f z x.0
item_has_form (value.Short z) item x f = f z x.0
item_has_form (value.Byte n) item x f = f n x
item_has_form (value.Bool b) item x f = f (pos (number_of b)) x
item_has_form (value.Text t) item x f = f t x.string

-- an item that is read as a value isn't beyond the range of the value's kind
pub item_is_in_range : (v : Value) (item : List ℕ) → IsItem item v → IsBeyond (kind_of v) item → ⊥
item_is_in_range (value.Double d) item x f = in_range_only item d.digits d.scale x d.is_in_range f
item_is_in_range (value.Long z) item x f = between_not_beyond item z 2147483648 2147483647 x.0 x.1 f
item_is_in_range (value.Short z) item x f = between_not_beyond item z 32768 32767 x.0 x.1 f
item_is_in_range (value.Byte n) item x f = f
item_is_in_range (value.Bool b) item x f = between_not_beyond item (pos (number_of b)) 0 1 x (boolean_between b) f
item_is_in_range (value.Text t) item x f = text_item_not_long item t x f

-- an item that is read as a value has no fault for the value's kind
pub item_has_no_fault : (v : Value) (item : List ℕ) (e : ValueFault) → IsItem item v → IsItemFault (kind_of v) item e → ⊥
item_has_no_fault v item e x (inl f) = item_has_form v item x f.1
item_has_no_fault v item e x (inr f) = item_is_in_range v item x f.1

-- an item that hasn't the form of a kind isn't out of the kind's range
no_form_not_beyond : (k : Kind) (item : List ℕ) → HasNoForm k item → IsBeyond k item → ⊥
no_form_not_beyond kind.Double item none far = none far.2.0 far.2.1
no_form_not_beyond kind.Long item none far = none far.0 far.1
no_form_not_beyond kind.Short item none far = none far.0 far.1
no_form_not_beyond kind.Byte item none far = far
no_form_not_beyond kind.Bool item none far = none far.0 far.1
no_form_not_beyond kind.Text item none far = none far.0 far.1

-- an item has at most one fault for a kind
pub one_fault : (k : Kind) (item : List ℕ) (e f : ValueFault) → IsItemFault k item e → IsItemFault k item f → e ≡ f
one_fault k item e f (inl x) (inl y) = x.0 ∙ sym y.0
one_fault k item e f (inl x) (inr y) = absurd (no_form_not_beyond k item x.1 y.1)
one_fault k item e f (inr x) (inl y) = absurd (no_form_not_beyond k item y.1 x.1)
one_fault k item e f (inr x) (inr y) = x.0 ∙ sym y.0

-- if r answers `Range` only for a number out of range, and `Spelling` only for no number, as `Decimal::read` does, its fault
-- is the item's fault for the kind `Double`
pub double_fault : (r : Result Decimal ValueFault) (item : List ℕ) → IfErr r (λ e. IsEither fault.Range fault.Spelling e)
    → (r ≡ Err fault.Range → SpellsBeyond item) → (r ≡ Err fault.Spelling → SpellsNothing item)
    → IfErr r (λ e. IsItemFault kind.Double item e)
double_fault (Ok d) item h range spelling = h
double_fault (Err e) item (inl is) range spelling = inr (is, range (ap Err is))
double_fault (Err e) item (inr is) range spelling = inl (is, spelling (ap Err is))

-- a hexadecimal digit's value is below 16
hex_digit_value-small : (c v : ℕ) → hex_digit_value c ≡ Some v → v < 16
hex_digit_value-small c v h = grind arith

-- a byte parameter's value is below 256
byte_fits : (item : List ℕ) (n : ℕ) → IsByte item n → n < 256
byte_fits item n x =
    let high = hex_digit_value-small x.a x.high x.high_is in
    let low = hex_digit_value-small x.b x.low x.low_is in
    let value = x.value in
    omega arith

-- a value that an item is read as lies in its kind's range
pub item_is_value : (v : Value) (item : List ℕ) → IsItem item v → IsValue v
item_is_value (value.Double d) item x = tt
item_is_value (value.Long z) item x = x.1
item_is_value (value.Short z) item x = x.1
item_is_value (value.Byte n) item x = byte_fits item n x
item_is_value (value.Bool b) item x = tt
item_is_value (value.Text bytes) item x = record { few = x.few; plain = x.string.plain }
