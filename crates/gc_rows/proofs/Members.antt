-- The members of a record's line are plain (`IsPlainMember`): their names are plain, their texts hold bytes, and their numbers
-- are JSON's.
use Rattle.gc_rows.proofs.Common.{◌≡◌, ◌<◌, ◌≤◌, ◌≢◌, ◌==◌, ◌++◌, ◌∷◌, ◌∙◌, [], ℕ, ◌+◌, List, Bool, true, false, cond, inl, inr, Option, Some, None, length, drop, get_or, option_and_then, refl, sym, ap, subst, arith, append-nil, codes, nat_lt, ◌&&◌, decimal, AllByRecursion, list_all, prefix_len, AllDigits, cases_Bool, cond_both, eqb-true, eq-eqb, ltb-true, ne_eqb, false≢true, le-leb, and_from, and_parts, drop_at, IsNumber, boolean_text, AreDigits, signed_text, written, IsWholePart, HasWholeForm, HasDecimalForm, minus_where, Value, every_weaker as all_on, whole_text_once, decimal_text_once, all_append, answer_fields, Answer, Asked, Table, Raw, DescriptionSeen, line_of, FieldSeen, HaveNames, is_field_name, is_name_byte, is_small_letter, AreBytes, IsOfBytes, bytes_by_places, Blank, Bytes, Cell, Code, Content, Items, Moment, Quantity, Whole, members_in, members_of, names_of, cells_after_run, cells_from, cells_if, cells_in, counted_answer, first_columns, items_column, last_columns, quantity_cells, answer_kinds, cells_of_values, field_cells, field_cells_if, items_of, Text, Number, without_zeros, value_members, HasFieldNames, IsPlainName, IsPlainMember, ArePlainMembers, RecordsHavePlainMembers, column_of, values_of, values_read}
use Rattle.std.specs.Char.{is_ascii_digit}
use Rattle.json.specs.Word.{head, after_digits, after_whole, after_fraction, after_exponent, after_number}
use Rattle.json.proofs.Printed.Decimals.{IsNumber-decimal}
use Rattle.gc_rows.proofs.Fit.{AreFit, HoldsBytes, IsFit, each_fit}
use Rattle.gc_rows.proofs.Items.{AreTextsOfBytes}
use Rattle.gc_rows.proofs.JsonLines.{stamp_bytes}
use Rattle.gc_rows.proofs.Plain.{same_digits}
use Rattle.gc_rows.proofs.PlainNames.{are_plain_names, is_plain_name, plain_name, text_name_plain}
use Rattle.gc_rows.proofs.Spreading.{each_spread}
use Rattle.gc_values.specs.declared.value.Value.TheVariants as value

-- if no digit follows the digits `ds`, the run of digits at the front of `ds` and `rest` is as long as `ds`
digits_run : (ds rest : List ℕ) → AreDigits ds → prefix_len is_ascii_digit rest ≡ 0 → prefix_len is_ascii_digit (ds ++ rest) ≡ length ds
digits_run [] rest h none = none
digits_run (d ∷ ds) rest h none =
    let more = digits_run ds rest h.1 none in
    ap (λ b. cond b (1 + prefix_len is_ascii_digit (ds ++ rest)) 0) (and_from _ _ (le-leb 48 d h.0.0) (le-leb d 57 h.0.1)) ∙ omega (arith, more)

-- if no digit follows the digits `ds`, at least one, the library's reader of digits takes `ds` and leaves `rest`
digits_taken : (ds rest : List ℕ) → AreDigits ds → 0 < length ds → prefix_len is_ascii_digit rest ≡ 0 → after_digits (ds ++ rest) ≡ Some rest
digits_taken ds rest h some none =
    ap (λ n. cond (n == 0) None (Some (drop n (ds ++ rest)))) (digits_run ds rest h none)
    ∙ ap (λ b. cond b None (Some (drop (length ds) (ds ++ rest)))) (ne_eqb (length ds) 0 (λ e. omega (arith, some, e))) ∙ ap Some (drop_at ds rest _ refl)

-- if no digit follows a whole part, the library's reader takes it and leaves `rest`, and it begins with no minus
whole_taken : (ds rest : List ℕ) → IsWholePart ds → prefix_len is_ascii_digit rest ≡ 0 → (after_whole (ds ++ rest) ≡ Some rest) × ((head (ds ++ rest) == 45) ≡ false)
whole_taken [] rest is none = let some = is.some in absurd (omega (arith, some))
whole_taken (d ∷ ds) rest is none = (
  cond_both (d == 48) (Some (ds ++ rest)) (after_digits (d ∷ ds ++ rest)) (λ left. left ≡ Some rest)
      (λ alone. ap (λ l. Some (l ++ rest)) (is.no_zero_in_front ds (ap (λ x. x ∷ ds) (eqb-true d 48 alone)))) (λ _. digits_taken (d ∷ ds) rest is.are_digits is.some none),
  ne_eqb d 45 (λ e. let digit = is.are_digits.0 in omega (arith, e, digit)),
)

-- a minus or none, a whole part, and a rest with no digit first that the reader takes to its end as a fraction and an exponent
-- are together a number of JSON
signed_number : (negative : Bool) (ds rest : List ℕ) → IsWholePart ds → prefix_len is_ascii_digit rest ≡ 0
    → option_and_then after_exponent (after_fraction rest) ≡ Some [] → IsNumber (minus_where negative ++ (ds ++ rest))
unfolding after_number
signed_number true ds rest is none ends = ap (λ o. option_and_then after_exponent (option_and_then after_fraction o)) (whole_taken ds rest is none).0 ∙ ends
signed_number false ds rest is none ends =
    let whole = whole_taken ds rest is none in
    ap (λ b. option_and_then after_exponent (option_and_then after_fraction (after_whole (cond b (drop 1 (ds ++ rest)) (ds ++ rest))))) whole.1
    ∙ ap (λ o. option_and_then after_exponent (option_and_then after_fraction o)) whole.0 ∙ ends

-- a whole part with or without a minus is a number of JSON
whole_number : (negative : Bool) (ds : List ℕ) → IsWholePart ds → IsNumber (minus_where negative ++ ds)
whole_number negative ds is = subst (λ l. IsNumber (minus_where negative ++ l)) (append-nil ds) (signed_number negative ds [] is refl refl)

-- a point and one digit or more are taken to their end as a fraction and no exponent
fraction_ends : (ds : List ℕ) → AreDigits ds → 0 < length ds → option_and_then after_exponent (after_fraction (46 ∷ ds)) ≡ Some []
fraction_ends ds digits some = ap (λ l. option_and_then after_exponent (after_digits l)) (sym (append-nil ds)) ∙ ap (option_and_then after_exponent) (digits_taken ds [] digits some refl)

-- a text in the form of a whole number is a number of JSON
whole_form_number : (text : List ℕ) → HasWholeForm text → IsNumber text
whole_form_number text form = subst IsNumber (sym form.text_is) (whole_number form.negative form.digits form.digits_are)

-- a text in the form of a decimal is a number of JSON
decimal_form_number : (text : List ℕ) → HasDecimalForm text → IsNumber text
decimal_form_number text form =
    subst IsNumber (sym form.text_is) (signed_number form.negative form.whole (46 ∷ form.fraction) form.whole_is refl (fraction_ends form.fraction form.fraction_is.are_digits form.fraction_is.some))

-- one digit or more are a whole part without their leading zeros (of zeros alone the last stays)
without_zeros_is_whole : (ds : List ℕ) → AreDigits ds → 0 < length ds → IsWholePart (without_zeros ds)
without_zeros_is_whole [] digits some = absurd (omega (arith, some))
without_zeros_is_whole (b ∷ []) digits some = record { are_digits = digits; some = some; no_zero_in_front = λ rest e. sym (ap (drop 1) e) }
without_zeros_is_whole (b ∷ c ∷ ds) digits some =
    cond_both (b == 48) (without_zeros (c ∷ ds)) (b ∷ c ∷ ds) IsWholePart (λ _. without_zeros_is_whole (c ∷ ds) digits.1 (omega arith))
    (λ none. record { are_digits = digits; some = some; no_zero_in_front = λ rest e. absurd (false≢true (sym none ∙ eq-eqb b 48 (ap (λ l. get_or l 0 0) e))) })

-- a code, which is one digit or more, is a number of JSON without its leading zeros (of zeros alone the last stays)
code_number : (ds : List ℕ) → AllDigits 10 ds → 0 < length ds → IsNumber (without_zeros ds)
code_number ds digits some = whole_number false (without_zeros ds) (without_zeros_is_whole ds (same_digits ds digits) some)

-- the members of a number of JSON, as `digits` and as it came, are plain, if their name is plain and what came is of bytes
number_members_plain : (name digits came : List ℕ) → IsPlainName name → IsNumber digits → IsOfBytes came
    → ArePlainMembers (Number name digits ∷ Text (name ++ codes "_text") came ∷ [])
number_members_plain name digits came named number bytes = ((named, number), ((text_name_plain name named, bytes_by_places came bytes), tt))

-- a boolean is written as a number of JSON
boolean_number : (b : Bool) → IsNumber (boolean_text b)
unfolding after_number
boolean_number false = refl
boolean_number true = refl

-- the members of a value are plain if their name is plain, the value holds bytes (`HoldsBytes`), and its text as it came is of
-- bytes
value_members_plain : (name : List ℕ) (v : Value) (came : List ℕ) → IsPlainName name → HoldsBytes v → IsOfBytes came
    → ArePlainMembers (value_members name v came)
value_members_plain name (value.Double d) came named is bytes =
    number_members_plain name (written d.digits d.scale) came named (decimal_form_number (written d.digits d.scale) ((decimal_text_once d (written d.digits d.scale)).0 refl).0) bytes
value_members_plain name (value.Long z) came named is bytes =
    number_members_plain name (signed_text z) came named (whole_form_number (signed_text z) ((whole_text_once z (signed_text z)).0 refl).0) bytes
value_members_plain name (value.Short z) came named is bytes =
    number_members_plain name (signed_text z) came named (whole_form_number (signed_text z) ((whole_text_once z (signed_text z)).0 refl).0) bytes
value_members_plain name (value.Byte n) came named is bytes = number_members_plain name (decimal n) came named (IsNumber-decimal n (omega (arith, is))) bytes
value_members_plain name (value.Bool b) came named is bytes = number_members_plain name (boolean_text b) came named (boolean_number b) bytes
value_members_plain name (value.Text text) came named is bytes = ((named, is), tt)

-- texts of bytes (`AreTextsOfBytes`) are each of bytes by places, too (`AreBytes`)
each_by_places : (texts : List (List ℕ)) → AreTextsOfBytes texts → AllByRecursion AreBytes texts
each_by_places texts are = all_on IsOfBytes AreBytes texts bytes_by_places are

-- the members of a cell are plain, if its name is plain, and what it holds is fit
content_plain : (name : List ℕ) (content : Content) → IsPlainName name → IsFit content → ArePlainMembers (members_in name content)
content_plain name Blank named is = tt
content_plain name (Bytes bytes) named is = ((named, is), tt)
content_plain name (Moment utc) named is = ((named, stamp_bytes utc is), tt)
content_plain name (Whole n) named is = ((named, IsNumber-decimal n is), tt)
content_plain name (Code digits) named is = ((named, code_number digits is.1.digits is.1.some), tt)
content_plain name (Quantity v came) named is = value_members_plain name v came named is.0 is.1
content_plain name (Items items) named is = ((named, each_by_places items is), tt)

-- each of these cells has a plain name
abbrev ArePlainlyNamed : List Cell → Type 0
ArePlainlyNamed cells = AllByRecursion (λ c. IsPlainName c.name) cells

-- cells whose names pass the test `is_plain_name` have plain names
plainly_named : (cells : List Cell) → are_plain_names (names_of cells) ≡ true → ArePlainlyNamed cells
plainly_named [] names = tt
plainly_named (c ∷ cells) names =
    let parts = and_parts (is_plain_name c.name) (are_plain_names (names_of cells)) names in (plain_name c.name parts.0, plainly_named cells parts.1)

-- the members of cells are plain, if their names are, and what they hold is fit
cells_plain : (cells : List Cell) → ArePlainlyNamed cells → AreFit cells → ArePlainMembers (members_of cells)
cells_plain [] names are = tt
cells_plain (c ∷ cells) names are =
    all_append IsPlainMember (members_in c.name c.content) (members_of cells) (content_plain c.name c.content names.0 are.0) (cells_plain cells names.1 are.1)

-- the name of a field is plain
field_name_plain : (name : List ℕ) → is_field_name name ≡ true → IsPlainName name
field_name_plain [] is = absurd (false≢true is)
field_name_plain (b ∷ bs) is =
    let parts = and_parts (is_small_letter b && nat_lt (length bs) 32) (list_all is_name_byte bs) is in
    let letter = (and_parts (is_small_letter b) (nat_lt (length bs) 32) parts.0).0 in
    (byte_plain b (letter_byte b letter), bytes_plain bs parts.1) where
      -- a small letter may be in a name
      letter_byte : (b : ℕ) → is_small_letter b ≡ true → is_name_byte b ≡ true
      letter_byte b is = rw is refl

      -- a byte of a name is printable, and neither a double quote nor a backslash
      byte_plain : (b : ℕ) → is_name_byte b ≡ true → (32 ≤ b) × ((b ≢ 34) × (b ≢ 92))
      byte_plain b is = elim (cases_Bool (is_small_letter b)) [
        | inl letter ↦ let low = ltb-true 96 b (and_parts (nat_lt 96 b) (nat_lt b 123) letter).0 in (omega (arith, low), (λ e. omega (arith, low, e), λ e. omega (arith, low, e)))
        | inr other ↦ elim (cases_Bool (nat_lt 47 b && nat_lt b 58)) [
          | inl digit ↦
              let parts = and_parts (nat_lt 47 b) (nat_lt b 58) digit in
              let low = ltb-true 47 b parts.0 in
              let high = ltb-true b 58 parts.1 in
              (omega (arith, low), (λ e. omega (arith, low, e), λ e. omega (arith, high, e)))
          | inr none ↦ let dash = eqb-true b 95 (sym (rw (other, none) refl) ∙ is) in (omega (arith, dash), (λ e. omega (arith, dash, e), λ e. omega (arith, dash, e)))
        ]
      ]

      -- so are all bytes of a name
      bytes_plain : (bs : List ℕ) → list_all is_name_byte bs ≡ true → IsPlainName bs
      bytes_plain [] is = tt
      bytes_plain (b ∷ bs) is = let parts = and_parts (is_name_byte b) (list_all is_name_byte bs) is in (byte_plain b parts.0, bytes_plain bs parts.1)

-- the cells of fields with names have plain names
fields_named : (fields : List FieldSeen) (vs : List Value) (items : List (List ℕ)) → HaveNames fields → ArePlainlyNamed (field_cells fields vs items)
fields_named [] vs items named = tt
fields_named (f ∷ fs) [] items named = tt
fields_named (f ∷ fs) (v ∷ vs) items named = (field_name_plain f.name named.0, fields_named fs vs (drop 1 items) named.1)

-- so have those of values that were read, if they were
read_named : (fields : List FieldSeen) (vs : Option (List Value)) (items : List (List ℕ)) → HaveNames fields → ArePlainlyNamed (field_cells_if fields vs items)
read_named fields (Some vs) items named = fields_named fields vs items named
read_named fields None items named = tt

-- so have those of an answer to a procedure that isn't in the table
raw_named : (described : Option DescriptionSeen) (values : List ℕ) → HasFieldNames described → ArePlainlyNamed (cells_of_values described values)
raw_named None values named = tt
raw_named (Some d) values named = read_named d.values (values_read (answer_kinds d) values) (items_of values) named

-- so have those of any answer, or none
answer_named : (asked : Asked) (described : Option DescriptionSeen) (answer : Option Answer) (line : Option (List ℕ)) → HasFieldNames described
    → ArePlainlyNamed (cells_if asked described answer line)
answer_named (Table call) described (Some answer) (Some line) named =
    plainly_named (cells_from (column_of call answer) (answer_fields answer).values (values_of line)) (each_spread call answer (values_of line)).plain
answer_named (Raw raw) described (Some answer) (Some line) named = raw_named described (values_of line) named
answer_named asked described (Some answer) None named = tt
answer_named asked described None line named = tt

-- the law: each member of a record's line after the first is plain, if the record's numbers have at most 64 bits, its texts are of
-- bytes, and its description's columns have names of fields
pub each_member_plain : RecordsHavePlainMembers
each_member_plain r is bytes target ended described =
    let cells = quantity_cells r in
    let behind = cells_in (items_column ∷ last_columns) r in
    let first = cells_in first_columns r in
    let names = all_append (λ c. IsPlainName c.name) first (cells ++ behind) (plainly_named first refl)
    (all_append (λ c. IsPlainName c.name) cells behind (answer_named r.command.call r.described (counted_answer r.end) (line_of r.end) described) (plainly_named behind refl)) in
    cells_plain (cells_after_run r) names (each_fit r is bytes target ended)
