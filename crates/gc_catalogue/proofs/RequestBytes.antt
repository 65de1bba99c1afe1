-- A request line is of bytes, whatever is asked.
use Rattle.gc_catalogue.proofs.Common.{◌/◌, ◌%◌, ◌^◌, ℕ, zero, suc, ℤ, pos, negsuc, unsigned_abs, true, false, List, [], ◌++◌, refl, arith, lit<, ltb-true, All-from_recursion, recursion_from_All, decimal, AllByRecursion, Option, Some, None, slice_index, codes, IsIdInRange, id_text, request_signature, request_text, AreDigits, IsDigit, text, signed_text, minus_text, places_text, whole_text, written, Value, raw_params, RequestLinesAreOfBytes, AreBytes, call_fields, behind_commas, params_of, Table, Raw}
use Rattle.std.proofs.Common.{◌<◌, ◌∷◌}
use Rattle.std.proofs.lemmas.Fmt.{decimal_is_IsNumeral}
use Rattle.std.proofs.lemmas.List.Sums.{AllPass-from_list_all}
use Rattle.std.proofs.lemmas.Str.Parse.{digit_from_value}
use Rattle.std.specs.Prelude.{nat_lt}
use Rattle.std.specs.Str.Parse.{AllDigits}
use Rattle.gc_values.proofs.Every.{every_append, every_weaker}
use Rattle.gc_values.proofs.WrittenSpells.{is_fraction_text, writes_whole}
use Rattle.gc_catalogue.proofs.Joining.{params_of-cons}
use Rattle.gc_catalogue.proofs.Table.{IsNoText, no_text, number_fits}
use Rattle.gc_values.specs.declared.value.Value.TheVariants as value

-- a text is of bytes. `AreBytes` says the same by places, and this by recursion
abbrev IsOfBytes : List ℕ → Type 0
IsOfBytes text = AllByRecursion (λ b. b < 256) text

-- two texts of bytes are of bytes together
both_bytes : (xs ys : List ℕ) → IsOfBytes xs → IsOfBytes ys → IsOfBytes (xs ++ ys)
both_bytes xs ys = every_append (λ (b : ℕ). b < 256) xs ys

-- each number of a text of bytes is a byte, and so is the 0 past its end
index_byte : (xs : List ℕ) → IsOfBytes xs → (i : ℕ) → slice_index xs i < 256
index_byte [] are i = lit< tt
index_byte (x ∷ xs) are zero = are.0
index_byte (x ∷ xs) are (suc i) = index_byte xs are.1 i

-- numbers are of bytes if each of them is one, and so is the 0 past their end
pub bytes_from_index : (xs : List ℕ) → ((i : ℕ) → slice_index xs i < 256) → AreBytes xs
bytes_from_index xs each = All-from_recursion (λ b. b < 256) xs (by_recursion xs each) where
  -- so by recursion
  by_recursion : (xs : List ℕ) → ((i : ℕ) → slice_index xs i < 256) → IsOfBytes xs
  by_recursion [] each = tt
  by_recursion (x ∷ xs) each = (each zero, by_recursion xs (λ i. each (suc i)))

-- digits are bytes
digits_bytes : (ds : List ℕ) → AreDigits ds → IsOfBytes ds
digits_bytes ds are = every_weaker IsDigit (λ b. b < 256) ds (λ d digit. let below = digit.1 in omega (arith, below)) are

-- the digits of a decimal are bytes
decimal_bytes : (ds : List ℕ) → AllDigits 10 ds → IsOfBytes ds
decimal_bytes [] are = tt
decimal_bytes (d ∷ ds) are = (omega (arith, digit_from_value d are.0), decimal_bytes ds are.1)

-- a minus, if there is one, is a byte
minus_bytes : (z : ℤ) → IsOfBytes (minus_text z)
minus_bytes (pos n) = tt
minus_bytes (negsuc n) = (lit< tt, tt)

-- the text of a whole number is of bytes
whole_bytes : (n : ℕ) → IsOfBytes (whole_text n)
whole_bytes n = digits_bytes (whole_text n) (writes_whole n).digits

-- the text of a whole number with a sign is of bytes
signed_bytes : (z : ℤ) → IsOfBytes (signed_text z)
signed_bytes z = both_bytes (minus_text z) (whole_text (unsigned_abs z)) (minus_bytes z) (whole_bytes (unsigned_abs z))

-- a decimal's text is of bytes
written_bytes : (m : ℤ) (s : ℕ) → IsOfBytes (written m s)
written_bytes m s =
    let n = unsigned_abs m in
    both_bytes (minus_text m) (whole_text (n / 10 ^ s) ++ (46 ∷ places_text s (n % 10 ^ s))) (minus_bytes m)
    (both_bytes (whole_text (n / 10 ^ s)) (46 ∷ places_text s (n % 10 ^ s)) (whole_bytes (n / 10 ^ s))
    (lit< tt, digits_bytes (places_text s (n % 10 ^ s)) (is_fraction_text n s).digits))

-- the digits of base 16, in lower case
abbrev hex_digits : List ℕ
hex_digits = codes "0123456789abcdef"

-- a hexadecimal digit is a byte
hex_byte : (i : ℕ) → slice_index hex_digits i < 256
hex_byte =
    index_byte hex_digits (recursion_from_All (λ b. b < 256) hex_digits (λ k d within. ltb-true _ 256 (AllPass-from_list_all (λ b. nat_lt b 256) hex_digits refl k d within)))

-- the text of a value is of bytes, if it isn't a text
value_bytes : (v : Value) → IsNoText v → IsOfBytes (text v)
value_bytes (value.Double d) none = written_bytes d.digits d.scale
value_bytes (value.Long z) none = signed_bytes z
value_bytes (value.Short z) none = signed_bytes z
value_bytes (value.Byte n) none = (lit< tt, (hex_byte (n / 16), (hex_byte (n % 16), (lit< tt, tt))))
value_bytes (value.Bool false) none = (lit< tt, tt)
value_bytes (value.Bool true) none = (lit< tt, tt)
value_bytes (value.Text bytes) none = absurd none

-- the texts of values after commas are of bytes, if none of them is a text
behind_bytes : (vs : List Value) → AllByRecursion IsNoText vs → IsOfBytes (behind_commas vs)
behind_bytes [] none = tt
behind_bytes (v ∷ vs) none = both_bytes (44 ∷ text v) (behind_commas vs) (lit< tt, value_bytes v none.0) (behind_bytes vs none.1)

-- the texts of values joined by commas are of bytes, if none of them is a text
params_bytes : (vs : List Value) → AllByRecursion IsNoText vs → IsOfBytes (params_of vs)
params_bytes [] none = tt
params_bytes (v ∷ vs) none = rw (params_of-cons v vs) (both_bytes (text v) (behind_commas vs) (value_bytes v none.0) (behind_bytes vs none.1))

-- the text of an id below 8 is of bytes
id_bytes : (id : Option ℕ) → IsIdInRange id → IsOfBytes (id_text id)
id_bytes None is = tt
id_bytes (Some i) is = (lit< tt, (omega (arith, is), tt))

-- the line of a request is of bytes, if its parameters are, and its number and its id are in range
line_bytes : (rpc : ℕ) (id : Option ℕ) (params : List ℕ) → rpc < 65536 → IsIdInRange id → IsOfBytes params
    → AreBytes (request_text (record { rpc = rpc; id = id; params = params }))
line_bytes rpc id params small is bytes =
    All-from_recursion (λ b. b < 256) (request_text (record { rpc = rpc; id = id; params = params }))
    (both_bytes request_signature (decimal rpc ++ (id_text id ++ 58 ∷ params)) (lit< tt, (lit< tt, (lit< tt, (lit< tt, (lit< tt, tt)))))
    (both_bytes (decimal rpc) (id_text id ++ 58 ∷ params) (decimal_bytes (decimal rpc) (decimal_is_IsNumeral rpc (omega (arith, small))).0.1)
    (both_bytes (id_text id) (58 ∷ params) (id_bytes id is) (lit< tt, bytes))))

-- each request line is of bytes
pub request_lines_are_of_bytes : RequestLinesAreOfBytes
request_lines_are_of_bytes id (Table call) is =
    line_bytes (call_fields call).number id (params_of (call_fields call).values) (number_fits call) is (params_bytes (call_fields call).values (no_text call))
request_lines_are_of_bytes id (Raw raw) is = line_bytes raw.rpc id (raw_params raw) raw.is.bound is (recursion_from_All (λ b. b < 256) (raw_params raw) raw.params.are_bytes)
