-- Parameters as values of given kinds, computed: what the tables of kinds (`IsItem`, `AreOfKinds`) say as relations. A record is a
-- function of what it is written of, and so is what it has of a described procedure's answer.
use Rattle.gc_rows.specs.Common.{list_all, number, is_decimal, signed, half_up, Placed, stripped, Value, KindsSeen}
use Rattle.std.specs.Prelude.{◌≡◌, ℕ, zero, suc, ◌+◌, ◌*◌, ◌^◌, ◌==◌, ◌&&◌, ◌||◌, Bool, true, false, nat_le, nat_lt, List, [], ◌∷◌, ◌++◌, length, Option, Some, None, option_map, if◌then◌else◌, ℤ, pos, negsuc, refl}
use Rattle.hex.specs.Hex.{hex_digit_value}
use Rattle.gc_values.specs.Prelude.{decimal}
use Rattle.gc_values.specs.declared.decimal.Decimal.{Decimal}
use Rattle.gc_values.specs.declared.value.Kind.{Kind}
use Rattle.gc_rows.specs.Items.{split_items}
use Rattle.gc_values.specs.declared.value.Kind.TheVariants as kind
use Rattle.gc_values.specs.declared.value.Value.TheVariants as value

-- Digits and signs.

-- whether a byte is a digit
abbrev pub is_digit : ℕ → Bool
is_digit b = nat_le 48 b && nat_le b 57

-- the digits at the front of a text
abbrev pub digits_in_front : List ℕ → List ℕ
digits_in_front [] = []
digits_in_front (b ∷ bs) = if is_digit b then b ∷ digits_in_front bs else []

-- what is behind the digits at the front of a text
abbrev pub behind_digits : List ℕ → List ℕ
behind_digits [] = []
behind_digits (b ∷ bs) = if is_digit b then behind_digits bs else b ∷ bs

-- whether a minus is at the front of a text
abbrev pub has_minus : List ℕ → Bool
has_minus [] = false
has_minus (b ∷ bs) = b == 45

-- a text without the sign at its front
abbrev pub behind_sign : List ℕ → List ℕ
behind_sign [] = []
behind_sign (b ∷ bs) = if (b == 43) || (b == 45) then bs else b ∷ bs

-- whether a text is one digit or more
abbrev pub are_digits : List ℕ → Bool
are_digits digits = nat_lt 0 (length digits) && list_all is_digit digits

-- Whole numbers.

-- this number, if the test holds
abbrev pub whole_if : (test : Bool) → ℤ → Option ℤ
whole_if test z = if test then Some z else None

-- the whole number that a text writes, if it writes one
abbrev pub whole_in : List ℕ → Option ℤ
whole_in text = whole_if (are_digits (behind_sign text)) (signed (has_minus text) (number (behind_sign text)))

-- whether a number is from -below to above
abbrev pub is_between : (below above : ℕ) → ℤ → Bool
is_between below above (pos n) = nat_le n above
is_between below above (negsuc n) = nat_le (suc n) below

-- this number, if it is from -below to above
abbrev pub between : (below above : ℕ) → Option ℤ → Option ℤ
between below above None = None
between below above (Some z) = whole_if (is_between below above z) z

-- the truth value whose number this is, if it is one
abbrev pub boolean_of : Option ℤ → Option Bool
boolean_of (Some (pos zero)) = Some false
boolean_of (Some (pos (suc zero))) = Some true
boolean_of _ = None

-- Decimals.

-- the digits behind the point that is at the front of a text; none if no point is
abbrev pub behind_point : List ℕ → List ℕ
behind_point [] = []
behind_point (b ∷ bs) = if b == 46 then digits_in_front bs else []

-- what is behind the point at the front of a text and its digits; the text if no point is
abbrev pub behind_fraction : List ℕ → List ℕ
behind_fraction [] = []
behind_fraction (b ∷ bs) = if b == 46 then behind_digits bs else b ∷ bs

-- how many times an exponent multiplies by ten, and how many times it divides by ten
pub record Powers : Type 0 where
  pub up : ℕ
  pub down : ℕ

-- the powers of an exponent of this magnitude, with a minus if `negative`
abbrev pub powers : (negative : Bool) (magnitude : ℕ) → Powers
powers negative magnitude = if negative then record { up = 0; down = magnitude } else record { up = magnitude; down = 0 }

-- the powers of an exponent that is written so behind its mark, if it has one to three digits
abbrev pub powers_of : List ℕ → Option Powers
powers_of text =
    if are_digits (behind_sign text) && nat_le (length (behind_sign text)) 3 then Some (powers (has_minus text) (number (behind_sign text))) else None

-- the powers of the exponent that a text is; neither for an empty one
abbrev pub exponent_in : List ℕ → Option Powers
exponent_in [] = Some (record { up = 0; down = 0 })
exponent_in (b ∷ bs) = if (b == 101) || (b == 69) then powers_of bs else None

-- the decimal with these digits and this scale, if they pass the test `is_decimal`
abbrev pub decimal_if : (m : ℤ) (s : ℕ) (test : Bool) → is_decimal m s ≡ test → Option Decimal
decimal_if m s true is = Some (decimal m s is)
decimal_if m s false is = None

-- the number with this sign and these digits, of which `places` are behind the point, times these powers of ten, rounded to 24 places
abbrev pub rounded_decimal : (negative : Bool) (digits : List ℕ) (places : ℕ) → Option Powers → Option Decimal
rounded_decimal negative digits places None = None
rounded_decimal negative digits places (Some p) =
    let z : Placed = stripped (half_up (number digits * 10 ^ p.up * 10 ^ 24) (10 ^ (places + p.down))) 24 in
    decimal_if (signed negative z.digits) z.places (is_decimal (signed negative z.digits) z.places) refl

-- the number with this sign, and with these digits before the point and behind it, if there is a digit
abbrev pub decimal_of : (negative : Bool) (whole fraction : List ℕ) → Option Powers → Option Decimal
decimal_of negative whole fraction p =
    if nat_lt 0 (length whole + length fraction) then rounded_decimal negative (whole ++ fraction) (length fraction) p else None

-- the decimal that a text without a sign spells, with this sign before it, if it spells one
abbrev pub unsigned_decimal : (negative : Bool) → List ℕ → Option Decimal
unsigned_decimal negative text =
    decimal_of negative (digits_in_front text) (behind_point (behind_digits text)) (exponent_in (behind_fraction (behind_digits text)))

-- the decimal that a text spells, if it spells one
abbrev pub decimal_in : List ℕ → Option Decimal
decimal_in text = unsigned_decimal (has_minus text) (behind_sign text)

-- Bytes and strings.

-- the byte of two hexadecimal digits with these values
abbrev pub byte_of : (high low : Option ℕ) → Option ℕ
byte_of (Some high) (Some low) = Some (high * 16 + low)
byte_of _ _ = None

-- the byte that an item writes, if it writes one
abbrev pub byte_in : List ℕ → Option ℕ
byte_in (p ∷ a ∷ b ∷ q ∷ []) = if (p == 39) && (q == 39) then byte_of (hex_digit_value a) (hex_digit_value b) else None
byte_in _ = None

-- nothing, if nothing is behind a double quote
abbrev pub nothing_behind : List ℕ → Option (List ℕ)
nothing_behind [] = Some []
nothing_behind (b ∷ bs) = None

-- the bytes before the double quote with which a text ends, if it has no other, and no CR and LF
abbrev pub before_quote : List ℕ → Option (List ℕ)
before_quote [] = None
before_quote (b ∷ bs) = if b == 34 then nothing_behind bs else if (b == 13) || (b == 10) then None else option_map (λ rest. b ∷ rest) (before_quote bs)

-- these bytes, if they are at most 64
abbrev pub short_text : Option (List ℕ) → Option (List ℕ)
short_text None = None
short_text (Some bytes) = if nat_le (length bytes) 64 then Some bytes else None

-- the bytes between the double quotes of an item, if it is a string of at most 64
abbrev pub text_in : List ℕ → Option (List ℕ)
text_in [] = None
text_in (b ∷ bs) = if b == 34 then short_text (before_quote bs) else None

-- Values.

-- the value of a kind that an item is read as, if it is read as one
abbrev pub value_in : Kind → List ℕ → Option Value
value_in kind.Double item = option_map (λ d. value.Double d) (decimal_in item)
value_in kind.Long item = option_map (λ z. value.Long z) (between 2147483648 2147483647 (whole_in item))
value_in kind.Short item = option_map (λ z. value.Short z) (between 32768 32767 (whole_in item))
value_in kind.Byte item = option_map (λ n. value.Byte n) (byte_in item)
value_in kind.Bool item = option_map (λ b. value.Bool b) (boolean_of (whole_in item))
value_in kind.Text item = option_map (λ bytes. value.Text bytes) (text_in item)

-- a value and further ones, if there are both
abbrev pub values_with : Option Value → Option (List Value) → Option (List Value)
values_with (Some v) (Some vs) = Some (v ∷ vs)
values_with _ _ = None

-- the values of these kinds that the first items are read as, if each is read as one
abbrev pub items_as : List Kind → List (List ℕ) → Option (List Value)
items_as [] items = Some []
items_as (k ∷ ks) [] = None
items_as (k ∷ ks) (item ∷ items) = values_with (value_in k item) (items_as ks items)

-- whether a list of so many items may have values of so many kinds
abbrev pub suits_count : (more : Bool) → (items kinds : ℕ) → Bool
suits_count true items kinds = nat_le kinds items
suits_count false items kinds = items == kinds

-- these items as values of the kinds, if there are items, and as many as the kinds allow
abbrev pub values_of_items : KindsSeen → Option (List (List ℕ)) → Option (List Value)
values_of_items kinds None = None
values_of_items kinds (Some items) = if suits_count kinds.more (length items) (length kinds.kinds) then items_as kinds.kinds items else None

-- the values of the kinds that parameters are read as, if they are read as such
abbrev pub values_read : KindsSeen → (params : List ℕ) → Option (List Value)
values_read kinds params = values_of_items kinds (split_items params)
