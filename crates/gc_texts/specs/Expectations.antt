-- What a station's text expects of the values of an answer: items with a comma between two, one for each value. This project's own.
use Rattle.gc_texts.specs.Common.{list_any, starts_with, bytes_eq, reply_at, ReplyFields, LineFault, decimal_eq, units, Decimal}
use Rattle.std.specs.Prelude.{ℕ, ◌+◌, ◌-◌, ◌==◌, ◌&&◌, ◌||◌, Bool, true, false, not, nat_lt, int_le, List, [], ◌∷◌, ◌++◌, length, take, drop, filter, replicate, slice_get, Option, None, Some, option_map, Result, Ok, Err, if◌then◌else◌, codes}
use Rattle.gc_texts.specs.Cuts.{before}
use Rattle.gc_texts.specs.Numerals.{decimal_in}
use Rattle.gc_texts.specs.WordLists.{pieces_of}
use Rattle.gc_texts.specs.declared.expectation.Expectation.{Expectation}
use Rattle.gc_texts.specs.declared.item.Item.{Item}
use Rattle.gc_texts.specs.declared.item.Item.TheVariants.{Any, Greater, Range, NoRange, Value}
use Rattle.gc_texts.specs.declared.trouble.Trouble.{Trouble}
use Rattle.gc_texts.specs.declared.trouble.Trouble.TheVariants.{ExpectLong, ExpectMany, ExpectTwo, ExpectItem}

-- Numbers.

-- whether there is a number, and it is greater than the one before; where there is none before, any is
abbrev pub is_greater : (before : Option Decimal) → Option Decimal → Bool
is_greater (Some before) (Some d) = not (int_le (units d) (units before))
is_greater None (Some d) = true
is_greater before None = false

-- whether there is a number, and it is one from `low` to `high`
abbrev pub is_from_to : (low high : Decimal) → Option Decimal → Bool
is_from_to low high (Some d) = int_le (units low) (units d) && int_le (units d) (units high)
is_from_to low high None = false

-- whether there are two numbers, and they are the same
abbrev pub are_same : Option Decimal → Option Decimal → Bool
are_same (Some d) (Some e) = decimal_eq d e
are_same None e = false
are_same d None = false

-- Items.

-- the place of the first `..` in a text, if it has one
abbrev pub dots_in : List ℕ → Option ℕ
dots_in [] = None
dots_in (b ∷ bs) = if starts_with (λ x y. x == y) (b ∷ bs) (codes "..") then Some 0 else option_map (λ n. n + 1) (dots_in bs)

-- the range of two numbers, if both are there
abbrev pub range_of : (low high : Option Decimal) → Item
range_of (Some low) (Some high) = Range low high
range_of None high = NoRange
range_of low None = NoRange

-- what an item is that has `..` at this place: the range of the numbers before and behind; or has none, and is a value
abbrev pub range_or_value : (item : List ℕ) → (dots : Option ℕ) → Item
range_or_value item None = Value
range_or_value item (Some place) = range_of (decimal_in (take place item)) (decimal_in (drop (place + 2) item))

-- whether an item is `>`
abbrev pub is_counter : List ℕ → Bool
is_counter item = bytes_eq item (codes ">")

-- what an item is: `*` is any value, `>` a number greater than the one before, `LOW..HIGH` a range, and any other is this value
abbrev pub item_of : List ℕ → Item
item_of item = if bytes_eq item (codes "*") then Any else if is_counter item then Greater else range_or_value item (dots_in item)

-- whether a value is what an item is, where `before` is the number in the answer before
abbrev pub is_as : Item → (before : Option Decimal) → (item value : List ℕ) → Bool
is_as Any before item value = true
is_as Greater before item value = is_greater before (decimal_in value)
is_as (Range low high) before item value = is_from_to low high (decimal_in value)
is_as NoRange before item value = false
is_as Value before item value = bytes_eq value item || are_same (decimal_in item) (decimal_in value)

-- whether a value is as an item expects it
abbrev pub item_is_met : (before : Option Decimal) → (item value : List ℕ) → Bool
item_is_met before item value = is_as (item_of item) before item value

-- whether the values are as the items expect them, one for one
abbrev pub items_are_met : (before : Option Decimal) → (items values : List (List ℕ)) → Bool
items_are_met before [] [] = true
items_are_met before (item ∷ items) (value ∷ values) = item_is_met before item value && items_are_met before items values
items_are_met before [] (value ∷ values) = false
items_are_met before (item ∷ items) [] = false

-- the number in the place of the first item `>`, if there is one
abbrev pub count_among : (items values : List (List ℕ)) → Option Decimal
count_among (item ∷ items) (value ∷ values) = if is_counter item then decimal_in value else count_among items values
count_among [] values = None
count_among (item ∷ items) [] = None

-- Texts of items.

-- the items of a text, which commas (byte 44) separate, those in quotes, too
abbrev pub items_in : List ℕ → List (List ℕ)
items_in text = pieces_of 44 text

-- how many items of a text are `>`
abbrev pub counters_in : List ℕ → ℕ
counters_in text = length (filter is_counter (items_in text))

-- whether a byte isn't printable ASCII
abbrev pub is_unprintable : ℕ → Bool
is_unprintable b = nat_lt b 32 || nat_lt 126 b

-- whether a byte is there, and is a space
abbrev pub is_space : Option ℕ → Bool
is_space (Some b) = b == 32
is_space None = false

-- whether a text ends in a space
abbrev pub ends_in_space : List ℕ → Bool
ends_in_space text = is_space (slice_get text (length text - 1))

-- whether an item has a space at one of its ends
abbrev pub has_outer_space : List ℕ → Bool
has_outer_space item = is_space (slice_get item 0) || ends_in_space item

-- whether an item may be what it is: a range only if it has two numbers, and the first isn't greater than the second
abbrev pub is_sound : Item → Bool
is_sound (Range low high) = int_le (units low) (units high)
is_sound NoRange = false
is_sound _ = true

-- whether a text may be an item: it is printable ASCII, not empty, without a space at an end, and, if it has `..`, a sound range
abbrev pub is_item : List ℕ → Bool
is_item text = not (length text == 0) && (not (list_any is_unprintable text) && (not (has_outer_space text) && is_sound (item_of text)))

-- the place of the first of these that is no item, counted from 1
abbrev pub no_item_in : List (List ℕ) → Option ℕ
no_item_in [] = None
no_item_in (item ∷ items) = if is_item item then option_map (λ n. n + 1) (no_item_in items) else Some 1

-- what is at fault in a text that is to be items: it has more than 128 bytes, or more than 16 items, or more than one `>`, or its first
-- item at fault; `None`: nothing is
abbrev pub items_trouble : List ℕ → Option Trouble
items_trouble text =
    if nat_lt 128 (length text) then Some ExpectLong
    else if nat_lt 16 (length (items_in text)) then Some ExpectMany
    else if nat_lt 1 (counters_in text) then Some ExpectTwo
    else option_map (λ n. ExpectItem n) (no_item_in (items_in text))

-- Expectations.

-- the text of an expectation, which is its items. The bytes after it are zero
abbrev pub expectation_text : Expectation → List ℕ
expectation_text expectation = before 0 expectation.bytes

-- the expectation with this text
abbrev pub expectation_of : List ℕ → Expectation
expectation_of text = record { bytes = text ++ replicate (128 - length text) 0 }

-- whether an item of an expectation is `>`
abbrev pub has_counter : Expectation → Bool
has_counter expectation = nat_lt 0 (counters_in (expectation_text expectation))

-- whether something is expected, and an item of it is `>`
abbrev pub counts : Option Expectation → Bool
counts None = false
counts (Some expectation) = has_counter expectation

-- the values of these parameters, which commas separate; none if there are no bytes
abbrev pub values_in : List ℕ → List (List ℕ)
values_in [] = []
values_in (b ∷ bs) = pieces_of 44 (b ∷ bs)

-- the values of a line that was read as a reply; none if it is no reply
abbrev pub values_read : Result ReplyFields LineFault → List (List ℕ)
values_read (Ok r) = values_in r.params
values_read (Err fault) = []

-- the values of an answer's line
abbrev pub values_of : (line : List ℕ) → List (List ℕ)
values_of line = values_read (reply_at line)

-- whether an answer's line is as expected: it has a value for each item, as the item expects it. `before` is the number in the answer
-- before, if there was one
abbrev pub meets : Option Expectation → (before : Option Decimal) → (line : List ℕ) → Bool
meets None before line = true
meets (Some expectation) before line = items_are_met before (items_in (expectation_text expectation)) (values_of line)

-- the number in the place of the item `>`, if one is expected there and the line has it
abbrev pub count_in : Option Expectation → (line : List ℕ) → Option Decimal
count_in None line = None
count_in (Some expectation) line = count_among (items_in (expectation_text expectation)) (values_of line)
