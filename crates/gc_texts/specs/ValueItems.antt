-- Values of files in a command's parameters: which items stand for them, and the request that they make with values. This project's own.
use Rattle.gc_texts.specs.Common.{list_any, IsFileAt, value_bytes, value_text, joined, FILE_VALUES, ValueFile, with_params, raw_bytes, Asked, Raw, RawCall}
use Rattle.std.specs.Prelude.{◌≡◌, ◌≤◌, ◌==◌, ◌++◌, ℕ, Bool, true, false, List, [], ◌∷◌, length, take, drop, filter, replicate, Option, unwrap_or, codes, if◌then◌else◌}
use Rattle.gc_texts.specs.Procedures.{IsNumber}
use Rattle.gc_texts.specs.WordLists.{pieces_of}
use Rattle.gc_texts.specs.declared.value_item.Needs.{Needs}
use Rattle.gc_texts.specs.declared.wording.Wording.{Wording}
use Rattle.gc_texts.specs.declared.wording.Wording.TheVariants.{Described}

-- no value
abbrev pub no_needs : Needs
no_needs = record { first = 0; count = 0 }

-- whether a file gave no value
abbrev pub is_missing : (value : List ℕ) → Bool
is_missing value = length (value_text value) == 0

-- whether one of these is missing among the values
abbrev pub lack : Needs → (values : List (List ℕ)) → Bool
lack needs values = list_any is_missing (take needs.count (drop needs.first values))

-- whether an item of parameters stands for a value of a file: it begins with a brace
abbrev pub is_value_item : List ℕ → Bool
is_value_item [] = false
is_value_item (b ∷ bs) = b == 123

-- an item is `{FILE SECONDS}`: the path of this file, and how old its value may be, from 1 to 86400 seconds
pub record IsValueFile (item : List ℕ) (file : ValueFile) : Type 0 where
  pub path : List ℕ
  pub digits : List ℕ
  pub item_is : item ≡ 123 ∷ (path ++ 32 ∷ (digits ++ 125 ∷ []))
  pub number : IsNumber digits file.seconds 86400
  pub some : 1 ≤ file.seconds
  pub is : IsFileAt path file.seconds file

-- whether there is a double quote among parameters
abbrev pub has_quote : List ℕ → Bool
has_quote params = list_any (λ b. b == 34) params

-- the items of parameters that begin with a brace, where each comma is between two items
abbrev pub value_items : List ℕ → List (List ℕ)
value_items params = filter is_value_item (pieces_of 44 params)

-- how many items of parameters stand for values of files; none where a double quote is among the parameters, since a comma may be part of a
-- string then
abbrev pub values_in : List ℕ → ℕ
values_in params = if has_quote params then 0 else length (value_items params)

-- an item may be where items stand for values: it is `{FILE SECONDS}`, or doesn't begin with a brace
abbrev pub IsSoundItem : List ℕ → Type 0
IsSoundItem item = is_value_item item ≡ true → (file : ValueFile) × IsValueFile item file

-- each of these items is `{FILE SECONDS}`
abbrev pub AreValueFiles : List (List ℕ) → Type 0
AreValueFiles [] = Unit {0}
AreValueFiles (item ∷ items) = ((file : ValueFile) × IsValueFile item file) × AreValueFiles items

-- the text of the first of these values; empty if there is none
abbrev pub first_of : List (List ℕ) → List ℕ
first_of [] = []
first_of (value ∷ values) = value_text value

-- what stands in the place of an item: the text of the first of these values, if the item stands for one
abbrev pub text_for : (values : List (List ℕ)) → (item : List ℕ) → List ℕ
text_for values item = if is_value_item item then first_of values else item

-- the values for the items after this one
abbrev pub values_after : (values : List (List ℕ)) → (item : List ℕ) → List (List ℕ)
values_after values item = if is_value_item item then drop 1 values else values

-- these items with the texts of these values, in order, in the places of those that stand for values
abbrev pub put_in : (values items : List (List ℕ)) → List (List ℕ)
put_in values [] = []
put_in values (item ∷ items) = text_for values item ∷ put_in (values_after values item) items

-- parameters with one more item, behind a comma if it isn't the first
abbrev pub with_item : (begun : Bool) → (params item : List ℕ) → List ℕ
with_item true params item = (params ++ 44 ∷ []) ++ item
with_item false params item = params ++ item

-- parameters with the texts of these values in the places of the items that stand for values
abbrev pub filled : (values : List (List ℕ)) → (params : List ℕ) → List ℕ
filled values params = joined (put_in values (pieces_of 44 params))

-- a request so, if it may be asked for so; else as it is
abbrev pub filled_call : RawCall → (values : List (List ℕ)) → RawCall
filled_call raw values = unwrap_or (with_params raw (filled values (raw_bytes raw.params))) raw

-- a number of the longest written form in the place of each value
abbrev pub samples : List (List ℕ)
samples = replicate FILE_VALUES (value_bytes (codes "-1000000000000.000000000000000000000001"))

-- a request with these in the places of its values, if it may be asked for so
abbrev pub sampled : RawCall → Option RawCall
sampled raw = with_params raw (filled samples (raw_bytes raw.params))

-- how many values of files a command in this wording takes: only one of a described procedure takes any
abbrev pub values_asked : Wording → Asked → ℕ
values_asked Described (Raw raw) = values_in (raw_bytes raw.params)
values_asked _ _ = 0
