-- Values of files: which bytes of a file are one, and until when. This project's own.
use Rattle.std.specs.Prelude.{◌≡◌, ◌⊎◌, ℕ, ◌+◌, ◌-◌, ◌*◌, ◌==◌, ◌&&◌, ◌||◌, Bool, true, not, nat_le, nat_lt, List, [], ◌∷◌, ◌++◌, length, replicate, if◌then◌else◌}
use Rattle.std.specs.List.{list_any}
use Rattle.gc_values.specs.Decimals.{SpellsDecimal, decimal_text}
use Rattle.gc_values.specs.declared.decimal.Decimal.{Decimal}
use Rattle.gc_values.specs.declared.file_value.TheConstants.{VALUE_BYTES, FILE_VALUES, PATH_BYTES}
use Rattle.gc_values.specs.declared.file_value.ValueFile.{ValueFile}

-- a text of at most 40 bytes as a value is kept: with zeros behind it
abbrev pub value_bytes : (text : List ℕ) → List ℕ
value_bytes text = text ++ replicate (VALUE_BYTES - length text) 0

-- no value, as it is kept
abbrev pub no_value : List ℕ
no_value = value_bytes []

-- the values of which no file gave one
abbrev pub no_values : List (List ℕ)
no_values = replicate FILE_VALUES no_value

-- what is before the first zero of these bytes, or all of them if there is none
abbrev pub value_text : List ℕ → List ℕ
value_text [] = []
value_text (b ∷ bs) = if b == 0 then [] else b ∷ value_text bs

-- whether a byte may not be in the path of a value's file: it isn't printable ASCII, or is a space, a comma, a double quote or a brace
abbrev pub is_foreign : ℕ → Bool
is_foreign b = nat_le b 32 || nat_lt 126 b || (b == 44) || (b == 34) || (b == 123) || (b == 125)

-- whether a text may be such a path: 1 to 128 bytes, none of them foreign
abbrev pub has_path : List ℕ → Bool
has_path text = nat_lt 0 (length text) && nat_le (length text) PATH_BYTES && not (list_any is_foreign text)

-- the path of a value's file
abbrev pub path_of : ValueFile → List ℕ
path_of file = value_text file.bytes

-- the file at this path whose value may be so old
pub record IsFileAt (path : List ℕ) (seconds : ℕ) (file : ValueFile) : Type 0 where
  pub may : has_path path ≡ true
  pub path_is : path_of file ≡ path
  pub seconds_are : file.seconds ≡ seconds

-- whether a file that was changed last at `changed` has a value at the moment `now`, both in milliseconds: they are at most so many seconds
-- apart
abbrev pub are_fresh : (changed now seconds : ℕ) → Bool
are_fresh changed now seconds = nat_le ((changed - now) + (now - changed)) (seconds * 1000)

-- a text without one CR at its end, if it has one
abbrev pub without_cr : List ℕ → List ℕ
without_cr [] = []
without_cr (b ∷ []) = if b == 13 then [] else b ∷ []
without_cr (b ∷ c ∷ bs) = b ∷ without_cr (c ∷ bs)

-- bytes that end in an LF are this line: what is before that LF, without one CR at its end. An LF before the last one is part of the line,
-- and no number has one
pub record IsLineOf (bytes line : List ℕ) : Type 0 where
  pub before : List ℕ
  pub bytes_are : bytes ≡ before ++ 10 ∷ []
  pub line_is : line ≡ without_cr before

-- a file with these bytes that was changed last at `changed` has this number as its value at the moment `now`, both in milliseconds since
-- 1970: it isn't older than `seconds`, and its one line spells the number
pub record HasValue (bytes : List ℕ) (changed now seconds : ℕ) (d : Decimal) : Type 0 where
  pub fresh : are_fresh changed now seconds ≡ true
  pub line : List ℕ
  pub line_is : IsLineOf bytes line
  pub spelled : SpellsDecimal line d

-- what is kept of such a file's value: the written form of its number; or that it has none
abbrev pub IsValueIn : (bytes : List ℕ) (changed now seconds : ℕ) (value : List ℕ) → Type 0
IsValueIn bytes changed now seconds value =
    ((d : Decimal) × HasValue bytes changed now seconds d × (value ≡ value_bytes (decimal_text d)))
    ⊎ (((d : Decimal) → HasValue bytes changed now seconds d → ⊥) × (value ≡ no_value))
