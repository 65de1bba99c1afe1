-- Strings between double quotes, as in the GeoCOM manual's chapter on the ASCII protocol. At most 64 bytes, and that a
-- backslash is a plain byte, are this project's own.
use Rattle.std.specs.Prelude.{◌≡◌, ◌≢◌, ℕ, ◌<◌, ◌≤◌, List, [], ◌∷◌, ◌++◌, length}
use Rattle.std.specs.List.{AllByRecursion}

-- a byte of a string: neither a double quote nor CR nor LF
abbrev pub IsStringByte : ℕ → Type 0
IsStringByte b = (b ≢ 34) × (b ≢ 13) × (b ≢ 10)

-- bytes that are all allowed in a string
abbrev pub AreStringBytes : List ℕ → Type 0
AreStringBytes bytes = AllByRecursion IsStringByte bytes

-- bytes that are all allowed in a string, more than the 64 that it may have
abbrev pub AreTooLong : List ℕ → Type 0
AreTooLong bytes = AreStringBytes bytes × (64 < length bytes)

-- the bytes may be those of a string parameter: at most 64, each of which is allowed in a string
pub record IsText (bytes : List ℕ) : Type 0 where
  pub few : length bytes ≤ 64
  pub plain : AreStringBytes bytes

-- the bytes between double quotes
abbrev pub quoted : List ℕ → List ℕ
quoted bytes = 34 ∷ (bytes ++ 34 ∷ [])

-- the item is a string of any length, with these bytes between its quotes
pub record IsString (item bytes : List ℕ) : Type 0 where
  pub item_is : item ≡ quoted bytes
  pub plain : AreStringBytes bytes

-- the item is a string with these bytes between its quotes, at most 64
pub record IsTextItem (item bytes : List ℕ) : Type 0 where
  pub string : IsString item bytes
  pub few : length bytes ≤ 64

-- the item is no string
abbrev pub IsNoString : List ℕ → Type 0
IsNoString item = (bytes : List ℕ) → IsString item bytes → ⊥

-- the item is a string of more than 64 bytes
abbrev pub IsLongString : List ℕ → Type 0
IsLongString item = (bytes : List ℕ) × IsString item bytes × (64 < length bytes)
