-- Parameter lists: parameters between commas, and strings in double quotes, as in the GeoCOM manual's chapter on the ASCII
-- protocol. That spaces round a parameter don't count is this project's own.
use Rattle.std.specs.Prelude.{◌≡◌, ℕ, ◌+◌, ◌%◌, ◌<◌, ◌==◌, Bool, not, if◌then◌else◌, List, [], ◌∷◌, ◌++◌, length, replicate, count_by}
use Rattle.std.specs.List.{flat_map}

-- how many double quotes are in the bytes
abbrev pub quotes : List ℕ → ℕ
quotes bytes = count_by (λ b. b == 34) bytes

-- whether a double quote is open after a byte; `quoted` says whether one is open before that byte
abbrev pub quoted_after : ℕ → (quoted : Bool) → Bool
quoted_after b quoted = if b == 34 then not quoted else quoted

-- the bytes have an odd number of double quotes, so that one of them has no partner
abbrev pub HasOpenQuote : List ℕ → Type 0
HasOpenQuote bytes = quotes bytes % 2 ≡ 1

-- the bytes are spaces alone, or none
abbrev pub AreSpaces : List ℕ → Type 0
AreSpaces bytes = (n : ℕ) × (bytes ≡ replicate n 32)

-- the item doesn't begin with a space
abbrev pub StartsNoSpace : List ℕ → Type 0
StartsNoSpace item = (rest : List ℕ) → item ≡ 32 ∷ rest → ⊥

-- the item doesn't end in a space
abbrev pub EndsNoSpace : List ℕ → Type 0
EndsNoSpace item = (front : List ℕ) → item ≡ front ++ 32 ∷ [] → ⊥

-- each comma is within double quotes: it has an odd number of double quotes before it
abbrev pub HasCommasInQuotes : List ℕ → Type 0
HasCommasInQuotes text = (front rest : List ℕ) → text ≡ front ++ 44 ∷ rest → quotes front % 2 ≡ 1

-- a parameter: no space at its ends, its double quotes in pairs, and each comma inside a pair
pub record IsParam (item : List ℕ) : Type 0 where
  pub first : StartsNoSpace item
  pub last : EndsNoSpace item
  pub pairs : quotes item % 2 ≡ 0
  pub commas : HasCommasInQuotes item

-- the piece is the item with any spaces round it
pub record IsPadded (piece item : List ℕ) : Type 0 where
  pub before : ℕ
  pub behind : ℕ
  pub piece_is : piece ≡ replicate before 32 ++ (item ++ replicate behind 32)

-- the pieces are the items, which are parameters, one for one, with any spaces round each
abbrev pub ArePieces : (pieces items : List (List ℕ)) → Type 0
ArePieces [] [] = Unit {0}
ArePieces [] (item ∷ items) = ⊥
ArePieces (piece ∷ pieces) [] = ⊥
ArePieces (piece ∷ pieces) (item ∷ items) = IsPadded piece item × IsParam item × ArePieces pieces items

-- texts joined by commas
abbrev pub joined : List (List ℕ) → List ℕ
joined [] = []
joined (t ∷ ts) = t ++ flat_map (λ u. 44 ∷ u) ts

-- how many bytes texts have together
abbrev pub total_length : (texts : List (List ℕ)) → ℕ
total_length [] = 0
total_length (text ∷ texts) = length text + total_length texts

-- the bytes are the parameters joined by commas, with any spaces round each, and have a byte that is no space
pub record AreJoined (bytes : List ℕ) (items : List (List ℕ)) : Type 0 where
  pub pieces : List (List ℕ)
  pub bytes_are : bytes ≡ joined pieces
  pub pieces_are : ArePieces pieces items
  pub some : AreSpaces bytes → ⊥

-- the bytes are a list of these parameters, which are none exactly where there are no bytes but spaces
abbrev pub IsParams : List ℕ → List (List ℕ) → Type 0
IsParams bytes [] = AreSpaces bytes
IsParams bytes (item ∷ items) = AreJoined bytes (item ∷ items)

-- the bytes are a list of more than 16 parameters. The limit is this project's own
abbrev pub AreTooMany : List ℕ → Type 0
AreTooMany bytes = (items : List (List ℕ)) × IsParams bytes items × (16 < length items)
