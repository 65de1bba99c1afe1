-- The pieces of a text at a mark, which is a byte; its words are those at spaces: this project's own.
use Rattle.std.specs.Prelude.{◌≡◌, ◌==◌, ℕ, List, [], ◌∷◌, Option, None, Some, if◌then◌else◌}

-- these pieces, with a byte before the first of them
abbrev pub with_front : ℕ → List (List ℕ) → List (List ℕ)
with_front b [] = []
with_front b (piece ∷ pieces) = (b ∷ piece) ∷ pieces

-- the pieces of a text: what is before, between and after its marks, each of which may be empty
abbrev pub pieces_of : (mark : ℕ) → List ℕ → List (List ℕ)
pieces_of mark [] = [] ∷ []
pieces_of mark (b ∷ bs) = if b == mark then [] ∷ pieces_of mark bs else with_front b (pieces_of mark bs)

-- the pieces of what is left of a text; none where nothing is
abbrev pub pieces_left : (mark : ℕ) → Option (List ℕ) → List (List ℕ)
pieces_left mark None = []
pieces_left mark (Some text) = pieces_of mark text

-- the words of a text: its pieces at spaces (byte 32)
abbrev pub words_of : List ℕ → List (List ℕ)
words_of text = pieces_of 32 text

-- the next of the pieces `old` was taken, and `new` are those that are left; or there were none
abbrev pub TakesWord : (old new : List (List ℕ)) → Option (List ℕ) → Type 0
TakesWord old new None = (old ≡ []) × (new ≡ [])
TakesWord old new (Some word) = old ≡ word ∷ new
