-- No part of this crate's promises: how a parameter list is cut from the left, and spaces are taken off.
use Rattle.std.specs.Prelude.{◌≡◌, ◌==◌, ℕ, ◌%◌, List, ◌∷◌, [], ◌++◌, replicate, Option, None, Some, if◌then◌else◌}
use Rattle.gc_values.specs.Params.{quotes, HasCommasInQuotes, StartsNoSpace, EndsNoSpace, IsPadded}

-- the text is a piece, up to its first comma outside quotes, and what follows that comma, if there is one
abbrev pub CutsPiece : (text piece : List ℕ) → (rest : Option (List ℕ)) → Type 0
CutsPiece text piece None = (text ≡ piece) × HasCommasInQuotes piece
CutsPiece text piece (Some rest) = (text ≡ piece ++ 44 ∷ rest) × HasCommasInQuotes piece × (quotes piece % 2 ≡ 0)

-- a text without the spaces at its front
abbrev pub without_front_spaces : List ℕ → List ℕ
without_front_spaces [] = []
without_front_spaces (b ∷ bs) = if b == 32 then without_front_spaces bs else b ∷ bs

-- a byte in front of a text; a space in front of an empty text is left out
abbrev pub put_before : ℕ → List ℕ → List ℕ
put_before b [] = if b == 32 then [] else b ∷ []
put_before b (x ∷ xs) = b ∷ x ∷ xs

-- a text without the spaces at its end
abbrev pub without_end_spaces : List ℕ → List ℕ
without_end_spaces [] = []
without_end_spaces (b ∷ bs) = put_before b (without_end_spaces bs)

-- the item is the text without the spaces at its front
pub record TrimsFront (text item : List ℕ) : Type 0 where
  pub count : ℕ
  pub text_is : text ≡ replicate count 32 ++ item
  pub first : StartsNoSpace item

-- the item is the text without the spaces at its end
pub record TrimsBack (text item : List ℕ) : Type 0 where
  pub count : ℕ
  pub text_is : text ≡ item ++ replicate count 32
  pub last : EndsNoSpace item

-- the item is the text without the spaces at its ends
pub record IsTrimmed (text item : List ℕ) : Type 0 where
  pub padded : IsPadded text item
  pub first : StartsNoSpace item
  pub last : EndsNoSpace item
