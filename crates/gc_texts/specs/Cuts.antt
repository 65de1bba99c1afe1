-- Texts cut at a mark, which is a byte, as LF between lines or a space between words: this project's own. `behind mark text` is what
-- follows the first mark; empty where there is none.
use Rattle.gc_texts.specs.Common.{AllByRecursion, starts_with}
use Rattle.std.specs.Prelude.{◌≡◌, ◌≢◌, ◌==◌, ◌||◌, ℕ, Bool, false, List, [], ◌∷◌, ◌++◌, Option, None, Some, if◌then◌else◌}
pub use Rattle.std.specs.Io.BufRead.{drop_through as behind}

-- no byte is the mark
abbrev pub Lacks : (mark : ℕ) → List ℕ → Type 0
Lacks mark bytes = AllByRecursion (λ b. b ≢ mark) bytes

-- a text, cut at the first mark: `front` is what is before the mark, and `rest` what follows it. Without a mark `front` is all of the
-- text, and `rest` is `None`
abbrev pub Cuts : (mark : ℕ) (text front : List ℕ) (rest : Option (List ℕ)) → Type 0
Cuts mark text front None = (text ≡ front) × Lacks mark front
Cuts mark text front (Some rest) = (text ≡ front ++ mark ∷ rest) × Lacks mark front

-- what is before the first mark, or all of the text where there is none
abbrev pub before : ℕ → List ℕ → List ℕ
before mark [] = []
before mark (b ∷ bs) = if b == mark then [] else b ∷ before mark bs

-- whether `part`, which isn't empty, is somewhere in a text
abbrev pub has_part : (part : List ℕ) → List ℕ → Bool
has_part part [] = false
has_part part (b ∷ bs) = starts_with (λ x y. x == y) (b ∷ bs) part || has_part part bs
