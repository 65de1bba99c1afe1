-- The words of a line of a station's text or of a scene, with one space (byte 32) between two: this project's own. A word that the line
-- doesn't have is empty, and so is what would follow it.
use Rattle.std.specs.Prelude.{◌≡◌, ℕ, List, [], ◌∷◌, ◌++◌}
use Rattle.gc_texts.specs.Cuts.{before, behind}
use Rattle.gc_texts.specs.LineForms.{ItemForm}

-- the first word of a line
abbrev pub first_word : List ℕ → List ℕ
first_word line = before 32 line

-- the second word of a line
abbrev pub second_word : List ℕ → List ℕ
second_word line = before 32 (behind 32 line)

-- what follows the first two words of a line, without the space between
abbrev pub after_two_words : List ℕ → List ℕ
after_two_words line = behind 32 (behind 32 line)

-- the third word of a line
abbrev pub third_word : List ℕ → List ℕ
third_word line = before 32 (after_two_words line)

-- what follows the first three words of a line, without the space between
abbrev pub after_three_words : List ℕ → List ℕ
after_three_words line = behind 32 (after_two_words line)

-- the fourth word of a line
abbrev pub fourth_word : List ℕ → List ℕ
fourth_word line = before 32 (after_three_words line)

-- what follows the first four words of a line, without the space between
abbrev pub after_four_words : List ℕ → List ℕ
after_four_words line = behind 32 (after_three_words line)

-- a text is the words of these items, one for each and at least one, with one space between two; `form` says which word is which item
abbrev pub AreWords : {Item : Type 0} → ItemForm Item → List ℕ → List Item → Type 0
AreWords form text [] = ⊥
AreWords form text (item ∷ []) = form text item
AreWords form text (item ∷ next ∷ others) =
    (word : List ℕ) × (rest : List ℕ) × (text ≡ word ++ 32 ∷ rest) × form word item × AreWords form rest (next ∷ others)
