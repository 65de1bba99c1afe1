-- Words with any number of spaces (byte 32) before each: this project's own.
use Rattle.std.specs.Prelude.{◌≡◌, ℕ, List, []}
use Rattle.gc_values.specs.Prelude.{without_front_spaces}
use Rattle.gc_texts.specs.Prelude.{behind, first_word}

-- the first word of a text, after any spaces; empty where it has none
abbrev pub front_word : List ℕ → List ℕ
front_word text = first_word (without_front_spaces text)

-- what comes after the first word of a text, the spaces before that word, and one space after it; empty if nothing does
abbrev pub other_words : List ℕ → List ℕ
other_words text = behind 32 (without_front_spaces text)

-- a text has nothing but spaces
abbrev pub IsBlank : List ℕ → Type 0
IsBlank text = without_front_spaces text ≡ []
