-- Lists of return codes in a station's text: this project's own.
use Rattle.gc_texts.specs.Common.{list_any}
use Rattle.std.specs.Prelude.{◌≡◌, ℕ, ◌-◌, ◌≤◌, ◌==◌, ◌&&◌, Bool, not, List, [], ◌++◌, length, replicate}
use Rattle.gc_texts.specs.Procedures.{IsNumber}
use Rattle.gc_texts.specs.Words.{AreWords}
use Rattle.gc_texts.specs.declared.codes.Codes.{Codes}

-- a word is this return code in decimal digits, from 1 to 65535
pub record IsCode (word : List ℕ) (code : ℕ) : Type 0 where
  pub number : IsNumber word code 65535
  pub some : 1 ≤ code

-- these codes, which are at most 16, in the first of 16 places, and 0, which is no code, in the others
abbrev pub padded_codes : List ℕ → List ℕ
padded_codes listed = listed ++ replicate (16 - length listed) 0

-- the empty list of codes
abbrev pub no_codes : Codes
no_codes = record { codes = padded_codes [] }

-- a text is the words of these codes, at least one and at most 16, with one space between two
pub record IsCodeList (text : List ℕ) (codes : Codes) : Type 0 where
  pub listed : List ℕ
  pub are : AreWords IsCode text listed
  pub few : length listed ≤ 16
  pub filled_are : codes.codes ≡ padded_codes listed

-- whether this return code is among these codes; 0, which fills the places after them, never is
abbrev pub lists_code : Codes → ℕ → Bool
lists_code accepted code = not (code == 0) && list_any (λ c. c == code) accepted.codes
