-- What the words behind the name of a subcommand give for its arguments, as clap found it: this project's own.
use Rattle.std.specs.Prelude.{◌≡◌, ◌⊎◌, ℕ, ◌<◌, ◌^◌, Bool, false, List, Option, Some, codes, IfSome, IsSome}
use Rattle.std.specs.Option.{option_map_or}
use Rattle.std.specs.Str.{bytes_eq}
use Rattle.std.specs.Str.Parse.{IsNumeral, digits_value, without_leading_plus}
use Rattle.clap.specs.Matches.{found_of}
use Rattle.clap.specs.Walk.{Row, first_of, one_of, rows_of}
use Rattle.clap.specs.declared.parser.matches.ArgMatches.{ArgMatches}

-- the words behind the name of a subcommand: for each argument that they give, or that has a default, a row with its texts
abbrev pub Words : Type 0
Words = List Row

-- the words that clap parsed
abbrev pub words_of : ArgMatches → Words
words_of matches = rows_of (found_of matches)

-- the text that the words give for the argument of this name, or else its default
abbrev pub text_in : Words → (name : List ℕ) → Option (List ℕ)
text_in words name = first_of name words

-- whether the words have the flag of this name
abbrev pub has_flag : Words → (name : List ℕ) → Bool
has_flag words name = option_map_or (λ text. bytes_eq text (codes "true")) (one_of name words) false

-- the text that the words give for the option of this name, or else its default, is a decimal numeral of `n`
pub record GivesNumber (words : Words) (name : List ℕ) (n : ℕ) : Type 0 where
  pub text : List ℕ
  pub given : one_of name words ≡ Some text
  pub numeral : IsNumeral 10 (without_leading_plus text)
  pub is : n ≡ digits_value 10 (without_leading_plus text)

-- the words give a number of so many bits for the option of this name
pub record HasNumber (words : Words) (name : List ℕ) (bits : ℕ) : Type 0 where
  pub n : ℕ
  pub gives : GivesNumber words name n
  pub fits : n < 2 ^ bits

-- what is read for an option that takes a number of so many bits: the number that the words give, if they give one
pub record ReadsNumber (words : Words) (name : List ℕ) (bits : ℕ) (r : Option ℕ) : Type 0 where
  pub found : IfSome r (λ n. GivesNumber words name n)
  pub only : HasNumber words name bits → IsSome r

-- the number of so many bits that the words give for an option, or `other` if they give none
abbrev pub IsNumberOr : (words : Words) (name : List ℕ) (bits other n : ℕ) → Type 0
IsNumberOr words name bits other n = GivesNumber words name n ⊎ ((HasNumber words name bits → ⊥) × (n ≡ other))
