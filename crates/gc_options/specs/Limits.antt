-- The options whose text is a number or a word: this project's own.
use Rattle.std.specs.Prelude.{◌≡◌, ◌⊎◌, ℕ, ◌≤◌, ◌^◌, ◌-◌, List, Option, Some, codes, IfSome, IsSome}
use Rattle.std.specs.Str.Parse.{IsNumeral, digits_value, without_leading_plus}
use Rattle.gc_options.specs.Words.{Words, text_in}
use Rattle.gc_options.specs.declared.limit.Limit.{Limit}
use Rattle.gc_options.specs.declared.limit.Limit.TheVariants.{Cycles, NightCycles, Retries, Stale}

-- the name of the option
abbrev pub limit_name : Limit → List ℕ
limit_name Cycles = codes "cycles"
limit_name NightCycles = codes "cycles"
limit_name Retries = codes "retries"
limit_name Stale = codes "stale"

-- the word in place of a number: that there is no limit, or of a night that it has as many cycles as a day has periods
abbrev pub limit_word : Limit → List ℕ
limit_word Cycles = codes "unlimited"
limit_word NightCycles = codes "day"
limit_word Retries = codes "always"
limit_word Stale = codes "never"

-- what that word stands for: where something is counted to its end, the greatest number of its type; 0 where that is looked for
abbrev pub limitless : Limit → ℕ
limitless Cycles = 2 ^ 64 - 1
limitless NightCycles = 0
limitless Retries = 2 ^ 32 - 1
limitless Stale = 0

-- the greatest limit
abbrev pub most_of : Limit → ℕ
most_of Cycles = 2 ^ 64 - 1
most_of NightCycles = 86400
most_of Retries = 2 ^ 32 - 1
most_of Stale = 31536000

-- why a command line is refused that gives the option another text
abbrev pub limit_refusal : Limit → List ℕ
limit_refusal Cycles = codes "--cycles takes 'unlimited' or a number from 1 to 18446744073709551615"
limit_refusal NightCycles = codes "--cycles takes 'day' or a number from 1 to 86400"
limit_refusal Retries = codes "--retries takes 'always' or a number from 1 to 4294967295"
limit_refusal Stale = codes "--stale takes 'never' or a number of seconds from 1 to 31536000"

-- the text is a decimal numeral of `number`, which is from 1 to `most`
pub record IsCounted (most : ℕ) (text : List ℕ) (number : ℕ) : Type 0 where
  pub numeral : IsNumeral 10 (without_leading_plus text)
  pub is : number ≡ digits_value 10 (without_leading_plus text)
  pub some : 1 ≤ number
  pub bound : number ≤ most

-- the text says `number` for this option: it is the option's word, which stands for that, or a numeral of it
abbrev pub SaysLimit : Limit → (text : List ℕ) → (number : ℕ) → Type 0
SaysLimit limit text number = ((text ≡ limit_word limit) × (number ≡ limitless limit)) ⊎ IsCounted (most_of limit) text number

-- the text that the words give for this option, or else its default, says `number`
pub record GivesLimit (words : Words) (limit : Limit) (number : ℕ) : Type 0 where
  pub text : List ℕ
  pub given : text_in words (limit_name limit) ≡ Some text
  pub says : SaysLimit limit text number

-- the words give this option its word, or a number within its bounds
pub record HasLimit (words : Words) (limit : Limit) : Type 0 where
  pub number : ℕ
  pub gives : GivesLimit words limit number

-- what is read for this option: what the words give it, if that is its word or a number within its bounds
pub record ReadsLimit (words : Words) (limit : Limit) (r : Option ℕ) : Type 0 where
  pub found : IfSome r (λ number. GivesLimit words limit number)
  pub only : HasLimit words limit → IsSome r

-- the words give each option of a station with a limit its word or a number within its bounds; that for cycles is `of_cycles`
pub record HasLimits (words : Words) (of_cycles : Limit) : Type 0 where
  pub cycles : HasLimit words of_cycles
  pub retries : HasLimit words Retries
  pub stale : HasLimit words Stale

-- the words give one of these options neither its word nor a number within its bounds
pub record LacksLimit (words : Words) (of_cycles limit : Limit) : Type 0 where
  pub one : (limit ≡ of_cycles) ⊎ ((limit ≡ Retries) ⊎ (limit ≡ Stale))
  pub lacks : HasLimit words limit → ⊥
