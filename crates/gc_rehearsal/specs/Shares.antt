-- Percentages from 0 to 100 with at most three decimals, in thousandths: this project's own.
use Rattle.std.specs.Prelude.{◌≡◌, ℕ, ◌+◌, ◌*◌, ◌≤◌, ◌⊎◌, List, length, Option, None, Some}
use Rattle.gc_texts.specs.Prelude.{Cuts, IsNumber}

-- the share that is all: 100 percent, in thousandths of a percent. This project's own
abbrev pub whole_share : ℕ
whole_share = 100000

-- `count` digits after a point, which write `number`, are `n` thousandths: one digit is tenths, two are hundredths, and three
-- thousandths
abbrev pub AreThousandths : (count number n : ℕ) → Type 0
AreThousandths count number n = ((count ≡ 1) × (n ≡ number * 100)) ⊎ (((count ≡ 2) × (n ≡ number * 10)) ⊎ ((count ≡ 3) × (n ≡ number)))

-- one to three digits after a point are this many thousandths
abbrev pub IsPlaces : List ℕ → ℕ → Type 0
IsPlaces digits n = (number : ℕ) × IsNumber digits number 999 × AreThousandths (length digits) number n

-- the digits `whole` before a point, and `places` after it, if there is one, are a percentage of at most 100, which is `n`
-- thousandths of a percent
abbrev pub IsParts : (whole : List ℕ) → (places : Option (List ℕ)) → (n : ℕ) → Type 0
IsParts whole None n = (number : ℕ) × IsNumber whole number 100 × (n ≡ number * 1000)
IsParts whole (Some places) n =
    (number : ℕ) × (thousandths : ℕ) × IsNumber whole number 100 × IsPlaces places thousandths
    × (n ≡ number * 1000 + thousandths) × (n ≤ whole_share)

-- the word is a percentage of at most 100, which is `n` thousandths of a percent. A point is byte 46
abbrev pub IsShare : List ℕ → ℕ → Type 0
IsShare word n = (whole : List ℕ) × (places : Option (List ℕ)) × Cuts 46 word whole places × IsParts whole places n
