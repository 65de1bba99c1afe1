-- A stamp by the calendar and the hours of a day, this project's own in the words of ISO 8601.
use Rattle.std.specs.Prelude.{◌≡◌, ℕ, ◌+◌, ◌*◌, ◌<◌, [], ◌∷◌, ◌++◌, codes}
use Rattle.gc_texts.specs.Stamps.{next_day, date_of, two_digits, three_digits, date_text, clock_text, stamp_text}

-- the milliseconds of these days, hours, minutes and seconds, and of `more` milliseconds, together
abbrev pub millis_of : (days hours minutes seconds more : ℕ) → ℕ
millis_of days hours minutes seconds more = days * 86400000 + hours * 3600000 + minutes * 60000 + seconds * 1000 + more

-- the character of a digit
abbrev pub digit : ℕ → ℕ
digit n = 48 + n

-- the text of a stamp gives its date, hour, minute, second and millisecond, each in digits of its value; the date of day 0 is 1
-- January 1970, and that of each later day is the day after the date of the day before
pub record StampsAreMoments : Type 0 where
  pub moment : (days hours minutes seconds more : ℕ) → hours < 24 → minutes < 60 → seconds < 60 → more < 1000
      → stamp_text (millis_of days hours minutes seconds more)
      ≡ date_text (date_of days) ++ codes "T" ++ clock_text hours minutes seconds more ++ codes "Z"
  pub two : (a b : ℕ) → b < 10 → two_digits (a * 10 + b) ≡ digit a ∷ digit b ∷ []
  pub three : (a b c : ℕ) → b < 10 → c < 10 → three_digits (a * 100 + b * 10 + c) ≡ digit a ∷ digit b ∷ digit c ∷ []
  pub first : date_of 0 ≡ record { year = 1970; month = 1; day = 1 }
  pub next : (days : ℕ) → date_of (days + 1) ≡ next_day (date_of days)
