-- Paths with a date in them: `%` and a letter stand for a part of the moment, UTC: `%Y` for the year, `%m`, `%d` and `%H` for the month,
-- the day and the hour in two digits, and `%%` for a percent sign. The letters are those of strftime; the rest is this project's own.
use Rattle.gc_texts.specs.Common.{decimal}
use Rattle.std.specs.Prelude.{ℕ, Bool, true, false, ◌==◌, not, ◌&&◌, ◌||◌, List, [], ◌∷◌, ◌++◌, codes, if◌then◌else◌}
use Rattle.gc_texts.specs.Stamps.{date_at, hours_at, since_midnight, two_digits}

-- whether `%` and this letter stand for a part of the moment: `Y`, `m`, `d` or `H`
abbrev pub is_date_letter : ℕ → Bool
is_date_letter letter = ((letter == 89) || (letter == 109)) || ((letter == 100) || (letter == 72))

-- whether this letter may follow a `%`: one of those, or a second `%`
abbrev pub is_letter : ℕ → Bool
is_letter letter = is_date_letter letter || (letter == 37)

-- whether each `%` of a path begins one of the five
unfoldable pub is_dated_path : List ℕ → Bool
is_dated_path [] = true
is_dated_path (a ∷ []) = not (a == 37)
is_dated_path (a ∷ b ∷ bs) = if a == 37 then is_letter b && is_dated_path bs else is_dated_path (b ∷ bs)

-- whether a part of the moment is in a path
unfoldable pub has_date : List ℕ → Bool
has_date [] = false
has_date (a ∷ []) = false
has_date (a ∷ b ∷ bs) = if a == 37 then is_date_letter b || has_date bs else has_date (b ∷ bs)

-- what `%` and this letter stand for at the moment this many milliseconds after the beginning of 1970
abbrev pub part_text : (utc letter : ℕ) → List ℕ
part_text utc letter =
    if letter == 89 then decimal (date_at utc).year
    else (if letter == 109 then two_digits (date_at utc).month
    else (if letter == 100 then two_digits (date_at utc).day
    else (if letter == 72 then two_digits (hours_at (since_midnight utc))
    else (if letter == 37 then codes "%"
    else 37 ∷ letter ∷ []))))

-- a path as it is at the moment this many milliseconds after the beginning of 1970; what `is_dated_path` has no place for stays
unfoldable pub dated : (utc : ℕ) → List ℕ → List ℕ
dated utc [] = []
dated utc (a ∷ []) = a ∷ []
dated utc (a ∷ b ∷ bs) = if a == 37 then part_text utc b ++ dated utc bs else a ∷ dated utc (b ∷ bs)
