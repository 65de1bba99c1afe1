-- A clock that runs from the date that it was set to: this project's own, by the Gregorian calendar.
use Rattle.gc_scenes.specs.Common.{month_days, DateTime}
use Rattle.std.specs.Prelude.{ℕ, ℤ, pos, suc, zero, ◌+◌, ◌-◌, ◌*◌, ◌/◌, ◌%◌, ◌+ℤ◌, nat_lt, int_le, unsigned_abs, if◌then◌else◌}
use Rattle.gc_scenes.specs.declared.clock.Clock.{Clock}

-- the next year; from 9999 on a year is followed by itself
abbrev pub next_year : ℤ → ℤ
next_year year = if int_le (pos 9999) year then year else year +ℤ pos 1

-- the next day, at the same time of day; after the last day of 9999 that year begins again. A day past the end of its month
-- counts as its last
abbrev pub next_day : DateTime → DateTime
next_day d =
    if nat_lt d.day (month_days (unsigned_abs d.year) d.month) then record d { day = d.day + 1 }
    else (if nat_lt d.month 12 then record d { day = 1; month = d.month + 1 } else record d { day = 1; month = 1; year = next_year d.year })

-- the date this many days later, at the same time of day
abbrev pub days_on : (days : ℕ) → DateTime → DateTime
days_on zero d = d
days_on (suc n) d = next_day (days_on n d)

-- the seconds since midnight
abbrev pub second_of : DateTime → ℕ
second_of d = d.hour * 3600 + d.minute * 60 + d.second

-- the same day, this many seconds after midnight
abbrev pub at_second : (second : ℕ) → DateTime → DateTime
at_second s d = record d { hour = s / 3600; minute = s / 60 % 60; second = s % 60 }

-- the date and time this many seconds later; a day has 86,400 seconds
abbrev pub seconds_on : (seconds : ℕ) → DateTime → DateTime
seconds_on n d = at_second ((second_of d + n) % 86400) (days_on ((second_of d + n) / 86400) d)

-- what a clock shows at this moment, which is in milliseconds: the date that it was set to plus the whole seconds since then; at
-- a moment before it was set, that date
abbrev pub shown_at : (moment : ℕ) → Clock → DateTime
shown_at moment c = seconds_on ((moment - c.at) / 1000) c.set
