-- Cycles that begin by the clock: how far apart their due moments are. This project's own. Times are in milliseconds, and moments since
-- 1970-01-01, UTC.
use Rattle.gc_station.specs.Common.{later}
use Rattle.std.specs.Prelude.{ℕ, ◌-◌, ◌%◌, if◌then◌else◌, nat_eq, nat_le, Option, Some, None}

-- how long the moment `utc` is after the last one that is `at` after a whole multiple of `every`, which is above 0
abbrev pub past_multiple : (every at utc : ℕ) → ℕ
past_multiple every at utc = later (utc % every) (every - at % every) % every

-- how long after `utc`, at which a cycle was due, the next one is: it is due at the moment `at` after a whole multiple of `every` that is
-- nearest to a period later. So a clock that was set since is followed, and no cycle is due less than half a period after the one before it
abbrev pub period_by_clock : (every at utc : ℕ) → ℕ
period_by_clock every at utc =
    let past = past_multiple every at utc in if nat_le past (every - past) then every - past else later every (every - past)

-- how long after `utc`, at which a cycle was due, the next one is: a period, or as the clock says (`period_by_clock`) if cycles begin by it,
-- and have due moments
abbrev pub period_from : (at : Option ℕ) → (every utc : ℕ) → ℕ
period_from None every utc = every
period_from (Some at) every utc = if nat_eq every 0 then 0 else period_by_clock every at utc
