use Rattle.gc_texts.proofs.Common.{◌≡◌, ◌+◌, ◌<◌, ◌≤◌, ◌-◌, year_days, days_after}
use Rattle.gc_texts.proofs.Dates.{days_of_months, calendar_date}
use Rattle.gc_texts.proofs.stamp.date_in_year.Given as goal

-- the date is `left` days after the first day of this month, and within the year
abbrev pub invariant-loop-left : goal.invariant-loop-left
invariant-loop-left l = record {
  passed : days_after l.fn.days (calendar_date l.year 1 1) ≡ days_after l.left (calendar_date l.year l.month 1);
  low : 1 ≤ l.month;
  high : l.month ≤ 12;
  part : days_of_months l.year (l.month - 1) + l.left < year_days l.year;
}

-- each month that passes leaves fewer days
abbrev pub decreases-loop-left : goal.decreases-loop-left
decreases-loop-left l = l.left
