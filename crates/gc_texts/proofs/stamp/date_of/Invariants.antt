use Rattle.gc_texts.proofs.Common.{◌≡◌, ◌+◌, ◌≤◌, days_after}
use Rattle.gc_texts.proofs.Dates.{calendar_date}
use Rattle.gc_texts.proofs.stamp.date_of.Given as goal

-- the date is `left` days after the first day of this year
abbrev pub invariant-loop-left : goal.invariant-loop-left
invariant-loop-left l = record {
  passed : days_after l.fn.days (calendar_date 1970 1 1) ≡ days_after l.left (calendar_date l.year 1 1);
  year : l.year + l.left ≤ 1970 + l.fn.days;
}

-- each year that passes leaves fewer days
abbrev pub decreases-loop-left : goal.decreases-loop-left
decreases-loop-left l = l.left
