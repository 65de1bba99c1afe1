use Rattle.gc_scenes.proofs.Common.{◌≡◌, ◌≤◌, days_on}
use Rattle.gc_scenes.proofs.clock.days_on.Given as goal

-- `day` is the date as many days later as have passed, and no more have passed than `days`
abbrev pub invariant-loop-passed : goal.invariant-loop-passed
invariant-loop-passed l = (l.day ≡ days_on l.passed l.date) × (l.passed ≤ l.days)
