use Rattle.gc_rehearsal.proofs.Common.{length, ◌+◌, ◌-◌, ◌≤◌}
use Rattle.gc_rehearsal.proofs.Explaining.{HasExplained}
use Rattle.gc_rehearsal.proofs.explained.explain.Given as goal

-- the rows so far are explained, and no more of them aren't true, or in doubt, than there are
abbrev pub invariant-loop-claim : goal.invariant-loop-claim
invariant-loop-claim l = HasExplained l.claims l.truths l.left l.rows l.falses × (l.falses.by_damaged + l.falses.behind_two ≤ l.rows) × (l.falses.in_doubt ≤ l.rows)

-- each row leaves fewer of them
abbrev pub decreases-loop-claim : goal.decreases-loop-claim
decreases-loop-claim l = length l.claims - l.rows
