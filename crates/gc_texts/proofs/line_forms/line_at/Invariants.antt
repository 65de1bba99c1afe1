use Rattle.gc_texts.proofs.Common.{◌≡◌, ◌-◌, [], get_or, option_copied, line_at}
use Rattle.gc_texts.proofs.TextLines.{lines_left}
use Rattle.gc_texts.proofs.line_forms.line_at.Given as goal

-- the line is number `wanted` of those that are left, counted from 1
abbrev pub invariant-loop-left : goal.invariant-loop-left
invariant-loop-left l = line_at l.initial.text l.fn.number ≡ get_or (lines_left (option_copied l.left)) (l.wanted - 1) []

-- each line that is passed leaves a smaller number to count to
abbrev pub decreases-loop-left : goal.decreases-loop-left
decreases-loop-left l = l.wanted
