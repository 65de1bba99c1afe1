use Rattle.gc_rehearsal.proofs.Common.{option_copied, much_left}
use Rattle.gc_rehearsal.proofs.Leading.{Comes}
use Rattle.gc_rehearsal.proofs.reading.read_lines.Given as goal

-- the lines so far lead to these rules
abbrev pub invariant-loop-left : goal.invariant-loop-left
invariant-loop-left l = Comes l.fn.text (option_copied l.left) l.number l.rules

-- each line that is read leaves less of the text
abbrev pub decreases-loop-left : goal.decreases-loop-left
decreases-loop-left l = much_left (option_copied l.left)
