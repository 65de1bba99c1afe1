use Rattle.gc_texts.proofs.Common.{option_copied, first_mode}
use Rattle.gc_texts.proofs.TextLines.{much_left}
use Rattle.gc_texts.proofs.TaskReading.{ReadsTasks}
use Rattle.gc_texts.proofs.tasks.read_task_lines.Given as goal

-- the lines so far gave this, and the mode is the one after them
abbrev pub invariant-loop-left : goal.invariant-loop-left
invariant-loop-left l =
    ReadsTasks l.text (first_mode l.fn.deadline l.fn.chained) (option_copied l.left) l.number l.given l.mode

-- each line that is read leaves less of the text
abbrev pub decreases-loop-left : goal.decreases-loop-left
decreases-loop-left l = much_left (option_copied l.left)
