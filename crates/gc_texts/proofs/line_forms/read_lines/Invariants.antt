use Rattle.gc_texts.proofs.Common.{option_copied}
use Rattle.gc_texts.proofs.TextLines.{ReadsSoFar, much_left}
use Rattle.gc_texts.proofs.line_forms.read_lines.Given as goal

-- the lines so far gave these items
abbrev pub invariant-loop-left : goal.invariant-loop-left
invariant-loop-left g l = ReadsSoFar g.F.LineForm.form l.text (option_copied l.left) l.number l.items.items

-- each line that is read leaves less of the text
abbrev pub decreases-loop-left : goal.decreases-loop-left
decreases-loop-left g l = much_left (option_copied l.left)
