use Rattle.gc_texts.proofs.Common.{option_copied}
use Rattle.gc_texts.proofs.ReasonForms.{NamesSoFar}
use Rattle.gc_texts.proofs.TextLines.{much_left}
use Rattle.gc_texts.proofs.retry.read_reasons.Given as goal

-- the words so far name the rule so far, with `count` codes
abbrev pub invariant-loop-left : goal.invariant-loop-left
invariant-loop-left l = NamesSoFar l.text (option_copied l.left) l.again l.count

-- each word that is read leaves less of the text
abbrev pub decreases-loop-left : goal.decreases-loop-left
decreases-loop-left l = much_left (option_copied l.left)
