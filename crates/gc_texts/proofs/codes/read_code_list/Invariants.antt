use Rattle.gc_texts.proofs.Common.{option_copied}
use Rattle.gc_texts.proofs.CodeForms.{CodesSoFar}
use Rattle.gc_texts.proofs.TextLines.{much_left}
use Rattle.gc_texts.proofs.codes.read_code_list.Given as goal

-- the codes so far, `count` of them, are in the first places
abbrev pub invariant-loop-left : goal.invariant-loop-left
invariant-loop-left l = CodesSoFar l.text (option_copied l.left) l.codes l.count

-- each code that is read leaves less of the text
abbrev pub decreases-loop-left : goal.decreases-loop-left
decreases-loop-left l = much_left (option_copied l.left)
