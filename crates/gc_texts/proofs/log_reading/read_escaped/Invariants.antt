use Rattle.gc_texts.proofs.Common.{length}
use Rattle.gc_texts.proofs.Logs.{ReadsBytes}
use Rattle.gc_texts.proofs.log_reading.read_escaped.Given as goal

-- the text is the escaped form of the bytes so far, and then what is left
abbrev pub invariant-loop-left : goal.invariant-loop-left
invariant-loop-left l = ReadsBytes l.text l.bytes.items l.left

-- each byte that is read leaves less of the text
abbrev pub decreases-loop-left : goal.decreases-loop-left
decreases-loop-left l = length l.left
