use Rattle.gc_values.proofs.WholeLemmas.{CountedSoFar}
use Rattle.gc_values.proofs.whole.read_whole.Given as goal

abbrev pub invariant-loop-byte : goal.invariant-loop-byte
invariant-loop-byte l = CountedSoFar l.item l.byte-index l.above l.value
