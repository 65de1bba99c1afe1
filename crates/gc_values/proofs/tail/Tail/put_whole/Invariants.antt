use Rattle.gc_values.proofs.Common.{◌≡◌, ◌++◌, digits_text}
use Rattle.gc_values.proofs.tail.Tail.put_whole.Given as goal

abbrev pub invariant-loop-rest : goal.invariant-loop-rest
invariant-loop-rest l = digits_text l.rest ++ l.self ≡ digits_text l.n ++ l.fn.self

abbrev pub decreases-loop-rest : goal.decreases-loop-rest
decreases-loop-rest l = l.rest
