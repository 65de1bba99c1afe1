use Rattle.gc_values.proofs.Common.{◌≡◌, ◌++◌, take, drop, value_text}
use Rattle.gc_values.proofs.file_value.before_zero.Given as goal

-- none of the bytes so far is a zero
abbrev pub invariant-loop-n : goal.invariant-loop-n
invariant-loop-n l = value_text l.bytes ≡ take l.n l.bytes ++ value_text (drop l.n l.bytes)
