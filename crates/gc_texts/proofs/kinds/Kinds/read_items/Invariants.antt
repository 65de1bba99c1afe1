use Rattle.gc_texts.proofs.Common.{take}
use Rattle.gc_texts.proofs.KindSteps.{ReadTo}
use Rattle.gc_texts.proofs.kinds.Kinds.read_items.Given as goal

-- the values are those of the items before place k
abbrev pub invariant-loop-k : goal.invariant-loop-k
invariant-loop-k l = ReadTo (take l.self.len l.self.kinds) l.items l.k l.values.items
