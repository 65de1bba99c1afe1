use Rattle.gc_texts.proofs.Common.{◌≡◌, padded_kinds}
use Rattle.gc_texts.proofs.KindPlaces.{kinds_before}
use Rattle.gc_texts.proofs.kinds.Kinds.of.Given as goal

-- the kinds of the fields before place k are in their places
abbrev pub invariant-loop-k : goal.invariant-loop-k
invariant-loop-k l = l.kinds ≡ padded_kinds (kinds_before l.fields l.k)
