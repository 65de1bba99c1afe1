use Rattle.gc_texts.proofs.Common.{◌≡◌, map, drop, field_seen, value_under}
use Rattle.gc_texts.proofs.measured.value_under.Given as goal

-- the fields and values from here on decide
abbrev pub invariant-loop-k : goal.invariant-loop-k
invariant-loop-k l = value_under l.name (map field_seen l.fields) l.values ≡ value_under l.name (map field_seen (drop l.k l.fields)) (drop l.k l.values)
