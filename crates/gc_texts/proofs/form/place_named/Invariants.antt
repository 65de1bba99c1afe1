use Rattle.gc_texts.proofs.Common.{◌≡◌, ◌+◌, map, drop, option_map, field_seen, place_named}
use Rattle.gc_texts.proofs.form.place_named.Given as goal

-- the fields from here on decide
abbrev pub invariant-loop-k : goal.invariant-loop-k
invariant-loop-k l = place_named l.name (map field_seen l.fields) ≡ option_map (λ j. l.k + j) (place_named l.name (map field_seen (drop l.k l.fields)))
