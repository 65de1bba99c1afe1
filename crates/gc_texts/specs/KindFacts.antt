-- Facts about the places for kinds, which values of `Kinds` hold: this project's own.
use Rattle.gc_texts.specs.Common.{Kind, Bool}
use Rattle.std.proofs.Common.{◌≡◌, ◌≤◌, ◌-◌, List, ◌++◌, length, map, take, replicate, arith}
use Rattle.std.proofs.lemmas.List.{length-append, length-map, length-take, length-replicate}
use Rattle.gc_texts.specs.Fields.{FieldSeen}

-- of fields at most 16 are taken
pub few_kinds : (fields : List FieldSeen) → length (take 16 fields) ≤ 16
few_kinds fields = let is = length-take 16 fields in omega (arith, is)

-- the kinds of these, and any kind in the other places, fill 16 places
pub sixteen_places : (fields : List FieldSeen)
    → length (map (λ (f : FieldSeen). f.kind) (take 16 fields) ++ replicate (16 - length (map (λ (f : FieldSeen). f.kind) (take 16 fields))) Bool) ≡ 16
sixteen_places fields =
    let kinds : List Kind = map (λ (f : FieldSeen). f.kind) (take 16 fields) in
    let few = few_kinds fields in
    let many : length kinds ≡ length (take 16 fields) = length-map (take 16 fields) (λ (f : FieldSeen). f.kind) in
    let both = length-append kinds (replicate (16 - length kinds) Bool) in
    let rest = length-replicate (16 - length kinds) Bool in
    omega (arith, few, many, both, rest)
