use Rattle.gc_texts.proofs.Common.{rules, ◌≡◌, false, is_length, AreRangeWords, Range}
use Rattle.gc_texts.proofs.Doubles.{no_distance, no_length}
use Rattle.gc_texts.proofs.near.read_range_words.Goals as goal

pub returns-in_err-distance : goal.returns-in_err-distance
returns-in_err-distance c =
    let none : (range : Range) → AreRangeWords c.args.distance.now c.args.tolerance.now range → ⊥ =
    λ range are. c.in_err-distance.ensures range.distance are.distance_is in search rules

pub returns-in_err-tolerance : goal.returns-in_err-tolerance
returns-in_err-tolerance c =
    let none : (range : Range) → AreRangeWords c.args.distance.now c.args.tolerance.now range → ⊥ =
    λ range are. c.in_err-tolerance.ensures range.tolerance are.tolerance_is in search rules

pub returns-then-not-is_length : goal.returns-then-not-is_length
returns-then-not-is_length c range are =
    let isnt : is_length c.in_ok-distance.distance ≡ false = search rules in
    no_distance c.args.distance.now c.args.tolerance.now range are c.in_ok-distance.distance c.in_ok-distance.ensures isnt

pub returns-then-not-is_length-2 : goal.returns-then-not-is_length-2
returns-then-not-is_length-2 c range are =
    let isnt : is_length c.in_ok-tolerance.tolerance ≡ false = search rules in
    no_length c.args.distance.now c.args.tolerance.now range are c.in_ok-tolerance.tolerance c.in_ok-tolerance.ensures isnt
