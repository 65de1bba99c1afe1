use Rattle.gc_texts.proofs.Common.{rules, ◌≡◌, false, option_copied, is_place, is_tolerance, AreNearWords, Near}
use Rattle.gc_texts.proofs.Doubles.{no_place, no_tolerance}
use Rattle.gc_texts.proofs.near.read_near_words.Goals as goal

pub returns-in_err-hz : goal.returns-in_err-hz
returns-in_err-hz c =
    let none : (near : Near) → AreNearWords c.args.target.now c.args.hz.now c.args.v.now c.args.tolerance.now (option_copied c.args.words) near → ⊥ =
    λ near are. c.in_err-hz.ensures near.place.hz are.hz_is in search rules

pub returns-in_err-v : goal.returns-in_err-v
returns-in_err-v c =
    let none : (near : Near) → AreNearWords c.args.target.now c.args.hz.now c.args.v.now c.args.tolerance.now (option_copied c.args.words) near → ⊥ =
    λ near are. c.in_err-v.ensures near.place.v are.v_is in search rules

pub returns-in_err-tolerance : goal.returns-in_err-tolerance
returns-in_err-tolerance c =
    let none : (near : Near) → AreNearWords c.args.target.now c.args.hz.now c.args.v.now c.args.tolerance.now (option_copied c.args.words) near → ⊥ =
    λ near are. c.in_err-tolerance.ensures near.tolerance are.tolerance_is in search rules

pub returns-in_err-range : goal.returns-in_err-range
returns-in_err-range c =
    let none : (near : Near) → AreNearWords c.args.target.now c.args.hz.now c.args.v.now c.args.tolerance.now (option_copied c.args.words) near → ⊥ =
    λ near are. c.in_err-range.ensures near.range are.range_is in search rules

pub returns-then-not-is_place : goal.returns-then-not-is_place
returns-then-not-is_place c near are =
    let isnt : is_place (record { hz = c.in_ok-hz.hz; v = c.in_ok-v.v }) ≡ false = search rules in
    no_place c.args.target.now c.args.hz.now c.args.v.now c.args.tolerance.now (option_copied c.args.words) near are c.in_ok-hz.hz c.in_ok-v.v
    c.in_ok-hz.ensures c.in_ok-v.ensures isnt

pub returns-then-not-is_tolerance : goal.returns-then-not-is_tolerance
returns-then-not-is_tolerance c near are =
    let isnt : is_tolerance c.in_ok-tolerance.tolerance ≡ false = search rules in
    no_tolerance c.args.target.now c.args.hz.now c.args.v.now c.args.tolerance.now (option_copied c.args.words) near are c.in_ok-tolerance.tolerance c.in_ok-tolerance.ensures isnt

pub returns : goal.returns
returns c =
    record {
      target_is = c.in_ok-target.ensures;
      hz_is = c.in_ok-hz.ensures;
      v_is = c.in_ok-v.ensures;
      tolerance_is = c.in_ok-tolerance.ensures;
      place_is = search rules;
      tolerance_in = search rules;
      range_is = c.in_ok-range.ensures;
    }
