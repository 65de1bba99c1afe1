use Rattle.gc_texts.proofs.Common.{rules, ◌≡◌, false, is_tolerance, AreAgreeWords, is_length, Agree}
use Rattle.gc_texts.proofs.AgreeForms.{no_hz, no_v, no_distance}
use Rattle.gc_texts.proofs.agree.read_agree_words.Goals as goal

pub returns-in_err-hz : goal.returns-in_err-hz
returns-in_err-hz c =
    let none : (agree : Agree) → AreAgreeWords c.args.hz.now c.args.v.now c.args.distance.now agree → ⊥ =
    λ agree are. c.in_err-hz.ensures agree.hz are.hz_is in search rules

pub returns-in_err-v : goal.returns-in_err-v
returns-in_err-v c =
    let none : (agree : Agree) → AreAgreeWords c.args.hz.now c.args.v.now c.args.distance.now agree → ⊥ =
    λ agree are. c.in_err-v.ensures agree.v are.v_is in search rules

pub returns-in_err-distance : goal.returns-in_err-distance
returns-in_err-distance c =
    let none : (agree : Agree) → AreAgreeWords c.args.hz.now c.args.v.now c.args.distance.now agree → ⊥ =
    λ agree are. c.in_err-distance.ensures agree.distance are.distance_is in search rules

pub returns-then-not-is_tolerance : goal.returns-then-not-is_tolerance
returns-then-not-is_tolerance c agree are =
    let isnt : is_tolerance c.in_ok-hz.hz ≡ false = search rules in
    no_hz c.args.hz.now c.args.v.now c.args.distance.now agree are c.in_ok-hz.hz c.in_ok-hz.ensures isnt

pub returns-then-not-is_tolerance-2 : goal.returns-then-not-is_tolerance-2
returns-then-not-is_tolerance-2 c agree are =
    let isnt : is_tolerance c.in_ok-v.v ≡ false = search rules in
    no_v c.args.hz.now c.args.v.now c.args.distance.now agree are c.in_ok-v.v c.in_ok-v.ensures isnt

pub returns-then-not-is_length : goal.returns-then-not-is_length
returns-then-not-is_length c agree are =
    let isnt : is_length c.in_ok-distance.distance ≡ false = search rules in
    no_distance c.args.hz.now c.args.v.now c.args.distance.now agree are c.in_ok-distance.distance c.in_ok-distance.ensures isnt
