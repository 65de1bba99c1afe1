use Rattle.geocom_c.proofs.Common.{◌≡◌, ◌+◌, ◌∙◌, ◌∷◌, List, suc, drop, refl, sym, ap, subst, arith, drop_all, drop_next, CallsReach, first_stage, StateCall}
use Rattle.geocom_c.proofs.Courses.{calls_account_for_sends}
use Rattle.geocom_c.proofs.following.follow.Goals as goal

pub loop-k-init : goal.loop-k-init
loop-k-init c = λ iw. record { stage = first_stage; at = record { stands = (c.geocom_client_init.ensures.made iw).1; left = c.geocom_client_init.ensures.begins iw }; on = λ t f. f }

pub loop-k-preserved : goal.loop-k-preserved
loop-k-preserved c = λ iw.
    let f = c.loop-k.invariant iw in
    let calls = c.args.calls.now in
    let k = c.loop-k.k in
    let next : suc k ≡ k + 1 = omega arith in
    let turn = drop_next calls k c.call_at.result c.call_at.ensures ∙ ap (λ m. c.call_at.result ∷ drop m calls) next in
    let g = c.make_call.ensures c.args.width f.stage (drop (k + 1) calls) f.at in
    record { stage = g.stage; at = g.at; on = λ t h. f.on t (subst (λ (cs : List StateCall). CallsReach c.args.width f.stage cs t) (sym turn) (g.on t h)) }

pub returns : goal.returns
returns c = λ iw.
    let f = c.loop-k.invariant iw in
    let none = drop_all c.loop-k.k c.args.calls.now c.loop-k-test.false in
    let follows = f.on f.stage (subst (λ (cs : List StateCall). CallsReach c.args.width f.stage cs f.stage) (sym none) refl) in
    (f.stage, follows, f.at, calls_account_for_sends c.args.width c.args.calls.now f.stage follows)
