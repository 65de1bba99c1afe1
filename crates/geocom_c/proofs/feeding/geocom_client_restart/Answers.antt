use Rattle.geocom_c.proofs.Common.{◌≡◌, ◌∙◌, List, [], length, map, sym, ap, subst, arith, length-map, Asked, Settlement, Windowed, restarts, settlement_seen, FirstAre, HasRestarted, StandsForClient, IsRecord, NO_CLIENT, same_Some}
use Rattle.geocom_c.proofs.feeding.geocom_client_restart.Goals as goal

pub returns-in_default-clause-restarted : goal.returns-in_default-clause-restarted
returns-in_default-clause-restarted c = λ room c' rest s. absurd (c.in_default.not-Some c' (c.load.ensures.only c' rest s))

pub returns-in_default-clause-astray : goal.returns-in_default-clause-astray
returns-in_default-clause-astray c = (λ _. (c.if-settlements-lt-WINDOW.false, c.load.ensures.none c.in_default.is), λ _. c.refused-in_default.ensures.fault)

pub returns-clause-restarted : goal.returns-clause-restarted
returns-clause-restarted c = λ room c' rest s.
    let ids = c.in-Some.client.ids in
    let are = c.restart-settled.ensures.settled.seen in
    let seen : map settlement_seen c.as_slice.result.now ≡ (restarts ids).settlements = ap (map settlement_seen) c.as_slice.ensures.value ∙ are in
    let n : c.counted.result.count ≡ length (restarts ids).settlements =
    omega (arith, c.counted.ensures.count, c.len.ensures.value, ap length are, length-map c.restart-settled.result.items settlement_seen) in
    let stands = subst (λ (d : Windowed Asked). StandsForClient c.store.new.state d []) c.restart-settled.ensures.client
    (c.store.ensures.client [] c.new-state.ensures c.answered_after_restart-state.ensures.within) in
    let told = subst (λ (ss : List (Settlement Asked)). FirstAre (IsRecord []) c.put_lost.new.records ss) seen c.put_lost.ensures.records in
    subst (λ (d : Windowed Asked). HasRestarted d c.store.new.state c.counted.result c.put_lost.new.records)
    (same_Some c.in-Some.client c' (sym c.in-Some.is ∙ c.load.ensures.only c' rest s))
    (record { fault = c.counted.ensures.fault; stands = stands; count = n; recorded = told })

pub returns-clause-astray : goal.returns-clause-astray
returns-clause-astray c = (λ e. let zero : 0 ≡ NO_CLIENT = sym c.counted.ensures.fault ∙ e in cc, λ both. absurd (both.1 _ _ c.in-Some.ensures.found))
