use Rattle.geocom_c.proofs.Common.{rules, ◌≡◌, ◌∙◌, sym, subst, length, take, Asked, Windowed, expiring, StandsForClient, NO_CLIENT, same_Some}
use Rattle.geocom_c.specs.Deadlines.{HasExpired}
use Rattle.geocom_c.proofs.calls.geocom_client_expire.Goals as goal

pub returns-in_default-clause-expired : goal.returns-in_default-clause-expired
returns-in_default-clause-expired c = λ room c' rest s. absurd (c.in_default.not-Some c' (c.load.ensures.only c' rest s))

pub returns-in_default-clause-astray : goal.returns-in_default-clause-astray
returns-in_default-clause-astray c = (λ _. (c.if-targets-lt-WINDOW.false, c.load.ensures.none c.in_default.is), λ _. c.refused-in_default.ensures.fault)

pub returns-clause-expired : goal.returns-clause-expired
returns-clause-expired c = λ room c' rest s.
    let now = c.args.now in
    let due = c.expire-due.ensures.targets in
    let n : c.counted.result.count ≡ length (expiring now c.in-Some.client.ids.waiting) = search rules in
    let text : take c.counted.result.count c.put_targets.new.targets ≡ expiring now c.in-Some.client.ids.waiting = search rules in
    let stands = subst (λ (d : Windowed Asked). StandsForClient c.store.new.state d rest) c.expire-due.ensures.client (c.store.ensures.client rest s.incomplete s.head.answered) in
    subst (λ (d : Windowed Asked). HasExpired d rest now c.store.new.state c.counted.result c.put_targets.new.targets)
    (same_Some c.in-Some.client c' (sym c.in-Some.is ∙ c.load.ensures.only c' rest s))
    (record { fault = c.counted.ensures.fault; stands = stands; count = n; front = text })

pub returns-clause-astray : goal.returns-clause-astray
returns-clause-astray c = (λ e. let zero : 0 ≡ NO_CLIENT = sym c.counted.ensures.fault ∙ e in cc, λ both. absurd (both.1 _ _ c.in-Some.ensures.found))
