use Rattle.geocom_c.proofs.Common.{ℕ, Some, sym, subst, asked_line, Windowed, Asked, StandsForClient, Effect, SendMeets, GeocomClient}
use Rattle.geocom_c.proofs.Clients.{given_if_equal, same_width}
use Rattle.geocom_c.proofs.sends.send_asked.Goals as goal

pub returns-in-Ok-clause-sent : goal.returns-in-Ok-clause-sent
returns-in-Ok-clause-sent c = λ rest is part.
    let rule = c.in-Ok.ensures.rule in
    let old = c.args.client in
    let new = c.send.new.self in
    let after = c.put_line.new.room in
    let stands = subst (λ (d : Windowed Asked). StandsForClient c.store.new.state d rest) (same_width old new c.send.ensures.width) (c.store.ensures.client rest is part) in
    let given = given_if_equal _ (asked_line (Some old.ids.next) c.args.asked) _ c.counted.result.count after rule.1 c.counted.ensures.count c.put_line.ensures.given in
    let sent : Effect GeocomClient ℕ = record { old = c.args.state.now; new = c.store.new.state; before = c.args.line.now; after = after; told = c.counted.result } in
    subst (λ o. SendMeets old rest c.args.asked o sent) (sym rule.0) (c.counted.ensures.fault, stands, given)
