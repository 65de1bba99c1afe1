use Rattle.gc_links.proofs.Common.{[], ◌∷◌, sym, subst, refl, host_addrs, Found, Seeks}
use Rattle.gc_links.proofs.Connecting.{at_port, by_name}
use Rattle.gc_links.proofs.connection.connect.Goals as goal

pub returns-in-Port : goal.returns-in-Port
returns-in-Port g c =
    at_port c.args.peer c.here.result c.connect.result
    (subst (λ peer. Seeks peer (c.here.result ∷ []) []) (sym c.in-Port.is)
    (record { address = c.here.result; is_here = c.here.ensures; only = refl; no_calls = refl }))
    c.connect.ensures.there c.connect.ensures.tells

pub returns-in-Ok : goal.returns-in-Ok
returns-in-Ok g c =
    let addresses = host_addrs c.in-Ok.addresses in
    let call = Found c.in-Host.name.now addresses in
    by_name c.args.peer addresses call c.connect_first.result
    (subst (λ peer. Seeks peer addresses (call ∷ [])) (sym c.in-Host.is) refl) c.in-Ok.ensures c.connect_first.ensures
