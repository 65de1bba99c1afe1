-- The acts of a station's link are done by its calls of the system.
use Rattle.gc_links.proofs.Common.{◌≡◌, List, subst, refl, ∥∥₁_elim, ∥∥₁_map, ∥∥₁_prop, Peer, Act, Call, PlaceSeen, AreMeantAt, AreMeantOnTcp, place_seen, place_in, acts_in, calls_in, SignalsSeen, signals_at}
use Rattle.gc_links.specs.declared.placed.PlacedLink.{PlacedLink}
use Rattle.gc_links.specs.declared.placed.PlacedLink.TheVariants.{Tcp, Device}
use Rattle.gc_links.specs.declared.watched.Watched.{Watched}
use Rattle.gc_links.specs.LinksMeant.{IsMeant, IsMeantAt, place_of_link}
use Rattle.gc_links.specs.TcpLinks.{peer_place}
use Rattle.gc_links.specs.declared.connection.Peer.TheVariants as peer

-- over TCP, for either kind of peer
on_tcp : (to : Peer) (acts : List Act) (calls : List Call) → AreMeantOnTcp (place_seen (peer_place to)) acts calls → AreMeantAt (place_seen (peer_place to)) acts calls
on_tcp (peer.Port port) acts calls are = are
on_tcp (peer.Host name) acts calls are = are

-- the acts of a link to a place are done by its calls
placed_meant : {R : Type 0} (p : PlacedLink R) → ∥ AreMeantAt (place_in p) (acts_in p) (calls_in p) ∥₁
placed_meant (Tcp link) =
    ∥∥₁_map link.meant (λ are. on_tcp link.peer link.history.acts link.system.calls.made
    (record { peer = link.peer; leads = refl; start = _; now = _; are = are }))
placed_meant (Device link) = ∥∥₁_map link.meant (λ are. record { start = _; now = _; are = are })

-- the same of a station's link
pub link_meant : {R : Type 0} (w : Watched R) → ∥ IsMeant w ∥₁
link_meant w =
    ∥∥₁_elim (placed_meant w.link) ∥∥₁_prop (λ meant. ∥∥₁_map w.seen (λ seen. record { inner = acts_in w.link; meant = meant; seen = seen }))

-- the same, at the place and with the signals that are asked for, where the link is for these
pub link_meant_at : {R : Type 0} (w : Watched R) (where_to : PlaceSeen) (signals : SignalsSeen)
    → (place_of_link w ≡ where_to) × (signals_at w.signals ≡ signals) → ∥ IsMeantAt where_to signals w ∥₁
link_meant_at w where_to signals is =
    subst (λ u. ∥ IsMeantAt where_to u w ∥₁) is.1 (subst (λ p. ∥ IsMeantAt p (signals_at w.signals) w ∥₁) is.0 (link_meant w))
