-- What is seen of a link over TCP: this project's own.
use Rattle.std.specs.Prelude.{◌≡◌, [], Result, IfOk}
use Rattle.gc_links.specs.declared.connection.Peer.{Peer}
use Rattle.gc_links.specs.declared.place.Place.{Place}
use Rattle.gc_links.specs.declared.tcp.TcpLink.{TcpLink}
use Rattle.gc_links.specs.declared.connection.Peer.TheVariants as peer
use Rattle.gc_links.specs.declared.place.Place.TheVariants as place

-- where a peer is
abbrev pub peer_place : Peer → Place
peer_place (peer.Port port) = place.Port port
peer_place (peer.Host word) = place.Host word

-- where the peer of a link is
abbrev pub tcp_place : {R : Type 0} → TcpLink R → Place
tcp_place link = peer_place link.peer

-- where a link was made, it leads to this place, and none of its calls was made yet
pub record IsNewTcpLink {R : Type 0} (place : Place) (link : TcpLink R) : Type 0 where
  pub leads_to : tcp_place link ≡ place
  pub no_acts : link.history.acts ≡ []

-- a link that could be made leads to this place, and none of its calls was made yet
abbrev pub MakesTcpLink : {R E : Type 0} → Place → Result (TcpLink R) E → Type 0
MakesTcpLink place result = IfOk result (λ link. IsNewTcpLink place link)
