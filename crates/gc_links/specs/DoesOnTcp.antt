-- What the system's calls of each act of a link over TCP are: this project's own.
use Rattle.std.specs.Prelude.{◌≡◌, ℕ, List, [], ◌∷◌, ◌++◌, Option, Some, None}
use Rattle.std.specs.declared.net.socket_addr.SocketAddr.{SocketAddr}
use Rattle.gc_links.specs.declared.connection.Peer.{Peer}
use Rattle.gc_links.specs.Acts.{Act, Closed, Opened, Unopened}
use Rattle.gc_links.specs.Calls.{End, Address, Call, Dropped}
use Rattle.gc_links.specs.Connecting.{Reaches, ReachesNone}
use Rattle.gc_links.specs.Does.{DoesOver}

-- the connection that is open, if one is, was dropped
abbrev pub drops : (over : Option End) → List Call
drops None = []
drops (Some end) = Dropped end ∷ []

-- these calls made a new connection to a peer, and dropped the old one, if one was open
pub record Opens (peer : Peer) (before : Option End) (calls : List Call) (after : Option End) : Type 0 where
  pub address : SocketAddr
  pub making : List Call
  pub reaches : Reaches peer address making
  pub calls_are : calls ≡ making ++ drops before
  pub after_is : after ≡ Some (Address address)

-- no new connection to a peer was made; or the one that was made couldn't be told how long a write may wait, and was dropped
pub data OpensNone (peer : Peer) (calls : List Call) : Type 0 where
  unreached : ReachesNone peer calls → OpensNone peer calls
  dropped : (address : SocketAddr) → (making : List Call) → Reaches peer address making
      → calls ≡ making ++ Dropped (Address address) ∷ [] → OpensNone peer calls

-- these calls did this act of a link to a peer, which was made when the monotonic clock was read as `start`. `before` and `after`
-- are the far ends of the connections that are open before and after it, if one is
abbrev pub DoesOnTcp : (peer : Peer) (start : ℕ) (before : Option End) → Act → List Call → (after : Option End) → Type 0
DoesOnTcp peer start before Closed calls after = (calls ≡ drops before) × (after ≡ None)
DoesOnTcp peer start before Opened calls after = Opens peer before calls after
DoesOnTcp peer start before Unopened calls after = (after ≡ before) × OpensNone peer calls
DoesOnTcp peer start before act calls after = (after ≡ before) × DoesOver start before act calls
