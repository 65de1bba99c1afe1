-- What the system's calls that connect to a peer are: this project's own.
use Rattle.std.specs.Prelude.{◌≡◌, ℕ, List, [], ◌∷◌, ◌++◌, map, Result, Ok, Err}
use Rattle.std.specs.declared.net.ipv4_addr.Ipv4Addr.{Ipv4Addr}
use Rattle.std.specs.declared.net.ip_addr.IpAddr.TheVariants.{V4}
use Rattle.std.specs.declared.net.socket_addr.SocketAddr.{SocketAddr}
use Rattle.std.specs.Net.Addr.{ipv4_octets}
use Rattle.std.specs.Net.Socket.{socket_ip, IsPlainSocket}
use Rattle.gc_links.specs.declared.connection.Peer.{Peer}
use Rattle.gc_links.specs.declared.connection.Peer.TheVariants.{Port, Host}
use Rattle.gc_links.specs.declared.system.sockets.Wired.{Wired}
use Rattle.gc_links.specs.Calls.{Address, Call, Found, NotFound, Reached, NotReached}

-- the address is this port of 127.0.0.1
pub record IsHere (port : ℕ) (address : SocketAddr) : Type 0 where
  pub ip : Ipv4Addr
  pub is_ip : socket_ip address ≡ V4 ip
  pub octets : ipv4_octets ip ≡ 127 ∷ 0 ∷ 0 ∷ 1 ∷ []
  pub plain : IsPlainSocket address port

-- the only address is this port of 127.0.0.1, which no call has to find
pub record IsAtPort (port : ℕ) (addresses : List SocketAddr) (calls : List Call) : Type 0 where
  pub address : SocketAddr
  pub is_here : IsHere port address
  pub only : addresses ≡ address ∷ []
  pub no_calls : calls ≡ []

-- these calls found the addresses of a peer: a port is one of 127.0.0.1, and a name was looked up
abbrev pub Seeks : Peer → (addresses : List SocketAddr) → (calls : List Call) → Type 0
Seeks (Port port) addresses calls = IsAtPort port addresses calls
Seeks (Host name) addresses calls = calls ≡ Found name.now addresses ∷ []

-- the name of a peer couldn't be looked up
abbrev pub SeeksInVain : Peer → (calls : List Call) → Type 0
SeeksInVain (Port port) calls = ⊥
SeeksInVain (Host name) calls = calls ≡ NotFound name.now ∷ []

-- no connection to this address could be made
abbrev pub not_reached : SocketAddr → Call
not_reached address = NotReached (Address address)

-- these calls tried these addresses in turn, and made a connection to this one, the first where that can be done
pub record ReachesFirst (addresses : List SocketAddr) (address : SocketAddr) (calls : List Call) : Type 0 where
  pub tried : List SocketAddr
  pub untried : List SocketAddr
  pub addresses_are : addresses ≡ tried ++ address ∷ untried
  pub calls_are : calls ≡ map not_reached tried ++ Reached (Address address) ∷ []

-- these calls found the addresses of a peer, and made a connection to this one, the first where that can be done
pub record Reaches (peer : Peer) (address : SocketAddr) (calls : List Call) : Type 0 where
  pub addresses : List SocketAddr
  pub looked : List Call
  pub reached : List Call
  pub seeks : Seeks peer addresses looked
  pub reaches : ReachesFirst addresses address reached
  pub calls_are : calls ≡ looked ++ reached

-- these calls tried to connect to a peer, and no connection could be made
pub data ReachesNone (peer : Peer) (calls : List Call) : Type 0 where
  in_vain : SeeksInVain peer calls → ReachesNone peer calls
  none : (addresses : List SocketAddr) → (looked : List Call) → Seeks peer addresses looked
      → calls ≡ looked ++ map not_reached addresses → ReachesNone peer calls

-- what the calls that try these addresses in turn are, by what came of it
abbrev pub ConnectsFirst : {E : Type 0} → (addresses : List SocketAddr) → Result Wired E → (calls : List Call) → Type 0
ConnectsFirst addresses (Ok wired) calls = ReachesFirst addresses wired.address calls
ConnectsFirst addresses (Err _) calls = calls ≡ map not_reached addresses

-- what the calls that connect to a peer are, by what came of it
abbrev pub Connects : {E : Type 0} → Peer → Result Wired E → (calls : List Call) → Type 0
Connects peer (Ok wired) calls = Reaches peer wired.address calls
Connects peer (Err _) calls = ReachesNone peer calls
