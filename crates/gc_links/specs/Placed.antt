-- What is known of a link to a place, whichever that is: this project's own.
use Rattle.std.specs.Prelude.{◌≡◌, ℕ, List, [], ◌∷◌, Option, None}
use Rattle.gc_links.specs.Acts.{Act}
use Rattle.gc_links.specs.Calls.{End, Call, Monotonic}
use Rattle.gc_links.specs.DoesOnDevice.{AreMeantOnDevice}
use Rattle.gc_links.specs.DoesOnTcp.{DoesOnTcp}
use Rattle.gc_links.specs.Holds.{Hold}
use Rattle.gc_links.specs.Meant.{AreMeant}
use Rattle.gc_links.specs.TcpLinks.{peer_place, tcp_place}
use Rattle.gc_links.specs.declared.connection.Peer.{Peer}
use Rattle.gc_links.specs.declared.place.Place.{Place}
use Rattle.gc_links.specs.declared.placed.PlacedLink.{PlacedLink}
use Rattle.gc_links.specs.declared.placed.PlacedLink.TheVariants.{Tcp, Device}
use Rattle.gc_links.specs.declared.place.Place.TheVariants as place

-- a place by its number or its text: a port of 127.0.0.1, a host with its port, or the path of a device
pub data PlaceSeen : Type 0 where
  AtPort : (port : ℕ) → PlaceSeen
  AtHost : (name : List ℕ) → PlaceSeen
  AtPath : (path : List ℕ) → PlaceSeen

-- a place, so seen
abbrev pub place_seen : Place → PlaceSeen
place_seen (place.Port port) = AtPort port
place_seen (place.Host name) = AtHost name.now
place_seen (place.Device path) = AtPath path.now

-- the place that a link leads to
abbrev pub place_in : {R : Type 0} → PlacedLink R → PlaceSeen
place_in (Tcp link) = place_seen (tcp_place link)
place_in (Device link) = AtPath link.path.now

-- the acts of a link so far
abbrev pub acts_in : {R : Type 0} → PlacedLink R → List Act
acts_in (Tcp link) = link.history.acts
acts_in (Device link) = link.history.acts

-- the calls that a link has made of the system so far
abbrev pub calls_in : {R : Type 0} → PlacedLink R → List Call
calls_in (Tcp link) = link.system.calls.made
calls_in (Device link) = link.system.calls.made

-- these are the calls of a link over TCP to the peer at this place, and they did these acts (`DoesOnTcp`)
pub record AreMeantOnTcp (where_to : PlaceSeen) (acts : List Act) (calls : List Call) : Type 0 where
  pub peer : Peer
  pub leads : place_seen (peer_place peer) ≡ where_to
  pub start : ℕ
  pub now : Option End
  pub are : AreMeant (DoesOnTcp peer start) (Monotonic start ∷ []) None acts calls now

-- these are the calls of a link to the device at this path, and they did these acts (`DoesOnDevice`)
pub record AreMeantAtPath (path : List ℕ) (acts : List Act) (calls : List Call) : Type 0 where
  pub start : ℕ
  pub now : Hold
  pub are : AreMeantOnDevice path start acts calls now

-- these are the calls of a link to this place, and they did these acts, each by its own calls, in order
abbrev pub AreMeantAt : PlaceSeen → (acts : List Act) → (calls : List Call) → Type 0
AreMeantAt (AtPort port) acts calls = AreMeantOnTcp (AtPort port) acts calls
AreMeantAt (AtHost name) acts calls = AreMeantOnTcp (AtHost name) acts calls
AreMeantAt (AtPath path) acts calls = AreMeantAtPath path acts calls
