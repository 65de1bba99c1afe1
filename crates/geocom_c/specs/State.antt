-- What the bytes of a state stand for: a client, the bytes since the last line feed, and how far its synchronization came. This
-- project's own.
use Rattle.geocom_c.specs.Common.{RequestFields, IsRequest, Asked, IsAsked, the_word, Windowed, IsWidth, Pending, IDS}
use Rattle.std.specs.Prelude.{◌≡◌, ℕ, ◌<◌, ◌≤◌, List, length, take, drop, if◌then◌else◌, Option, Some, None}
use Rattle.geocom_c.specs.FirstAre.{FirstAre}
use Rattle.geocom_c.specs.Rest.{IsRest}
use Rattle.geocom_c.specs.declared.state.GeocomWaiting.{GeocomWaiting}
use Rattle.geocom_c.specs.declared.state.GeocomClient.{GeocomClient}

-- a request line without an id, which asks for this: for a call where its number is in the table, else for the procedure with
-- its parameters as they are
pub record IsLineOf (line : List ℕ) (asked : Asked) : Type 0 where
  pub fields : RequestFields
  pub is_request : IsRequest line fields
  pub no_id : fields.id ≡ None
  pub is_asked : IsAsked fields.rpc fields.params asked

-- the bytes of a place are those of this request
pub record HoldsRequest (w : GeocomWaiting) (p : Pending Asked) : Type 0 where
  pub target : w.target ≡ p.target
  pub deadline : w.deadline ≡ p.deadline
  pub given_up : w.given_up ≡ (if p.given_up then 1 else 0)
  pub within : w.length ≤ 512
  pub line : IsLineOf (take w.length w.line) p.call

-- the first of these places have the bytes of these requests, in order
abbrev pub HoldRequests : (places : List GeocomWaiting) → (requests : List (Pending Asked)) → Type 0
HoldRequests places requests = FirstAre HoldsRequest places requests

-- the numbers of a state can be a client's: the width, the next id, how many requests are outstanding, and how many null
-- procedures are answered
pub record HasClientNumbers (s : GeocomClient) : Type 0 where
  pub width : IsWidth s.width
  pub next : s.next < IDS
  pub few : s.waiting ≤ s.width
  pub answered : s.answered ≤ 8

-- the ids of the synchronization's null procedures that aren't answered
abbrev pub left_of : GeocomClient → List ℕ
left_of s = drop s.answered the_word

-- the bytes of a state are those of this client, and the bytes `rest` came since the last line feed
pub record StandsForClient (s : GeocomClient) (c : Windowed Asked) (rest : List ℕ) : Type 0 where
  pub width : s.width ≡ c.width
  pub next : s.next ≡ c.ids.next
  pub waiting : s.waiting ≡ length c.ids.waiting
  pub head : HasClientNumbers s
  pub places : HoldRequests s.places c.ids.waiting
  pub incomplete : IsRest s.rest rest

-- if the bytes of a state are some client's, `claim` holds of that client and of the bytes since the last line feed
abbrev pub IfOfClient : GeocomClient → (claim : (c : Windowed Asked) → (rest : List ℕ) → Type 0) → Type 0
IfOfClient s claim = (c : Windowed Asked) (rest : List ℕ) → StandsForClient s c rest → claim c rest

-- the bytes of a state are no client's
abbrev pub IsOfNoClient : GeocomClient → Type 0
IsOfNoClient s = IfOfClient s (λ c rest. ⊥)

-- the bytes of a state are some client's
abbrev pub IsOfClient : GeocomClient → Type 0
IsOfClient s = (c : Windowed Asked) × (rest : List ℕ) × StandsForClient s c rest

-- the synchronization has come as far in the state `new` as in `old`
abbrev pub KeepsAnswered : (old new : GeocomClient) → Type 0
KeepsAnswered old new = new.answered ≡ old.answered

-- no part of a promise: if the state `old` has a valid rest of a line and a valid count of answered null procedures, the state
-- `new` stands for the client `c`, with that rest
abbrev pub StoresClient : (old new : GeocomClient) → (c : Windowed Asked) → Type 0
StoresClient old new c = (rest : List ℕ) → IsRest old.rest rest → old.answered ≤ 8 → StandsForClient new c rest

-- no part of a promise: any `count` requests that `places` hold, at their front, are what was read (`found`)
abbrev pub IsOnlyReading : (places : List GeocomWaiting) → (count : ℕ) → (found : Option (List (Pending Asked))) → Type 0
IsOnlyReading places count found = (ps : List (Pending Asked)) → length ps ≡ count → HoldRequests places ps → found ≡ Some ps
