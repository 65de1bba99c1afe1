-- Ids, this project's own: one digit for each request that waits, going round at the number of ids.
use Rattle.std.specs.Prelude.{◌≡◌, ℕ, ◌+◌, ◌-◌, ◌%◌, ◌<◌, ◌≤◌, ◌↔◌, true, List, length, Some}
use Rattle.gc_lines.specs.Prelude.{ReplyFields, IsReply}
use Rattle.gc_client.specs.declared.window.TheConstants.{WINDOW, IDS}
use Rattle.gc_client.specs.Rule.{ById, fits, heard, place_in}

-- the id of the request at place k, where `waiting` requests wait and `next` is the next id
abbrev pub id_at_place : (next waiting k : ℕ) → ℕ
id_at_place next waiting k = (next + IDS - waiting + k) % IDS

-- the id of the request at place k
abbrev pub id_of : {Q : Type 0} → ById Q → (k : ℕ) → ℕ
id_of c k = id_at_place c.next (length c.waiting) k

-- what holds of what every client stores: the next id is below 8, and at most seven requests wait
pub record IsWithinLimits {Q : Type 0} (c : ById Q) : Type 0 where
  pub digit : c.next < IDS
  pub few : length c.waiting ≤ WINDOW

-- a request with this id waits
abbrev pub Waits : {Q : Type 0} → ById Q → (id : ℕ) → Type 0
Waits c id = (k : ℕ) × (k < length c.waiting) × (id_of c k ≡ id)

-- after a send the new request, at the last place, has the id that was next, and each other request has the id that it had.
-- `next` and `waiting` are the next id and the number of requests that wait, before the send
pub record SendKeepsIds (next waiting : ℕ) : Type 0 where
  pub own : id_at_place ((next + 1) % IDS) (waiting + 1) waiting ≡ next
  pub others : (k : ℕ) → k < waiting → id_at_place ((next + 1) % IDS) (waiting + 1) k ≡ id_at_place next waiting k

-- once the first `count` of `waiting` requests are settled, each other one has the id that it had, at a place nearer the front by
-- `count`
abbrev pub SettlingKeepsIds : (next waiting : ℕ) → Type 0
SettlingKeepsIds next waiting = (count k : ℕ) → count + k < waiting → id_at_place next (waiting - count) k ≡ id_at_place next waiting (count + k)

-- the client takes an id from a line exactly if the line is a reply with that id, by the grammar
pub record HearsByGrammar (line : List ℕ) : Type 0 where
  pub its : (reply : ReplyFields) → IsReply line reply → heard line ≡ reply.id
  pub only : (id : ℕ) → heard line ≡ Some id → (reply : ReplyFields) × IsReply line reply × (reply.id ≡ Some id)

-- requests that wait at different places of a client that is within its limits (`IsWithinLimits`) have different ids
abbrev pub IdsDiffer : {Q : Type 0} → ById Q → Type 0
IdsDiffer c = (j k : ℕ) → IsWithinLimits c → j < length c.waiting → k < length c.waiting → id_of c j ≡ id_of c k → j ≡ k

-- the id of each request that waits in a client within its limits leads back to its place: `place_in` gives that place
abbrev pub IdsHavePlaces : {Q : Type 0} → ById Q → Type 0
IdsHavePlaces c = (k : ℕ) → IsWithinLimits c → k < length c.waiting → place_in c (id_of c k) ≡ k

-- a reply with an id below 8 fits a client within its limits exactly if a request waits with that id
abbrev pub FitsWaiting : {Q : Type 0} → ById Q → Type 0
FitsWaiting c = (id : ℕ) → IsWithinLimits c → id < IDS → (fits c (Some id) ≡ true) ↔ Waits c id
