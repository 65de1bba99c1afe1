-- The client's rule, this project's own: what a send, a reply, an expiry and a restart do to the next id and to the
-- requests that wait. A settlement is the end of a request here, and no movement of ground.
use Rattle.std.specs.Prelude.{◌≡◌, ◌≤◌, All, ℕ, zero, suc, ◌+◌, ◌-◌, ◌%◌, Bool, true, false, ◌||◌, ◌&&◌, not, List, [], ◌∷◌, ◌++◌, length, map, filter, drop, Option, Some, None, Result, Ok, Err, if◌then◌else◌, nat_lt, nat_le, nat_eq}
use Rattle.std.specs.List.{Contains}
use Rattle.gc_lines.specs.declared.fault.LineFault.{LineFault}
use Rattle.gc_lines.specs.Prelude.{ReplyFields, reply_at}
use Rattle.gc_client.specs.declared.window.TheConstants.{WINDOW, IDS}
use Rattle.gc_client.specs.declared.pending.Pending.{Pending}

-- how a request ended: by a reply line, given as its bytes, that came before the request had timed out; by one that came after
-- that; or without a reply
pub data Outcome : Type 0 where
  Answered : (line : List ℕ) → Outcome
  Late : Outcome
  Lost : Outcome

-- the end of one request
pub record Settlement (Q : Type 0) : Type 0 where
  pub target : ℕ
  pub call : Q
  pub outcome : Outcome

-- what a client stores: the next id, and the requests that wait, oldest first
pub record ById (Q : Type 0) : Type 0 where
  pub next : ℕ
  pub waiting : List (Pending Q)

-- a client as its caller sees it: how many requests it lets wait, which never changes, and what it stores
pub record Windowed (Q : Type 0) : Type 0 where
  pub width : ℕ
  pub ids : ById Q

-- a send that was not refused: the id that its request line was written with, and the client after it
pub record Sending (Client : Type 0) : Type 0 where
  pub id : ℕ
  pub client : Client

-- what a line or a restart settles, in order, and the client after it
pub record Settled (Q Client : Type 0) : Type 0 where
  pub settlements : List (Settlement Q)
  pub client : Client

-- a client at its start: the first id is 0, and no request waits
abbrev pub fresh : {Q : Type 0} → ById Q
fresh = record { next = 0; waiting = [] }

-- a window may be this wide: it lets one request wait at least, and at most one fewer than there are ids
abbrev pub IsWidth : ℕ → Type 0
IsWidth width = (1 ≤ width) × (width ≤ WINDOW)

-- Pendings.

-- a request that has just been sent, with this target, call and deadline
abbrev pub pending_of : {Q : Type 0} → (target : ℕ) → Q → (deadline : ℕ) → Pending Q
pending_of target call deadline = record { target = target; call = call; deadline = deadline; given_up = false }

-- the request as it is after this moment: timed out if it had timed out before, or if its deadline is at most this moment
abbrev pub expired : {Q : Type 0} → (now : ℕ) → Pending Q → Pending Q
expired now p = record p { given_up = p.given_up || nat_le p.deadline now }

-- whether a request times out now: it hasn't timed out before, and its deadline is at most this moment
abbrev pub is_expiring : {Q : Type 0} → (now : ℕ) → Pending Q → Bool
is_expiring now p = nat_le p.deadline now && not p.given_up

-- the targets of the requests that time out now (`is_expiring`), in order
abbrev pub expiring : {Q : Type 0} → (now : ℕ) → List (Pending Q) → List ℕ
expiring now ps = map (λ p. p.target) (filter (is_expiring now) ps)

-- the deadlines of the requests that haven't timed out, in order
abbrev pub deadlines : {Q : Type 0} → List (Pending Q) → List ℕ
deadlines ps = map (λ p. p.deadline) (filter (λ p. not p.given_up) ps)

-- this is the earliest of the moments `ds`: none if there are none, else the least
abbrev pub IsEarliest : List ℕ → Option ℕ → Type 0
IsEarliest ds None = ds ≡ []
IsEarliest ds (Some d) = Contains ds d × All (λ e. d ≤ e) ds

-- the requests, with the one at place k, if there is one, marked as timed out
abbrev pub given_up_at : {Q : Type 0} → (k : ℕ) → List (Pending Q) → List (Pending Q)
given_up_at k [] = []
given_up_at zero (p ∷ ps) = record p { given_up = true } ∷ ps
given_up_at (suc k) (p ∷ ps) = p ∷ given_up_at k ps

-- Settlements.

-- the settlement of a request as lost
abbrev pub lost : {Q : Type 0} → Pending Q → Settlement Q
lost p = record { target = p.target; call = p.call; outcome = Lost }

-- the settlement of a request by this reply line: late if the request had timed out, else answered
abbrev pub settled_by_line : {Q : Type 0} → Pending Q → (line : List ℕ) → Settlement Q
settled_by_line p line = record { target = p.target; call = p.call; outcome = if p.given_up then Late else Answered line }

-- the settlements of the first k of these requests as lost, and of the next one by this reply line; if there are k or fewer, of
-- all of them as lost
abbrev pub settle : {Q : Type 0} → (k : ℕ) → (line : List ℕ) → List (Pending Q) → List (Settlement Q)
settle k line [] = []
settle zero line (p ∷ ps) = settled_by_line p line ∷ []
settle (suc k) line (p ∷ ps) = lost p ∷ settle k line ps

-- Ids.

-- how far an id lies after the id of the oldest of `waiting` requests, or after the next id if none waits, going round at the
-- number of ids; `next` is the next id
abbrev pub place : (next waiting id : ℕ) → ℕ
place next waiting id = (id + IDS - (next + IDS - waiting) % IDS) % IDS

-- how far an id lies after that of the client's oldest request, or after the next id if none waits: the place of the request with
-- this id, if one waits
abbrev pub place_in : {Q : Type 0} → ById Q → (id : ℕ) → ℕ
place_in c id = place c.next (length c.waiting) id

-- whether a request waits with this id, which is from 0 to 7 as in every reply (a greater one would count as its remainder by 8).
-- A reply without an id (`None`) fits no request
abbrev pub fits : {Q : Type 0} → ById Q → Option ℕ → Bool
fits c None = false
fits c (Some id) = nat_lt (place_in c id) (length c.waiting)

-- the id of a line by what it reads as: that of the reply, if it has one; none if the line is no reply
abbrev pub id_in : Result ReplyFields LineFault → Option ℕ
id_in (Ok reply) = reply.id
id_in (Err fault) = None

-- the id of a line that reads as a reply with an id, else none; the law `ids_are_heard` says the same by the grammar of replies
abbrev pub heard : List ℕ → Option ℕ
heard line = id_in (reply_at line)

-- The rule.

-- what a send gives, by whether the window is full: if it is (true), none, which is a refusal, and else the request's id and the
-- client after the send
abbrev pub send_unless_full : {Q : Type 0} → ById Q → (target : ℕ) → Q → (deadline : ℕ) → (full : Bool) → Option (Sending (ById Q))
send_unless_full c target call deadline true = None
send_unless_full c target call deadline false =
    Some (record {
      id = c.next;
      client = record { next = (c.next + 1) % IDS; waiting = c.waiting ++ pending_of target call deadline ∷ [] };
    })

-- what a send gives (`send_unless_full`): the window is full if as many requests wait as it is wide
abbrev pub sends : {Q : Type 0} → (width : ℕ) → ById Q → (target : ℕ) → Q → (deadline : ℕ) → Option (Sending (ById Q))
sends width c target call deadline = send_unless_full c target call deadline (nat_eq (length c.waiting) width)

-- the rule accepts a send of this call to this target, with this deadline, and takes what the client stores (`ids`) from that in
-- `old` to that in `new`. `line` is the request line with the id that was next, where `line_of` gives the request line of a call,
-- with an id or without one. Nothing is said here of the width of `new`
abbrev pub IsAcceptedSend : {Q : Type 0} → (line_of : Option ℕ → Q → List ℕ) → (old : Windowed Q) → (target : ℕ) → Q → (deadline : ℕ)
    → (new : Windowed Q) → (line : List ℕ) → Type 0
IsAcceptedSend line_of old target call deadline new line =
    (sends old.width old.ids target call deadline ≡ Some (record { id = old.ids.next; client = new.ids }))
    × (line ≡ line_of (Some old.ids.next) call)

-- the rule refuses a send of this call to this target, with this deadline
abbrev pub IsRefusedSend : {Q : Type 0} → Windowed Q → (target : ℕ) → Q → (deadline : ℕ) → Type 0
IsRefusedSend old target call deadline = sends old.width old.ids target call deadline ≡ None

-- as many requests wait as the client's window is wide
abbrev pub IsFull : {Q : Type 0} → Windowed Q → Type 0
IsFull c = length c.ids.waiting ≡ c.width

-- nothing is settled, and the client is `c`
abbrev pub nothing_settled : {Q : Type 0} → ById Q → Settled Q (ById Q)
nothing_settled c = record { settlements = []; client = c }

-- what a reply line does, by the place k of its id. If a request waits at that place (true), it is settled by the line, and those
-- before it as lost. If none does (false), nothing changes
abbrev pub settles_at : {Q : Type 0} → ById Q → (line : List ℕ) → (k : ℕ) → (waits : Bool) → Settled Q (ById Q)
settles_at c line k false = nothing_settled c
settles_at c line k true = record {
  settlements = settle k line c.waiting;
  client = record { next = c.next; waiting = drop (k + 1) c.waiting };
}

-- what a line with this id settles, and the client after it; a line without an id settles nothing
abbrev pub hears : {Q : Type 0} → ById Q → (line : List ℕ) → (id : Option ℕ) → Settled Q (ById Q)
hears c line None = nothing_settled c
hears c line (Some id) = settles_at c line (place_in c id) (fits c (Some id))

-- what a line settles, by the id that is heard in it, and the client after it
abbrev pub hears_line : {Q : Type 0} → ById Q → (line : List ℕ) → Settled Q (ById Q)
hears_line c line = hears c line (heard line)

-- the client after this moment: each request whose deadline is at most the moment has timed out, and goes on waiting
abbrev pub expires : {Q : Type 0} → ById Q → (now : ℕ) → ById Q
expires c now = record { next = c.next; waiting = map (expired now) c.waiting }

-- what a restart settles, and the client after it: all requests that wait are lost, and the ids begin again at 0
abbrev pub restarts : {Q : Type 0} → ById Q → Settled Q (ById Q)
restarts c = record { settlements = map lost c.waiting; client = fresh }
