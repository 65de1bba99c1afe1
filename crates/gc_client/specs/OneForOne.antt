-- One for one, this project's own: whatever the origin of the lines, the requests that a client settled, and after them those
-- that wait, are the requests that were sent, in order, each once.
use Rattle.std.specs.Prelude.{◌≡◌, ℕ, List, [], ◌∷◌, ◌++◌, map, Option, Some, None}
use Rattle.gc_client.specs.declared.pending.Pending.{Pending}
use Rattle.gc_client.specs.Rule.{Settlement, Settled, Sending, ById, fresh, sends, hears_line, expires, restarts}

-- what a client is asked to do: a send, taking a line of any origin, timing out at a moment, or a restart
pub data Step (Q : Type 0) : Type 0 where
  Send : (target : ℕ) (call : Q) (deadline : ℕ) → Step Q
  Hear : (line : List ℕ) → Step Q
  Expire : (now : ℕ) → Step Q
  Restart : Step Q

-- a request without its deadline: whom it is for, and what it asks for
pub record Wanted (Q : Type 0) : Type 0 where
  pub target : ℕ
  pub call : Q

-- whom a settled request was for, and what it asked for
abbrev pub of_settled : {Q : Type 0} → Settlement Q → Wanted Q
of_settled s = record { target = s.target; call = s.call }

-- whom a request that waits is for, and what it asks for
abbrev pub of_pending : {Q : Type 0} → Pending Q → Wanted Q
of_pending p = record { target = p.target; call = p.call }

-- the course of a client so far: the sends that weren't refused, the settlements, and the client now
pub record Course (Q : Type 0) : Type 0 where
  pub sent : List (Wanted Q)
  pub settlements : List (Settlement Q)
  pub client : ById Q

-- the course of this client from now on: nothing was sent and nothing settled yet
abbrev pub course_at : {Q : Type 0} → ById Q → Course Q
course_at c = record { sent = []; settlements = []; client = c }

-- the course of a new client: nothing has happened
abbrev pub begun : {Q : Type 0} → Course Q
begun = course_at fresh

-- the course after a send of this call to this target, with this result; a refusal (`None`) changes nothing
abbrev pub sent_on : {Q : Type 0} → Course Q → (target : ℕ) → Q → Option (Sending (ById Q)) → Course Q
sent_on x target call None = x
sent_on x target call (Some s) = record {
  sent = x.sent ++ record { target = target; call = call } ∷ [];
  settlements = x.settlements;
  client = s.client;
}

-- the course after a line or a restart that settled this
abbrev pub settled_on : {Q : Type 0} → Course Q → Settled Q (ById Q) → Course Q
settled_on x s = record { sent = x.sent; settlements = x.settlements ++ s.settlements; client = s.client }

-- the course after one step, by the client's rule with a window of this width
abbrev pub course_after : {Q : Type 0} → (width : ℕ) → Course Q → Step Q → Course Q
course_after width x (Send target call deadline) = sent_on x target call (sends width x.client target call deadline)
course_after width x (Hear line) = settled_on x (hears_line x.client line)
course_after width x (Expire now) = record { sent = x.sent; settlements = x.settlements; client = expires x.client now }
course_after width x Restart = settled_on x (restarts x.client)

-- the course after all these steps, in order, with a window of this width
abbrev pub course : {Q : Type 0} → (width : ℕ) → Course Q → List (Step Q) → Course Q
course width x [] = x
course width x (step ∷ steps) = course width (course_after width x step) steps

-- a course accounts for its sends: the settlements so far, and after them the requests that wait, are the sends that weren't
-- refused, in order, each once
abbrev pub AccountsForSends : {Q : Type 0} → Course Q → Type 0
AccountsForSends x = map of_settled x.settlements ++ map of_pending x.client.waiting ≡ x.sent
