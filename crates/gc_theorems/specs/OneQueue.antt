-- The line as one queue, this project's own. The undamaged lines in flight are one list, from the one that comes next to the one that
-- was sent last: replies, the reply that the instrument keeps, requests. A request that is executed stays at its place, and is a
-- reply from then on. What the instrument keeps of it is a second copy, directly after it; and a reply that is sent again is one more
-- copy of what is kept, before that, in place of the request that is lost by it. So this is all that happens to undamaged lines: one
-- is lost, one is repeated directly after itself, the front one comes. A line that is damaged is lost here, and what damage makes
-- of it comes as a damaged line, whenever it likes. `TwoQueues` has both directions and the instrument.
use Rattle.gc_theorems.specs.Common.{IDS, ById, Sending, sends}
use Rattle.std.specs.Prelude.{◌≡◌, ℕ, suc, ◌+◌, ◌-◌, ◌%◌, List, [], ◌∷◌, ◌++◌, length, take, drop, Option, Some, None, ⊤}
use Rattle.gc_theorems.specs.Damage.{Account, Of, Damaged, account_sent, account_expired, account_heard, opened}

-- an undamaged line in flight: the number of its request, and what damage had done before that was sent: how many requests damaged
-- lines had settled (`settled_by_damage`), and how many damaged lines had come (`damaged`)
pub record InFlight : Type 0 where
  pub number : ℕ
  pub settled_by_damage : ℕ
  pub damaged : ℕ

-- a client; how many requests damaged lines have settled, those included that were lost by them (`settled_by_damage`); and the undamaged
-- lines in flight, the front first
pub record OneQueue (Q : Type 0) : Type 0 where
  pub account : Account Q
  pub settled_by_damage : ℕ
  pub lines : List InFlight

-- what happens: the client is handed a request, or a moment is read; the front line comes, as these bytes; a damaged line comes; the
-- line at this place is lost, or repeated directly after itself
pub data Step (Q : Type 0) : Type 0 where
  Send : (target : ℕ) (call : Q) (deadline : ℕ) → Step Q
  Expire : (now : ℕ) → Step Q
  Deliver : (line : List ℕ) → Step Q
  Damage : (line : List ℕ) → Step Q
  Lose : (place : ℕ) → Step Q
  Repeat : (place : ℕ) → Step Q

-- a list without the element at this place
abbrev pub without : {A : Type 0} → (place : ℕ) → List A → List A
without place xs = take place xs ++ drop (suc place) xs

-- a list with the element at this place twice
abbrev pub doubled : {A : Type 0} → (place : ℕ) → List A → List A
doubled place xs = take (suc place) xs ++ drop place xs

-- the front line, if there is one, may come as these bytes: they read as a reply with its request's id
abbrev pub IsOfFront : (heard : List ℕ → Option ℕ) → List InFlight → (line : List ℕ) → Type 0
IsOfFront heard [] line = ⊤
IsOfFront heard (x ∷ rest) line = heard line ≡ Some (x.number % IDS)

module _ {Q : Type 0} where
  -- a new client, with nothing in flight
  abbrev pub nothing_in_flight : OneQueue Q
  nothing_in_flight = record { account = opened; settled_by_damage = 0; lines = [] }

  -- the undamaged line of the next request
  abbrev pub next_line : Account Q → (settled_by_damage : ℕ) → InFlight
  next_line a settled_by_damage = record { number = a.sent; settled_by_damage = settled_by_damage; damaged = a.damaged }

  -- the queue once a request was handed to the client, by what its rule gave; a refusal (`None`) changes nothing
  abbrev pub queue_sent : OneQueue Q → Option (Sending (ById Q)) → OneQueue Q
  queue_sent q None = q
  queue_sent q (Some x) =
      record { account = account_sent q.account (Some x); settled_by_damage = q.settled_by_damage; lines = q.lines ++ next_line q.account q.settled_by_damage ∷ [] }

  -- how many more requests are settled in the second account than in the first
  abbrev pub newly_settled : (before after : Account Q) → ℕ
  newly_settled before after = length after.settled - length before.settled

  -- the queue once a damaged line came, after which the client's account is this
  abbrev pub queue_damaged : OneQueue Q → Account Q → OneQueue Q
  queue_damaged q after = record { account = after; settled_by_damage = q.settled_by_damage + newly_settled q.account after; lines = q.lines }

module _ {Q : Type 0} (heard : List ℕ → Option ℕ) (width : ℕ) where
  -- the queue once its front line, if there is one, came as these bytes; the second argument is its lines
  abbrev pub queue_delivered : OneQueue Q → List InFlight → (line : List ℕ) → OneQueue Q
  queue_delivered q [] line = q
  queue_delivered q (x ∷ rest) line = record { account = account_heard heard width q.account (Of x.number) line; settled_by_damage = q.settled_by_damage; lines = rest }

  -- the queue after a step
  abbrev pub queue_after : OneQueue Q → Step Q → OneQueue Q
  queue_after q (Send target call deadline) = queue_sent q (sends width q.account.client target call deadline)
  queue_after q (Expire now) = record { account = account_expired q.account now; settled_by_damage = q.settled_by_damage; lines = q.lines }
  queue_after q (Deliver line) = queue_delivered q q.lines line
  queue_after q (Damage line) = queue_damaged q (account_heard heard width q.account Damaged line)
  queue_after q (Lose place) = record { account = q.account; settled_by_damage = q.settled_by_damage; lines = without place q.lines }
  queue_after q (Repeat place) = record { account = q.account; settled_by_damage = q.settled_by_damage; lines = doubled place q.lines }

  -- the queue after these steps, in order
  abbrev pub queue : OneQueue Q → List (Step Q) → OneQueue Q
  queue q [] = q
  queue q (s ∷ steps) = queue (queue_after q s) steps

  -- `Holds` is true of each of these steps, and of the queue before it
  abbrev pub Throughout : (Holds : OneQueue Q → Step Q → Type 0) → OneQueue Q → List (Step Q) → Type 0
  Throughout Holds q [] = ⊤
  Throughout Holds q (s ∷ steps) = Holds q s × Throughout Holds (queue_after q s) steps

  -- a step is possible
  abbrev pub IsPossible : OneQueue Q → Step Q → Type 0
  IsPossible q (Deliver line) = IsOfFront heard q.lines line
  IsPossible q _ = ⊤

  -- each of these steps, which begin with nothing in flight, is possible
  abbrev pub ArePossible : List (Step Q) → Type 0
  ArePossible steps = Throughout IsPossible nothing_in_flight steps

  -- the client's account after these steps, which begin with nothing in flight
  abbrev pub account_at_end : List (Step Q) → Account Q
  account_at_end steps = (queue nothing_in_flight steps).account
