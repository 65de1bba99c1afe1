-- Holding back, this project's own: a rule when to send by which damage is local however long lines are in flight, as long as no two lines
-- in a row that settle something are damaged. The client stores how many requests the last line that settled any settled (`last`), and
-- sends only while these and the outstanding ones are together fewer than seven. An undamaged line that settles something shows that no
-- line of an older request is in flight; so the count of settled requests from before the last such line is right if that line was
-- damaged and the one before it wasn't.
use Rattle.gc_theorems.specs.Common.{WINDOW}
use Rattle.std.specs.Prelude.{◌≡◌, ◌⊎◌, ℕ, ◌+◌, ◌<◌, ◌≤◌, Bool, true, false, List, [], ◌∷◌, length, Option, if◌then◌else◌, nat_lt, ⊤}
use Rattle.gc_theorems.specs.Damage.{IsLocal}
use Rattle.gc_theorems.specs.OneQueue.{OneQueue, Step, Send, Expire, Deliver, Damage, Lose, Repeat, IsPossible, newly_settled, nothing_in_flight, queue_after}

-- a queue whose client holds back; how many requests the last line settled that settled any; and whether that line was undamaged, which
-- the client doesn't know
pub record Holding (Q : Type 0) : Type 0 where
  pub queue : OneQueue Q
  pub last : ℕ
  pub undamaged : Bool

module _ {Q : Type 0} where
  -- a new client, with nothing in flight
  abbrev pub holding_nothing : Holding Q
  holding_nothing = record { queue = nothing_in_flight; last = 0; undamaged = true }

  -- how many requests are outstanding
  abbrev pub outstanding : OneQueue Q → ℕ
  outstanding q = length q.account.client.waiting

  -- how many requests a step settles, after which the queue is `after`
  abbrev pub settles : Holding Q → (after : OneQueue Q) → ℕ
  settles h after = newly_settled h.queue.account after.account

  -- the same client after a step, after which the queue is `after`
  abbrev pub with_queue : Holding Q → (after : OneQueue Q) → Holding Q
  with_queue h after = record { queue = after; last = h.last; undamaged = h.undamaged }

  -- the same once a line came, undamaged or not, after which the queue is `after`, by whether the line settled something (`any`)
  abbrev pub with_line : Holding Q → (undamaged : Bool) → (after : OneQueue Q) → (any : Bool) → Holding Q
  with_line h undamaged after true = record { queue = after; last = settles h after; undamaged = undamaged }
  with_line h undamaged after false = with_queue h after

  -- there is room for a send: outstanding requests, and those that the last line settled, are together fewer than seven
  abbrev pub HasRoom : Holding Q → Type 0
  HasRoom h = outstanding h.queue + h.last < WINDOW

module _ {Q : Type 0} (heard : List ℕ → Option ℕ) (width : ℕ) where
  -- the queue after a step by the client's rule, with a window of this width
  abbrev pub queue_then : Holding Q → Step Q → OneQueue Q
  queue_then h s = queue_after heard width h.queue s

  -- after a line, undamaged or not, that comes at this step
  abbrev pub after_line : Holding Q → (undamaged : Bool) → Step Q → Holding Q
  after_line h undamaged s = with_line h undamaged (queue_then h s) (nat_lt 0 (settles h (queue_then h s)))

  -- after a step: a send for which there is no room is refused
  abbrev pub holding_after : Holding Q → Step Q → Holding Q
  holding_after h (Send target call deadline) =
      if nat_lt (outstanding h.queue + h.last) WINDOW then with_queue h (queue_then h (Send target call deadline)) else h
  holding_after h (Deliver line) = after_line h true (Deliver line)
  holding_after h (Damage line) = after_line h false (Damage line)
  holding_after h (Expire now) = with_queue h (queue_then h (Expire now))
  holding_after h (Lose place) = with_queue h (queue_then h (Lose place))
  holding_after h (Repeat place) = with_queue h (queue_then h (Repeat place))

  -- after these steps, in order
  abbrev pub holding : Holding Q → List (Step Q) → Holding Q
  holding h [] = h
  holding h (s ∷ steps) = holding (holding_after h s) steps

  -- if a damaged line comes, it settles nothing, or the last line that settled something was undamaged
  abbrev pub IsApart : Holding Q → Step Q → Type 0
  IsApart h (Damage line) = (settles h (queue_then h (Damage line)) ≡ 0) ⊎ (h.undamaged ≡ true)
  IsApart h _ = ⊤

  -- each of these steps is possible, and no two lines in a row that settle something are damaged
  abbrev pub AreApart : Holding Q → List (Step Q) → Type 0
  AreApart h [] = ⊤
  AreApart h (s ∷ steps) = IsPossible heard width h.queue s × IsApart h s × AreApart (holding_after h s) steps

-- what holding back gives: damage is local; and with a window of at most six, there is room for a send whenever nothing is outstanding
pub record IsHeldBack {Q : Type 0} (width : ℕ) (h : Holding Q) : Type 0 where
  pub local : IsLocal h.queue.account
  pub goes_on : width ≤ 6 → outstanding h.queue ≡ 0 → HasRoom h

-- if the client holds back, damage is local as long as no two lines in a row that settle something are damaged, whatever else happens
abbrev pub HeldBackDamageIsLocal : Type 0 → Type 0
HeldBackDamageIsLocal Q =
    (heard : List ℕ → Option ℕ) (width : ℕ) → width ≤ WINDOW → (steps : List (Step Q)) → AreApart heard width holding_nothing steps →
    IsHeldBack width (holding heard width holding_nothing steps)
