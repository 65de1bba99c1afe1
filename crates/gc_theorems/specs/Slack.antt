-- How much damage is too much, this project's own: two bounds by which damage is local over the line as one queue, on how many requests
-- damaged lines settled, or on how many damaged lines came, while a line was in flight.
use Rattle.gc_theorems.specs.Common.{AllByRecursion, WINDOW, sends}
use Rattle.std.specs.Prelude.{◌≡◌, ℕ, ◌+◌, ◌*◌, ◌≤◌, List, [], ◌∷◌, Option, Some, slice_get, IfSome, ⊤}
use Rattle.gc_theorems.specs.Damage.{IsLocal, Origin, Of}
use Rattle.gc_theorems.specs.OneQueue.{InFlight, OneQueue, Step, Send, Damage, Throughout, nothing_in_flight, ArePossible, account_at_end}

-- a line in flight has slack for one more send: since its request was sent, damaged lines have settled at most 7 less the window's width
-- requests in all, as answered or as lost
abbrev pub HasSlack : {Q : Type 0} → (width : ℕ) → OneQueue Q → InFlight → Type 0
HasSlack width q x = q.settled_by_damage + width ≤ x.settled_by_damage + WINDOW

-- at most k damaged lines have come since the request of a line in flight was sent
abbrev pub HasSeenFew : {Q : Type 0} → (k : ℕ) → OneQueue Q → InFlight → Type 0
HasSeenFew k q x = q.account.damaged ≤ x.damaged + k

-- if the client sends at this step, `Holds` is true of each line in flight
abbrev pub IfSent : {Q : Type 0} → (width : ℕ) → (Holds : OneQueue Q → InFlight → Type 0) → OneQueue Q → Step Q → Type 0
IfSent width Holds q (Send target call deadline) = IfSome (sends width q.account.client target call deadline) (λ _. AllByRecursion (Holds q) q.lines)
IfSent width Holds q _ = ⊤

module _ {Q : Type 0} (heard : List ℕ → Option ℕ) (width : ℕ) where
  -- whenever the client sends, each line in flight has slack for it
  abbrev pub HaveSlack : List (Step Q) → Type 0
  HaveSlack steps = Throughout heard width (IfSent width (HasSlack width)) nothing_in_flight steps

  -- whenever the client sends, at most k damaged lines have come since the request of any line in flight was sent
  abbrev pub AreRare : (k : ℕ) → List (Step Q) → Type 0
  AreRare k steps = Throughout heard width (IfSent width (HasSeenFew k)) nothing_in_flight steps

-- no damaged line comes in these steps
abbrev pub HasNoDamage : {Q : Type 0} → List (Step Q) → Type 0
HasNoDamage [] = ⊤
HasNoDamage (Damage line ∷ steps) = ⊥
HasNoDamage (_ ∷ steps) = HasNoDamage steps

-- damage is local if each line that is in flight at a send has slack for it
abbrev pub DamageIsLocalWithSlack : Type 0 → Type 0
DamageIsLocalWithSlack Q =
    (heard : List ℕ → Option ℕ) (width : ℕ) → width ≤ WINDOW → (steps : List (Step Q)) → ArePossible heard width steps → HaveSlack heard width steps →
    IsLocal (account_at_end heard width steps)

-- damage is local if at most k damaged lines come while a line of any one request is in flight, and the window is at most 7 / (k + 1)
-- wide
abbrev pub RareDamageIsLocal : Type 0 → Type 0
RareDamageIsLocal Q =
    (heard : List ℕ → Option ℕ) (width k : ℕ) → (k + 1) * width ≤ WINDOW → (steps : List (Step Q)) → ArePossible heard width steps → AreRare heard width k steps →
    IsLocal (account_at_end heard width steps)

-- without damage each request that a line answered, in time or late, was answered by a line made for that very request, and nothing else is
-- asked
abbrev pub WithoutDamageEachAnswerIsOwn : Type 0 → Type 0
WithoutDamageEachAnswerIsOwn Q =
    (heard : List ℕ → Option ℕ) (width : ℕ) → width ≤ WINDOW → (steps : List (Step Q)) → ArePossible heard width steps → HasNoDamage steps →
    (m : ℕ) (origin : Origin) → slice_get (account_at_end heard width steps).settled m ≡ Some (Some origin) → origin ≡ Of m
