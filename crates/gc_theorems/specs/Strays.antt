-- Strays, this project's own: which reply shows that a line was damaged. A stray is a reply for which no request is outstanding.
-- Without damage it can only be a copy of the reply that settled something last, so its id is the one before that of the oldest outstanding
-- request, or before the next id if none is outstanding. A stray with any other id shows that it, or a line that came before it, was damaged.
use Rattle.gc_theorems.specs.Common.{WINDOW, IDS, place_in}
use Rattle.std.specs.Prelude.{◌≡◌, ℕ, ◌+◌, ◌%◌, ◌≤◌, List, ◌∷◌, length, Option, Some}
use Rattle.gc_theorems.specs.Damage.{Account, Of, account_heard}
use Rattle.gc_theorems.specs.OneQueue.{InFlight, Step, ArePossible, account_at_end, newly_settled, nothing_in_flight, queue}
use Rattle.gc_theorems.specs.Slack.{HasNoDamage}

-- in this account, the line of request `number` is of the request that was settled last, and its id is the one before that of the oldest
-- outstanding request, or before the next id if none is outstanding
pub record IsOfTheLast {Q : Type 0} (a : Account Q) (number : ℕ) : Type 0 where
  pub settled_last : number + 1 ≡ length a.settled
  pub before : place_in a.client (number % IDS) ≡ WINDOW

-- without damage, a front line that settles nothing when it comes is of the request that was settled last
abbrev pub StraysAreOfTheLast : Type 0 → Type 0
StraysAreOfTheLast Q =
    (heard : List ℕ → Option ℕ) (width : ℕ) → width ≤ WINDOW → (steps : List (Step Q)) → ArePossible heard width steps → HasNoDamage steps →
    (x : InFlight) (rest : List InFlight) (line : List ℕ) → (queue heard width nothing_in_flight steps).lines ≡ x ∷ rest → heard line ≡ Some (x.number % IDS) →
    newly_settled (account_at_end heard width steps) (account_heard heard width (account_at_end heard width steps) (Of x.number) line) ≡ 0 →
    IsOfTheLast (account_at_end heard width steps) x.number
