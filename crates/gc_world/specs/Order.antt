-- What the laws of the runs say of the order of the line: which numbers can be in flight. A request's number is its place
-- among those sent, counted from 0, and a reply has its request's number. This project's own.
use Rattle.gc_world.specs.Common.{AllByRecursion, KeptReply}
use Rattle.std.specs.Prelude.{◌≡◌, ℕ, ◌+◌, ◌<◌, ◌≤◌, List, [], ◌∷◌, ◌++◌, length, map, Option, IfSome}
use Rattle.gc_world.specs.Worlds.{Numbered, Wire}

-- no number of a list is below the one before it. `low` is one above the number that counts as the one before the list, or 0 if
-- there is none
abbrev pub Rising : (low : ℕ) → List ℕ → Type 0
Rising low [] = Unit {0}
Rising low (n ∷ ns) = (low ≤ n + 1) × Rising (n + 1) ns

-- the number of each line of a queue, the front line first
abbrev pub numbers : {Line : Type 0} → List (Numbered Line) → List ℕ
numbers xs = map (λ x. x.number) xs

-- the numbers of all lines in flight, from the front of the downward queue to the back of the upward one
abbrev pub numbers_in_flight : {Q State : Type 0} → Wire Q State → List ℕ
numbers_in_flight w = numbers w.down ++ numbers w.up

-- while a reply is kept, some request was executed, and each of the numbers `up` is the one executed last or one of the `width`
-- above it
abbrev pub IsRecent : (width : ℕ) → Option KeptReply → (executed up : List ℕ) → Type 0
IsRecent width kept executed up = IfSome kept (λ _.
    (earlier : List ℕ) × (last : ℕ) × (executed ≡ earlier ++ last ∷ []) × AllByRecursion (λ n. (last ≤ n) × (n ≤ last + width)) up)

-- the order of the line, where at most `width` requests are unsettled
pub record IsOrderly {Q State : Type 0} (width : ℕ) (w : Wire Q State) : Type 0 where
  -- there are no more settlements than requests sent, and at most `width` requests are unsettled
  pub settled : length w.settled ≤ length w.sent
  pub few : length w.sent ≤ length w.settled + width
  -- in each queue the numbers never fall from front to back, no number downward is above one upward, and every number is at
  -- least the count of settlements less one
  pub order : Rising (length w.settled) (numbers_in_flight w)
  -- every number is below the count of requests sent
  pub sent : AllByRecursion (λ n. n < length w.sent) (numbers_in_flight w)
