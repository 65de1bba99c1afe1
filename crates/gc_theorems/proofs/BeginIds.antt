-- A synchronization over a line of ids alone: the line, its two ends, what may happen, and a run. The *word* of a
-- synchronization is the list of the ids of its null procedures. The client asks them one after the other, each until it is
-- answered.
use Rattle.gc_theorems.proofs.Common.{AllByRecursion, IsSubsequence, left_by, without, doubled}
use Rattle.std.specs.Prelude.{◌≡◌, ℕ, zero, suc, ◌+◌, ◌%◌, Bool, true, false, List, [], ◌∷◌, ◌++◌, map, Option, Some, None}

-- The line.

-- the id of a request or of a reply in flight, and whether the request (or the one for which the reply was sent) is from
-- before this synchronization
pub record IdSent : Type 0 where
  pub id : ℕ
  pub old : Bool

-- the state of a synchronization: the requests and the replies in flight, the front of each queue first; the id of the reply
-- that the instrument keeps; and the ids of the word that aren't answered. If none is left, the synchronization is done
pub record IdModel : Type 0 where
  pub up : List IdSent
  pub down : List IdSent
  pub kept : Option ℕ
  pub left : List ℕ

-- What may happen.

-- one step of a synchronization, by the ids of the lines alone
pub data IdMove : Type 0 where
  -- a null procedure is sent, with the id that is asked for now: the first time or again
  Ask : IdMove
  -- the front request reaches the instrument, which sends its reply to that request, and then keeps that reply
  Reach : IdMove
  -- the front request reaches the instrument, which sends its reply to that request. If the request is old, the instrument goes
  -- on keeping what it kept before; else it then keeps that reply
  Pass : IdMove
  -- the front reply comes
  Come : IdMove
  -- the line loses an element, or repeats it directly after itself
  Up_lose : (which : ℕ) → IdMove
  Up_repeat : (which : ℕ) → IdMove
  Down_lose : (which : ℕ) → IdMove
  Down_repeat : (which : ℕ) → IdMove
  -- the instrument starts again, whatever is in flight
  Anew : IdMove

-- the state once the client sent the null procedure of the first id that is left, if any is (the list has those that are left)
abbrev pub asks : IdModel → List ℕ → IdModel
asks s [] = s
asks s (asked ∷ rest) = record s { up = s.up ++ record { id = asked; old = false } ∷ [] }

-- the state once the front request of this queue reached the instrument, which replies with the request's id: by the reply that
-- it keeps, if that has this id, and else by executing the request, whose reply it then keeps. So what it keeps has this id
-- from now on, and what it sends is for this request
abbrev pub reaches : IdModel → List IdSent → IdModel
reaches s [] = s
reaches s (x ∷ rest) = record s { up = rest; down = s.down ++ x ∷ []; kept = Some x.id }

-- the id of what is kept after `Pass` of a request with this id: if the request is old (true), as before (`k`); else the
-- request's id
abbrev pub kept_past : Bool → ℕ → Option ℕ → Option ℕ
kept_past true id k = k
kept_past false id k = Some id

-- the state after `Pass` of the front request of this queue
abbrev pub passes : IdModel → List IdSent → IdModel
passes s [] = s
passes s (x ∷ rest) = record s { up = rest; down = s.down ++ x ∷ []; kept = kept_past x.old x.id s.kept }

-- the state once the front reply of this queue came
abbrev pub comes : IdModel → List IdSent → IdModel
comes s [] = s
comes s (x ∷ rest) = record s { down = rest; left = left_by s.left (Some x.id) }

-- the state after a move; one that isn't possible changes nothing
abbrev pub moves : IdModel → IdMove → IdModel
moves s Ask = asks s s.left
moves s Reach = reaches s s.up
moves s Pass = passes s s.up
moves s Come = comes s s.down
moves s (Up_lose k) = record s { up = without k s.up }
moves s (Up_repeat k) = record s { up = doubled k s.up }
moves s (Down_lose k) = record s { down = without k s.down }
moves s (Down_repeat k) = record s { down = doubled k s.down }
moves s Anew = record s { kept = None }

-- the state after these moves, in order
abbrev pub moved : List IdMove → IdModel → IdModel
moved [] s = s
moved (m ∷ ms) s = moved ms (moves s m)

-- each element and each one after it have the relation: `AllPairs` of std, by recursion
abbrev pub AllPairsByRecursion : {A : Type 0} → (A → A → Type 0) → List A → Type 0
AllPairsByRecursion R [] = Unit {0}
AllPairsByRecursion R (x ∷ xs) = AllByRecursion (R x) xs × AllPairsByRecursion R xs

-- no id is in the list twice
abbrev pub AllDiffer : List ℕ → Type 0
AllDiffer ids = AllPairsByRecursion (λ i j. i ≡ j → ⊥) ids

-- the ids of these requests or replies
abbrev pub ids_of : List IdSent → List ℕ
ids_of xs = map (λ x. x.id) xs

-- the ids in flight, those of replies first
abbrev pub ids_in_flight : IdModel → List ℕ
ids_in_flight s = ids_of s.down ++ ids_of s.up

-- `last z word` is the last id of the word, or z if the word is empty
abbrev pub last : ℕ → List ℕ → ℕ
last z [] = z
last z (i ∷ ids) = last i ids

-- A synchronization.

-- the start of a synchronization: the whole word is left, all that is in flight is old, and the ids in flight don't contain the
-- word
pub record Begins (word : List ℕ) (s : IdModel) : Type 0 where
  pub left : s.left ≡ word
  pub up : AllByRecursion (λ x. x.old ≡ true) s.up
  pub down : AllByRecursion (λ x. x.old ≡ true) s.down
  pub absent : IsSubsequence word (ids_in_flight s) → ⊥

-- a synchronization that ended cleanly: nothing old is in flight, and all that is in flight has this id; so has what
-- the instrument keeps, if it keeps anything
pub record IsCleanByIds (id : ℕ) (s : IdModel) : Type 0 where
  pub up : AllByRecursion (λ x. (x.old ≡ false) × (x.id ≡ id)) s.up
  pub down : AllByRecursion (λ x. (x.old ≡ false) × (x.id ≡ id)) s.down
  pub kept : (i : ℕ) → s.kept ≡ Some i → i ≡ id

-- The word.

-- n ids from i on, upward modulo 8: those of n requests that are sent one after the other
abbrev pub upward : (i n : ℕ) → List ℕ
upward i zero = []
upward i (suc n) = i % 8 ∷ upward (i + 1) n

-- these requests or replies, all as from before now
abbrev pub aged : List IdSent → List IdSent
aged xs = map (λ x. record { id = x.id; old = true }) xs

-- the state in which a synchronization with this word starts over what is in flight
abbrev pub begun_anew : List ℕ → IdModel → IdModel
begun_anew word s = record { up = aged s.up; down = aged s.down; kept = s.kept; left = word }
