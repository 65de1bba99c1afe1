-- A synchronization over a line that damages lines, this project's own: eight null procedures, each sent until a line with its id comes;
-- their ids are those of the word, 6 5 4 3 2 1 0 7. In flight at its start are old lines, of requests from before, as a run leaves them
-- that had synchronized, whose sends were fresh, and whose requests were calls of the table: their numbers never fall in the order of the
-- line and lie within eight consecutive ones, and their ids are these numbers modulo 8. As in `OneQueue` the undamaged lines in flight are
-- one list, in which what the instrument keeps has its place, too: one of them is lost, one is repeated, or the front one comes; and
-- damaged lines come at any time. A reply to a null procedure of this synchronization comes after all old lines, so one of these can be
-- left only if each of the eight was answered by an old line or by a damaged one. Of replies to these null procedures nothing is said: if a
-- damaged line answers the eighth, a reply to the one with the id of the first command (0) may be in flight or kept. `OwnEighthIsClean` of
-- gc_theorems excludes that.
use Rattle.gc_theorems.specs.Common.{AllByRecursion, WINDOW, IDS, is_answered, left_by, the_word}
use Rattle.std.specs.Prelude.{◌≡◌, ℕ, ◌+◌, ◌%◌, ◌≤◌, List, [], ◌∷◌, ◌++◌, map, Option, Some, None, if◌then◌else◌, ⊤}
use Rattle.gc_theorems.specs.OneQueue.{without, doubled}

-- an undamaged line in flight: its id; and if it is old, the number of its request
pub record SyncLine : Type 0 where
  pub id : ℕ
  pub old : Option ℕ

-- a synchronization: the undamaged lines in flight, the front first; the ids of the word that aren't answered; and how many were answered
-- by damaged lines
pub record Sync : Type 0 where
  pub lines : List SyncLine
  pub left : List ℕ
  pub damaged : ℕ

-- what happens: the null procedure with the first id that isn't answered is sent; the front line comes; a damaged line with this id comes;
-- the line at this place is lost, or repeated directly after itself
pub data SyncStep : Type 0 where
  Ask : SyncStep
  Deliver : SyncStep
  Damage : (id : ℕ) → SyncStep
  Lose : (place : ℕ) → SyncStep
  Repeat : (place : ℕ) → SyncStep

-- the null procedure with this id, in flight
abbrev pub null_line : (id : ℕ) → SyncLine
null_line id = record { id = id; old = None }

-- once the null procedure with the first of the ids `left` was sent, if there is one
abbrev pub sync_asked : Sync → (left : List ℕ) → Sync
sync_asked s [] = s
sync_asked s (asked ∷ rest) = record s { lines = s.lines ++ null_line asked ∷ [] }

-- once the front one of these lines came, if there is one
abbrev pub sync_delivered : Sync → List SyncLine → Sync
sync_delivered s [] = s
sync_delivered s (x ∷ rest) = record s { lines = rest; left = left_by s.left (Some x.id) }

-- after a step
abbrev pub sync_after : Sync → SyncStep → Sync
sync_after s Ask = sync_asked s s.left
sync_after s Deliver = sync_delivered s s.lines
sync_after s (Damage id) =
    record s {
      left = left_by s.left (Some id);
      damaged = if is_answered s.left (Some id) then s.damaged + 1 else s.damaged;
    }
sync_after s (Lose place) = record s { lines = without place s.lines }
sync_after s (Repeat place) = record s { lines = doubled place s.lines }

-- after these steps, in order
abbrev pub sync : Sync → List SyncStep → Sync
sync s [] = s
sync s (x ∷ steps) = sync (sync_after s x) steps

-- a synchronization at its start, with these lines in flight
abbrev pub sync_over : List SyncLine → Sync
sync_over lines = record { lines = lines; left = the_word; damaged = 0 }

-- what a synchronization over these lines is after these steps
abbrev pub synchronized : List SyncLine → List SyncStep → Sync
synchronized lines steps = sync (sync_over lines) steps

-- these lines are old ones, whose numbers never fall, from `low` on, and are at most `high`
abbrev pub AreOld : (low high : ℕ) → List SyncLine → Type 0
AreOld low high [] = ⊤
AreOld low high (x ∷ xs) = (n : ℕ) × (x.old ≡ Some n) × (low ≤ n) × (n ≤ high) × (x.id ≡ n % IDS) × AreOld n high xs

-- none of these lines is old
abbrev pub NoneIsOld : List SyncLine → Type 0
NoneIsOld lines = AllByRecursion (λ x. x.old ≡ None) lines

-- once all null procedures are answered, at most five of them by damaged lines, no old line is in flight or kept; of the null procedures'
-- own lines nothing is said
abbrev pub FiveAreBorne : Type 0
FiveAreBorne =
    (low : ℕ) (lines : List SyncLine) → AreOld low (low + WINDOW) lines → (steps : List SyncStep) → (synchronized lines steps).left ≡ [] →
    (synchronized lines steps).damaged ≤ 5 → NoneIsOld (synchronized lines steps).lines

-- Two runs, which are computed.

-- the line of the old request n
abbrev pub old_line : (n : ℕ) → SyncLine
old_line n = record { id = n % IDS; old = Some n }

-- the null procedures with the ids 6, 5, 4, 3 and 2 are sent, and each is answered by a damaged line
abbrev pub five_damaged : List SyncStep
five_damaged = Ask ∷ Damage 6 ∷ Ask ∷ Damage 5 ∷ Ask ∷ Damage 4 ∷ Ask ∷ Damage 3 ∷ Ask ∷ Damage 2 ∷ []

-- two old lines are in flight, of requests 1 and 8. After `five_damaged` they answer the null procedures with the ids 1 and 0. The eighth
-- is answered by its own reply, after those to the seven before it
abbrev pub with_five : List SyncStep
with_five =
    five_damaged ++ Ask ∷ Deliver ∷ Ask ∷ Deliver ∷ Ask
    ∷ Deliver ∷ Deliver ∷ Deliver ∷ Deliver ∷ Deliver ∷ Deliver ∷ Deliver ∷ Deliver ∷ []

-- a run with five damaged answers meets the premises of `FiveAreBorne`
pub record IsDamagedSynchronization : Type 0 where
  pub old : AreOld 1 8 (old_line 1 ∷ old_line 8 ∷ [])
  pub all : (synchronized (old_line 1 ∷ old_line 8 ∷ []) with_five).left ≡ []
  pub five : (synchronized (old_line 1 ∷ old_line 8 ∷ []) with_five).damaged ≡ 5
  pub none : (synchronized (old_line 1 ∷ old_line 8 ∷ []) with_five).lines ≡ []

-- three old lines are in flight, of requests 1, 7 and 8. After `five_damaged` the first answers the null procedure with the id 1, a damaged
-- line that with the id 0, and the second the eighth
abbrev pub with_six : List SyncStep
with_six = five_damaged ++ Ask ∷ Deliver ∷ Ask ∷ Damage 0 ∷ Ask ∷ Deliver ∷ []

-- six damaged answers are too many: the third old line is left, which has the id of the first command (0)
pub record SixAreTooMany : Type 0 where
  pub old : AreOld 1 8 (old_line 1 ∷ old_line 7 ∷ old_line 8 ∷ [])
  pub all : (synchronized (old_line 1 ∷ old_line 7 ∷ old_line 8 ∷ []) with_six).left ≡ []
  pub six : (synchronized (old_line 1 ∷ old_line 7 ∷ old_line 8 ∷ []) with_six).damaged ≡ 6
  pub left : (synchronized (old_line 1 ∷ old_line 7 ∷ old_line 8 ∷ []) with_six).lines ≡ old_line 8 ∷ map null_line the_word
