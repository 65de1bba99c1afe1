-- A synchronization with damage in the field, this project's own: the two things are added to all that happens in one (`SyncTurn`) that
-- `Harm` adds to what happens in the field. A damaged line comes: any line, at any time. And a request that damage made reaches the
-- instrument: any with an id from 0 to 7, at any time. If the eighth null procedure is answered by its own reply, the synchronization is
-- clean but for what the instrument keeps of such a request, whatever was damaged, and whatever is in flight from before. A reply is own if
-- it was sent for a null procedure of this synchronization; it comes after all that was in flight before.
use Rattle.gc_theorems.specs.Common.{AllByRecursion, Asked, IDS, left_by, heard, KeptReply}
use Rattle.std.specs.Prelude.{◌≡◌, ◌⊎◌, ℕ, ◌<◌, false, List, [], ◌∷◌, ◌++◌, Option, Some}
use Rattle.gc_theorems.specs.World.{Ends}
use Rattle.gc_theorems.specs.Begin.{InFlight, IsTurn, IsWellFormed, SyncModel, SyncTurn, Comes, UnderWay, begins, turns}
use Rattle.gc_theorems.specs.Begun.{eighth_null}
use Rattle.gc_theorems.specs.Instrument.{OfAnyInstrument}

-- one step of a synchronization, with damage
pub data SyncHarm (State : Type 0) : Type 0 where
  Does : (turn : SyncTurn State) → SyncHarm State
  Damages : (line : List ℕ) → SyncHarm State
  Strikes : (id : ℕ) (call : Asked) → SyncHarm State

module _ {State : Type 0} (ends : Ends State) where
  -- what a step does
  abbrev pub sync_harms : SyncModel State → SyncHarm State → SyncModel State
  sync_harms s (Does turn) = turns ends s turn
  sync_harms s (Damages line) = record { up = s.up; down = s.down; state = s.state; left = left_by s.left (heard line) }
  sync_harms s (Strikes id call) = record { up = s.up; down = s.down; state = (ends.handed s.state id call).state; left = s.left }

  -- what these steps do, in order
  abbrev pub sync_harmed : List (SyncHarm State) → SyncModel State → SyncModel State
  sync_harmed [] s = s
  sync_harmed (t ∷ ts) s = sync_harmed ts (sync_harms s t)

  -- a step is possible
  abbrev pub MaySyncHarm : (State → Type 0) → (State → Option KeptReply) → SyncModel State → SyncHarm State → Type 0
  MaySyncHarm Good kept s (Does turn) = IsTurn Good kept s turn
  MaySyncHarm Good kept s (Damages line) = Unit {0}
  MaySyncHarm Good kept s (Strikes id call) = id < IDS

  -- each of these steps is possible after those before it
  abbrev pub AllMaySyncHarm : (State → Type 0) → (State → Option KeptReply) → List (SyncHarm State) → SyncModel State → Type 0
  AllMaySyncHarm Good kept [] s = Unit {0}
  AllMaySyncHarm Good kept (t ∷ ts) s = MaySyncHarm Good kept s t × AllMaySyncHarm Good kept ts (sync_harms s t)

  -- at one of these steps, of a synchronization over `u`, the eighth null procedure alone isn't answered, and its own reply comes
  pub record OwnEighthComes (u : UnderWay State) (ts : List (SyncHarm State)) : Type 0 where
    pub front : List (SyncHarm State)
    pub later : List (SyncHarm State)
    pub split : ts ≡ front ++ Does Comes ∷ later
    pub alone : (sync_harmed front (begins u)).left ≡ 7 ∷ []
    pub reply : InFlight (List ℕ)
    pub rest : List (InFlight (List ℕ))
    pub next : (sync_harmed front (begins u)).down ≡ reply ∷ rest
    pub own : reply.old ≡ false
    pub id : heard reply.line ≡ Some 7

  -- at one of these steps a request that damage made reaches the instrument, and this line is its reply
  pub record WasStruck (u : UnderWay State) (ts : List (SyncHarm State)) (line : List ℕ) : Type 0 where
    pub front : List (SyncHarm State)
    pub later : List (SyncHarm State)
    pub at_id : ℕ
    pub call : Asked
    pub split : ts ≡ front ++ Strikes at_id call ∷ later
    pub reply : line ≡ (ends.handed (sync_harmed front (begins u)).state at_id call).reply

  -- what a synchronization leaves is clean (`IsClean`), but for a kept reply to a request that damage made (`WasStruck`); and nothing from
  -- before is in flight
  pub record IsCleanButStruck (Good : State → Type 0) (kept : State → Option KeptReply) (u : UnderWay State) (ts : List (SyncHarm State)) (s : SyncModel State) : Type 0 where
    pub good : Good s.state
    pub up : AllByRecursion (λ x. (x.old ≡ false) × (x.line ≡ eighth_null)) s.up
    pub down : AllByRecursion (λ x. (x.old ≡ false) × (heard x.line ≡ Some 7)) s.down
    pub keeps : (k : KeptReply) → kept s.state ≡ Some k → (k.id ≡ 7) ⊎ WasStruck u ts k.line

-- for any instrument, whatever is in flight at the start and well formed, be it the word: if the eighth null procedure is answered by
-- its own reply, the synchronization is clean but for a kept reply that is damaged
abbrev pub OwnEighthIsClean : Type 0 → Type 0
OwnEighthIsClean State = OfAnyInstrument {State = State} (λ ends Good kept.
    (u : UnderWay State) (ts : List (SyncHarm State)) → IsWellFormed Good u → AllMaySyncHarm ends Good kept ts (begins u) → OwnEighthComes ends u ts →
    IsCleanButStruck ends Good kept u ts (sync_harmed ends ts (begins u)))
