-- Stretches of a station's run over a line that damages, this project's own. In a stretch the station synchronizes, and then goes on until
-- it resynchronizes, or ends. A part is what the station sees of a stretch: a damaged line is heard like any other, and a request that
-- damage made is nothing to the station.
use Rattle.gc_theorems.specs.Common.{Asked, IDS, WINDOW, Settlement, KeptReply, Part}
use Rattle.std.specs.Prelude.{◌≡◌, ◌⊎◌, ℕ, ◌<◌, true, List, [], ◌∷◌, ◌++◌, drop, map, Option}
use Rattle.gc_theorems.specs.World.{Ends, Sent}
use Rattle.gc_theorems.specs.Begin.{LacksTheWord, SyncModel, SyncTurn, UnderWay, begins, leaves}
use Rattle.gc_theorems.specs.Beginnings.{under_way_on}
use Rattle.gc_theorems.specs.Field.{IsPossible, seen}
use Rattle.gc_theorems.specs.Shown.{shows}
use Rattle.gc_theorems.specs.Harm.{Harm, Does, Damages, Strikes, Harmed, harm_begun, harmed, harms}
use Rattle.gc_theorems.specs.DamagedHoldingBack.{Holding, ended, holding_begun, holding_harms}
use Rattle.gc_theorems.specs.Stretch.{left_by_sync}
use Rattle.gc_theorems.specs.DamagedSynchronizing.{SyncHarm, AllMaySyncHarm, OwnEighthComes, sync_harmed, sync_harms}
use Rattle.gc_client.specs.OneForOne as client
use Rattle.gc_station.specs.Parts as part
use Rattle.gc_theorems.specs.DamagedSynchronizing as sync

-- What a station sees.

module _ {State : Type 0} where
  -- what a step of a synchronization shows to the station: a damaged line is heard, and a request that damage made is no step
  abbrev pub shows_harm : SyncModel State → SyncHarm State → List part.SyncStep
  shows_harm s (sync.Does turn) = shows s turn
  shows_harm s (sync.Damages line) = part.Hears line ∷ []
  shows_harm s (sync.Strikes id call) = []

  -- what these steps of a synchronization show to the station, in order
  abbrev pub shown_harms : Ends State → List (SyncHarm State) → SyncModel State → List part.SyncStep
  shown_harms ends [] s = []
  shown_harms ends (t ∷ ts) s = shows_harm s t ++ shown_harms ends ts (sync_harms ends s t)

  -- the client's step at a step after the synchronization, if it has one there: it hears a damaged line, and doesn't see a request that
  -- damage made
  abbrev pub seen_at : Harm State → List (client.Step Asked)
  seen_at (Does move) = seen (move ∷ [])
  seen_at (Damages line) = client.Hear line ∷ []
  seen_at (Strikes id call) = []

  -- the client's steps among these, in order
  abbrev pub seen_harms : List (Harm State) → List (client.Step Asked)
  seen_harms [] = []
  seen_harms (m ∷ ms) = seen_at m ++ seen_harms ms

-- Stretches.

-- a stretch over a line that damages: what is in flight at its start (`over`), what happens while the station synchronizes (`turns`), and
-- what happens once it has synchronized (`steps`)
pub record HarmedStretch (State : Type 0) : Type 0 where
  pub over : UnderWay State
  pub turns : List (SyncHarm State)
  pub steps : List (Harm State)

module _ {State : Type 0} (ends : Ends State) where
  -- the state of a stretch's synchronization at the end of its turns
  abbrev pub synchronized : HarmedStretch State → SyncModel State
  synchronized s = sync_harmed ends s.turns (begins s.over)

  -- the world of a stretch once it has synchronized. Its requests 0 to 7 are the null procedures of the synchronization, and the client's
  -- come after them
  abbrev pub once_synchronized : HarmedStretch State → Harmed State
  once_synchronized s = harm_begun WINDOW ends (left_by_sync ends s.over s.turns)

  -- the world at the end of a stretch
  abbrev pub at_its_end : HarmedStretch State → Harmed State
  at_its_end s = harmed WINDOW ends s.steps (once_synchronized s)

  -- the requests of the client in a stretch, without the null procedures of the synchronization
  abbrev pub client_sent : HarmedStretch State → List Sent
  client_sent s = drop 8 (at_its_end s).world.wire.sent

  -- the settlements of the client's requests in a stretch
  abbrev pub client_settled : HarmedStretch State → List (Settlement Asked)
  client_settled s = drop 8 (at_its_end s).world.wire.settled

  -- what a stretch leaves in flight that leaves these ids of its word unanswered: if none is left, it had synchronized, and its steps
  -- followed; else it ended while it synchronized
  abbrev pub left_if_synchronized : List ℕ → HarmedStretch State → UnderWay State
  left_if_synchronized [] s = under_way_on (at_its_end s).world.wire
  left_if_synchronized (asked ∷ rest) s = leaves (synchronized s)

  -- what a stretch leaves in flight
  abbrev pub left_by_stretch : HarmedStretch State → UnderWay State
  left_by_stretch s = left_if_synchronized (synchronized s).left s

  -- the first of these stretches is over `u`, and each further one over what the one before it left
  abbrev pub AreInARow : UnderWay State → List (HarmedStretch State) → Type 0
  AreInARow u [] = Unit {0}
  AreInARow u (s ∷ ss) = (s.over ≡ u) × AreInARow (left_by_stretch s) ss

  -- what a stretch shows to the station and its client are the steps of this part
  abbrev pub IsSeenAs : Part → HarmedStretch State → Type 0
  IsSeenAs p s = (shown_harms ends s.turns (begins s.over) ≡ p.sync_steps) × (seen_harms s.steps ≡ p.steps)

  -- What may happen.

  module _ (Good : State → Type 0) (kept : State → Option KeptReply) where
    -- a step is possible after a synchronization: a damaged line may be any, and a request that damage made any with an id from 0 to 7
    abbrev pub IsPossibleHarm : Harmed State → Harm State → Type 0
    IsPossibleHarm h (Does move) = IsPossible Good kept h.world move
    IsPossibleHarm h (Damages line) = Unit {0}
    IsPossibleHarm h (Strikes id call) = id < IDS

    -- each of these steps is possible after those before it
    abbrev pub ArePossibleHarms : List (Harm State) → Harmed State → Type 0
    ArePossibleHarms [] h = Unit {0}
    ArePossibleHarms (m ∷ ms) h = IsPossibleHarm h m × ArePossibleHarms ms (harms WINDOW ends h m)

    -- the steps of a stretch that leaves these ids of its word unanswered are possible: if none is left, after its synchronization; else
    -- there are no steps
    abbrev pub ArePossibleIfSynchronized : List ℕ → HarmedStretch State → Type 0
    ArePossibleIfSynchronized [] s = ArePossibleHarms s.steps (once_synchronized s)
    ArePossibleIfSynchronized (asked ∷ rest) s = s.steps ≡ []

    -- what happens in a stretch is possible
    pub record IsPossibleStretch (s : HarmedStretch State) : Type 0 where
      pub turns : AllMaySyncHarm ends Good kept s.turns (begins s.over)
      pub steps : ArePossibleIfSynchronized (synchronized s).left s

  -- How much damage.

  -- at this step no damaged line comes that settles something, or the last line that settled something was undamaged
  abbrev pub IsApart : Holding State → Harm State → Type 0
  IsApart g (Does move) = Unit {0}
  IsApart g (Damages line) = (ended g.harmed (harms WINDOW ends g.harmed (Damages line)) ≡ 0) ⊎ (g.undamaged ≡ true)
  IsApart g (Strikes id call) = Unit {0}

  -- at none of these steps a damaged line settles something right after another one did
  abbrev pub AreApart : List (Harm State) → Holding State → Type 0
  AreApart [] g = Unit {0}
  AreApart (m ∷ ms) g = IsApart g m × AreApart ms (holding_harms WINDOW ends g m)

  -- nothing is damaged while the station synchronizes, and the word isn't in flight when it begins to
  pub record IsSynchronizedUndamaged (s : HarmedStretch State) : Type 0 where
    pub turns : List (SyncTurn State)
    pub undamaged : s.turns ≡ map sync.Does turns
    pub lacks : LacksTheWord s.over

  -- damage is apart in a stretch. Its eighth null procedure is answered by its own reply, whatever else is damaged while it synchronizes, or
  -- it is `IsSynchronizedUndamaged`; and of the lines that settle something after that, no two in a row are damaged. Lines that settle
  -- nothing don't count, and the reply to the eighth null procedure counts as undamaged
  pub record HasDamageApart (s : HarmedStretch State) : Type 0 where
    pub begun : OwnEighthComes ends s.over s.turns ⊎ IsSynchronizedUndamaged s
    pub apart : AreApart s.steps (holding_begun WINDOW ends (left_by_sync ends s.over s.turns))

  -- nothing is damaged while the station synchronizes, and no two lines in a row that settle something after that are damaged
  pub record IsDamagedOnceSynchronized (s : HarmedStretch State) : Type 0 where
    pub turns : List (SyncTurn State)
    pub undamaged : s.turns ≡ map sync.Does turns
    pub apart : AreApart s.steps (holding_begun WINDOW ends (left_by_sync ends s.over s.turns))
