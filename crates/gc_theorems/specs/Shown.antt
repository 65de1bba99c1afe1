-- What a line shows to a station, this project's own: the steps of its synchronization; and a stretch, what happens once it has
-- synchronized, over what the synchronization left in flight.
use Rattle.gc_theorems.specs.Common.{WINDOW, Part}
use Rattle.std.specs.Prelude.{◌≡◌, ℕ, List, [], ◌∷◌, ◌++◌}
use Rattle.gc_theorems.specs.World.{Ends}
use Rattle.gc_theorems.specs.Begin.{InFlight, SyncModel, SyncTurn, Asks, Comes, Foreign, Reaches, Up_lose, Up_repeat, Down_lose, Down_repeat, Anew, Changes, UnderWay, begins, left_by_turns, turns}
use Rattle.gc_theorems.specs.Beginnings.{Run, left_by_run}
use Rattle.gc_theorems.specs.Field.{Move, seen}
use Rattle.gc_station.specs.Parts as part

-- the step at which the front one of these replies is heard; no step if there is no reply
abbrev pub first_heard : List (InFlight (List ℕ)) → List part.SyncStep
first_heard [] = []
first_heard (x ∷ rest) = part.Hears x.line ∷ []

module _ {State : Type 0} where
  -- what a turn of the field shows to the synchronizing station: its null procedure is sent, or a line is heard; what happens
  -- on the line is nothing to the station
  abbrev pub shows : SyncModel State → SyncTurn State → List part.SyncStep
  shows s Asks = part.Asks ∷ []
  shows s Comes = first_heard s.down
  shows s (Foreign line) = part.Hears line ∷ []
  shows s Reaches = []
  shows s (Up_lose k) = []
  shows s (Up_repeat k) = []
  shows s (Down_lose k) = []
  shows s (Down_repeat k) = []
  shows s Anew = []
  shows s (Changes state) = []

  -- what these turns of the field show to the synchronizing station, in order
  abbrev pub shown : Ends State → List (SyncTurn State) → SyncModel State → List part.SyncStep
  shown ends [] s = []
  shown ends (t ∷ ts) s = shows s t ++ shown ends ts (turns ends s t)

-- a run once it has synchronized: what is in flight then, and what happens from there on
pub record Stretch (State : Type 0) : Type 0 where
  pub from : UnderWay State
  pub moves : List (Move State)

module _ {State : Type 0} (ends : Ends State) where
  -- the stretches of runs, each over what the run before it left. The stretch of a run that never synchronized has no moves, if
  -- the runs are possible
  abbrev pub stretches : UnderWay State → List (Run State) → List (Stretch State)
  stretches u [] = []
  stretches u (r ∷ rs) = record { from = left_by_turns ends r.turns u; moves = r.moves } ∷ stretches (left_by_run WINDOW ends u r) rs

  -- each run goes with one part of the station's run, in order: what its synchronization shows are the part's steps of a
  -- synchronization, and what its moves show the client are the part's steps of the client
  abbrev pub AreShownAs : UnderWay State → List (Run State) → List Part → Type 0
  AreShownAs u [] [] = Unit {0}
  AreShownAs u (r ∷ rs) (p ∷ ps) = (shown ends r.turns (begins u) ≡ p.sync_steps) × (seen r.moves ≡ p.steps) × AreShownAs (left_by_run WINDOW ends u r) rs ps
  AreShownAs u _ _ = ⊥
