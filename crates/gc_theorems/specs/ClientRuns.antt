-- What a client does over a line, this project's own, with its synchronizations as events: run after run, each from one
-- synchronization to the next. A run synchronizes by its null procedures, among whatever is in flight by then, and then sends. After a
-- restart the next run begins among what the run before it left.
use Rattle.gc_theorems.specs.Common.{Asked, the_word, asks, ById, Settlement, fresh, lost, KeptReply, ClientEvent, Null, Came, Stepped, by_ids}
use Rattle.std.specs.Prelude.{ℕ, List, [], ◌∷◌, ◌++◌, map, drop, Option, Some, None}
use Rattle.gc_theorems.specs.World.{Ends, World}
use Rattle.gc_theorems.specs.Begin.{InFlight, AreTurns, Asks, Comes, Foreign, SyncModel, SyncTurn, UnderWay, begins, leaves, turns}
use Rattle.gc_theorems.specs.Beginnings.{Run, left_by_run, after_turns}
use Rattle.gc_theorems.specs.Begun.{world_once_begun, ids_begun}
use Rattle.gc_theorems.specs.Field.{ArePossible, seen}
use Rattle.gc_client.specs.OneForOne as one

-- What a run is to the client.

-- the event of a line that is sent while the client synchronizes: a null procedure is asked for. Without a line there is no
-- event
abbrev pub ask_events : Option (List ℕ) → List ClientEvent
ask_events None = []
ask_events (Some line) = Null ∷ []

-- the event that the front one of these replies comes; none if there is no reply
abbrev pub came_of : List (InFlight (List ℕ)) → List ClientEvent
came_of [] = []
came_of (x ∷ rest) = Came x.line ∷ []

-- the event that a turn of a synchronization is to the client: a turn of the line or of the instrument is none
abbrev pub event_of : {State : Type 0} → SyncModel State → SyncTurn State → List ClientEvent
event_of s Asks = ask_events (asks s.left)
event_of s Comes = came_of s.down
event_of s (Foreign line) = Came line ∷ []
event_of s other = []

-- a run in its place: the run, and what was in flight when it began
pub record PlacedRun (State : Type 0) : Type 0 where
  pub before : UnderWay State
  pub run : Run State

module _ {State : Type 0} (ends : Ends State) where
  -- the events that the turns of a synchronization are to the client
  abbrev pub events_of : SyncModel State → List (SyncTurn State) → List ClientEvent
  events_of s [] = []
  events_of s (t ∷ ts) = event_of s t ++ events_of (turns ends s t) ts

  -- the state of a run's synchronization, once that is over or the run was ended while it synchronized
  abbrev pub begun_at : PlacedRun State → SyncModel State
  begun_at p = after_turns ends p.before p.run

module _ {State : Type 0} (width : ℕ) (ends : Ends State) where
  -- the events that runs are to the client: the client restarts between them
  abbrev pub events_over : UnderWay State → List (Run State) → List ClientEvent
  events_over u [] = []
  events_over u (r ∷ []) = events_of ends (begins u) r.turns ++ map Stepped (seen r.moves)
  events_over u (r ∷ next ∷ others) =
      events_of ends (begins u) r.turns ++ (map Stepped (seen r.moves) ++ Stepped one.Restart ∷ events_over (left_by_run width ends u r) (next ∷ others))

  -- Runs, one after the other.

  -- the world after a run
  abbrev pub world : PlacedRun State → World (ById Asked) State
  world p = world_once_begun width ends (leaves (begun_at ends p)) p.run.moves

  -- the runs, each with what was in flight when it began: `u` for the first, and for each other what the run before it left
  abbrev pub placed_runs : UnderWay State → List (Run State) → List (PlacedRun State)
  placed_runs u [] = []
  placed_runs u (r ∷ rs) = record { before = u; run = r } ∷ placed_runs (left_by_run width ends u r) rs

  -- what happens is possible, in the synchronization of each run and after it, over an instrument with states of which `Good`
  -- holds, which retain the reply `kept`. That the run has synchronized before its moves is no premise
  abbrev pub ArePossibleRuns : (Good : State → Type 0) → (kept : State → Option KeptReply) → UnderWay State → List (Run State) → Type 0
  ArePossibleRuns Good kept u [] = Unit {0}
  ArePossibleRuns Good kept u (r ∷ rs) =
      (AreTurns ends Good kept r.turns (begins u) × ArePossible ends Good kept (by_ids width ends) r.moves (ids_begun (leaves (after_turns ends u r))))
      × ArePossibleRuns Good kept (left_by_run width ends u r) rs

  -- What runs settle.

  -- what the client settles in a run, by the ids that aren't answered: all but the eight null procedures once it has
  -- synchronized, and nothing before
  abbrev pub settled_if : (left : List ℕ) → World (ById Asked) State → List (Settlement Asked)
  settled_if [] w = drop 8 w.wire.settled
  settled_if (asked ∷ later) w = []

  -- what the client settles at the restart after a run: what is outstanding, as lost, if the run has synchronized, else
  -- nothing
  abbrev pub lost_if : (left : List ℕ) → World (ById Asked) State → List (Settlement Asked)
  lost_if [] w = map lost w.client.waiting
  lost_if (asked ∷ later) w = []

  -- what the client settles over runs with restarts between them
  abbrev pub settled_over : List (PlacedRun State) → List (Settlement Asked)
  settled_over [] = []
  settled_over (p ∷ []) = settled_if (begun_at ends p).left (world p)
  settled_over (p ∷ next ∷ others) =
      (settled_if (begun_at ends p).left (world p) ++ lost_if (begun_at ends p).left (world p)) ++ settled_over (next ∷ others)

  -- the client after a run, by the ids that aren't answered: a new one if the run hasn't synchronized
  abbrev pub client_if : (left : List ℕ) → World (ById Asked) State → ById Asked
  client_if [] w = w.client
  client_if (asked ∷ later) w = fresh

  -- the client after runs: that after the last one; a new one if there is no run
  abbrev pub client_over : List (PlacedRun State) → ById Asked
  client_over [] = fresh
  client_over (p ∷ []) = client_if (begun_at ends p).left (world p)
  client_over (p ∷ next ∷ others) = client_over (next ∷ others)

  -- the ids of a synchronization that aren't answered after runs: those of the last one; all ids of the word if there is no run
  abbrev pub left_over : List (PlacedRun State) → List ℕ
  left_over [] = the_word
  left_over (p ∷ []) = (begun_at ends p).left
  left_over (p ∷ next ∷ others) = left_over (next ∷ others)
