-- What an instrument did, this project's own: each request that reached it, with the state in which it found the instrument, the state
-- that it left, and the reply. So what happens on a rehearsed line and runs in the field are compared by what the instrument did.
use Rattle.gc_program_theorems.specs.Common.{asked_line, WINDOW, SceneState, SyncModel, SyncTurn, UnderWay, begins, leaves, turns, Run, after_turns, left_by_run, left_by_runs, under_way_on, ids_begun, Move, moves, scene_ends, scene_handed, Request, World, ById, Asked, Happening, LeadAll, Leads, Lines}
use Rattle.std.specs.Prelude.{ℕ, List, [], ◌∷◌, ◌++◌, Option, Some}
use Rattle.gc_world.specs.Prelude.{by_ids}
use Rattle.gc_rehearsal.specs.Prelude.{Reaches}
use Rattle.gc_theorems.specs.Begin as begin
use Rattle.gc_theorems.specs.Field as field
use Rattle.gc_theorems.specs.World as world

-- a request reached the instrument: its line, the instrument's state before and after, and the reply, if it made one
pub record Exchange : Type 0 where
  pub request : List ℕ
  pub before : SceneState
  pub after : SceneState
  pub reply : Option (List ℕ)

-- On a rehearsed line.

-- the exchange of an event that leads from the lines `l` to `n`: a request that reaches the instrument is one, and nothing else
abbrev pub exchange_at : (l : Lines) (h : Happening) (n : Lines) → Leads l h n → List Exchange
exchange_at l Reaches n does = record { request = does.line; before = l.state; after = n.state; reply = does.plays.reply } ∷ []
exchange_at l other n does = []

-- the exchanges of what happened on a line, in order
abbrev pub exchanges_of : (l : Lines) (happened : List Happening) (m : Lines) → LeadAll l happened m → List Exchange
exchanges_of l [] m all = []
exchanges_of l (h ∷ hs) m all = exchange_at l h all.0 all.1 ++ exchanges_of all.0 hs m all.2

-- In the field.

-- the exchange if the front one of these requests, if there is one, reaches the instrument in this state
abbrev pub exchange_of_front : SceneState → List Request → List Exchange
exchange_of_front state [] = []
exchange_of_front state (r ∷ rest) =
    record {
      request = asked_line (Some r.id) r.call;
      before = state;
      after = (scene_handed state r.id r.call).state;
      reply = Some (scene_handed state r.id r.call).reply;
    } ∷ []

-- the exchange if the front request of what is in flight, if there is one, reaches the instrument
abbrev pub exchange_in : UnderWay SceneState → List Exchange
exchange_in u = exchange_of_front u.state u.up

-- the exchange of a turn of a synchronization
abbrev pub exchange_of_turn : SyncModel SceneState → SyncTurn SceneState → List Exchange
exchange_of_turn b begin.Reaches = exchange_in (leaves b)
exchange_of_turn b other = []

-- the exchanges of these turns, in order
abbrev pub exchanges_of_turns : List (SyncTurn SceneState) → SyncModel SceneState → List Exchange
exchanges_of_turns [] b = []
exchanges_of_turns (t ∷ ts) b = exchange_of_turn b t ++ exchanges_of_turns ts (turns scene_ends b t)

-- the exchange of a move of a client that has synchronized
abbrev pub exchange_of_move : World (ById Asked) SceneState → Move SceneState → List Exchange
exchange_of_move w (field.OnLine world.Up_deliver) = exchange_in (under_way_on w.wire)
exchange_of_move w other = []

-- the exchanges of these moves, in order
abbrev pub exchanges_of_moves : List (Move SceneState) → World (ById Asked) SceneState → List Exchange
exchanges_of_moves [] w = []
exchanges_of_moves (m ∷ ms) w = exchange_of_move w m ++ exchanges_of_moves ms (moves scene_ends (by_ids WINDOW scene_ends) w m)

-- the exchanges of a run's moves, where its synchronization ended in the state `s`, and left these ids of its word unanswered: if it
-- left some, the run has no moves
abbrev pub exchanges_if_begun : (left : List ℕ) → (s : SyncModel SceneState) → List (Move SceneState) → List Exchange
exchanges_if_begun [] s ms = exchanges_of_moves ms (ids_begun (leaves s))
exchanges_if_begun (asked ∷ rest) s ms = []

-- the exchanges of these runs in the field, in order, over what is in flight at first
abbrev pub exchanges_of_runs : UnderWay SceneState → List (Run SceneState) → List Exchange
exchanges_of_runs u [] = []
exchanges_of_runs u (r ∷ rs) =
    exchanges_of_turns r.turns (begins u) ++ (exchanges_if_begun (after_turns scene_ends u r).left (after_turns scene_ends u r) r.moves
    ++ exchanges_of_runs (left_by_run WINDOW scene_ends u r) rs)

-- the exchanges of runs of several stations, one after the other: those of the first station's runs, and so on
abbrev pub exchanges_of_all : UnderWay SceneState → List (List (Run SceneState)) → List Exchange
exchanges_of_all u [] = []
exchanges_of_all u (rs ∷ rss) = exchanges_of_runs u rs ++ exchanges_of_all (left_by_runs WINDOW scene_ends u rs) rss
