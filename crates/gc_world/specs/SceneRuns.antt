-- A run on the instrument of a scene, this project's own: the world of runs on the simulator, with this instrument in place of the simulator.
-- What the client and the line do is the same.
use Rattle.gc_world.specs.Common.{call_fields, Call, ById, Handed, handed_call, SceneState, scene_restarted}
use Rattle.std.specs.Prelude.{ℕ, List, Some}
use Rattle.gc_world.specs.declared.event.Event.{Event}
use Rattle.gc_world.specs.Behaviours.{Behaviour, ends_with}
use Rattle.gc_world.specs.Clients.{streamed_between, played_between}
use Rattle.gc_world.specs.Streams.{Streams}
use Rattle.gc_world.specs.World.{Ends, World}

-- what the instrument does with the request line of this call with this id
abbrev pub scene_handed : SceneState → ℕ → Call → Handed SceneState
scene_handed s id call = handed_call s (call_fields call).number (Some id) call

-- what the instrument of a scene does
abbrev pub scene : Behaviour SceneState
scene = record { handed = scene_handed; restarted = scene_restarted }

-- the two ends: the instrument of a scene, and a client that reads replies by their grammar. A restart of the client restarts the
-- instrument too, as in a run on the simulator
abbrev pub scene_ends : Ends SceneState
scene_ends = ends_with scene

-- the streams that the run by ids of these events leaves on the instrument of a scene (`streamed_between`)
abbrev pub scene_streamed : ℕ → SceneState → List Event → Streams (ById Call) SceneState
scene_streamed width opening events = streamed_between scene_ends width opening events

-- the world that the run by ids of these events leaves on the instrument of a scene
abbrev pub scene_played : ℕ → SceneState → List Event → World (ById Call) SceneState
scene_played width opening events = played_between scene_ends width opening events
