-- No part of a promise: what a stage shows of the streams of a run. A stage is what the code keeps while it plays events:
-- the report so far, the client, and for each direction a side, with the lines in flight in it.
use Rattle.gc_world.specs.Common.{AllByRecursion, IsFitting, Call, IDS, ById, Windowed}
use Rattle.std.specs.Prelude.{◌≡◌, ℕ, ◌<◌, List, Option, Some, Result, IsOk, map, slice_get}
use Rattle.gc_world.specs.declared.event.Event.{Event}
use Rattle.gc_world.specs.declared.report.Made.{Made}
use Rattle.gc_world.specs.declared.report.Report.{Report}
use Rattle.gc_world.specs.declared.report.Sent.{Sent}
use Rattle.gc_world.specs.declared.side.Side.{Side}
use Rattle.gc_world.specs.declared.stage.Stage.{Stage}
use Rattle.gc_world.specs.Behaviours.{Behaviour, ends_with}
use Rattle.gc_world.specs.Clients.{by_ids}
use Rattle.gc_world.specs.Memory.{TakesNoMemory}
use Rattle.gc_world.specs.Order.{numbers}
use Rattle.gc_world.specs.Reports.{made_seen, IsReport}
use Rattle.gc_world.specs.Sides.{IsFlow}
use Rattle.gc_world.specs.Staging.{Staging}
use Rattle.gc_world.specs.Streams.{Streams, up_texts, down_texts}
use Rattle.gc_world.specs.World.{Request, Numbered, Step, World, bytes_of, happens}

-- the world after one step of the run by ids, with a window of this width
abbrev pub after_step : {State : Type 0} → Behaviour State → ℕ → World (ById Call) State → Step → World (ById Call) State
after_step b width w step = happens (ends_with b) (by_ids width (ends_with b)) w step

-- the request in flight with this number is the one that was sent with it: its id is a digit below 8, and its call's numbers
-- lie in their types
pub record IsSentIn (sent : List Sent) (x : Numbered Request) : Type 0 where
  pub request : Sent
  pub found : slice_get sent x.number ≡ Some request
  pub line : request.line.items ≡ bytes_of x.line
  pub digit : x.line.id < IDS
  pub fits : IsFitting x.line.call

-- the replies of the report at these places, in order; none at a place past the end
abbrev pub replies_at : List Made → List ℕ → List (Option (Numbered (List ℕ)))
replies_at made places = map (slice_get (map made_seen made)) places

-- the report, the queues and the client are those of this world, for a client with a window of this width
pub record AreOfWorld {State : Type 0} (width : ℕ) (report : Report State) (up down : List ℕ) (client : Windowed Call) (w : World (ById Call) State) : Type 0 where
  pub reports : IsReport report w.wire
  -- the queue upward has the numbers of the requests in flight, and the queue downward the replies' places in the report
  pub up_is : up ≡ numbers w.wire.up
  pub down_is : replies_at report.made down ≡ map Some w.wire.down
  pub client_is : client ≡ record { width = width; ids = w.client }
  -- the id that the client gives next is below 8, each request in flight is the one that was sent with its number, and the
  -- numbers of each call that was sent lie in their types
  pub next : w.client.next < IDS
  pub requests : AllByRecursion (IsSentIn report.sent) w.wire.up
  pub calls : AllByRecursion (λ (q : Sent). IsFitting q.call) report.sent

-- the parts of a stage that show the streams
pub record StageParts (State : Type 0) : Type 0 where
  pub report : Report State
  pub up : Side
  pub down : Side
  pub client : Windowed Call

-- the report, the two sides and the client of a stage
abbrev pub stage_parts : {W State : Type 0} → Stage W State → StageParts State
stage_parts s = record { report = s.report; up = s.up; down = s.down; client = s.client }

-- the report, the two sides and the client are those of these streams
pub record AreStreamsOf {State : Type 0} (width : ℕ) (s : StageParts State) (v : Streams (ById Call) State) : Type 0 where
  pub lines : AreOfWorld width s.report s.up.queue s.down.queue s.client v.world
  pub up_is : s.up.gone ≡ v.up_gone
  pub down_is : s.down.gone ≡ v.down_gone
  pub up_flow : IsFlow s.up.assembler s.up.gone (up_texts v.world.wire)
  pub down_flow : IsFlow s.down.assembler s.down.gone (down_texts v.world.wire)

-- a stage whose client's window is this wide shows these streams
abbrev pub Shows : {W State : Type 0} → ℕ → Stage W State → Streams (ById Call) State → Type 0
Shows width s v = AreStreamsOf width (stage_parts s) v

-- the kind of stage whose runs are on an instrument that behaves so
abbrev pub staging : {W State : Type 0} → Behaviour State → Staging (Stage W State) State
staging {W} {State} b = record { ends = ends_with b; shows = Shows {W = W} {State = State} }

-- whatever streams the stage shows: if the event takes no memory on them, the result is `Ok`
abbrev pub IsOkWithoutMemory : {W State A E : Type 0} → Stage W State → Event → Result A E → Type 0
IsOkWithoutMemory {W} {State} s e result = (width : ℕ) (v : Streams (ById Call) State) → Shows width s v → TakesNoMemory width v e → IsOk result
