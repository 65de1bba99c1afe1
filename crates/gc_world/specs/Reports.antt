-- What the report of a run is, and how long it can become. This project's own.
use Rattle.gc_world.specs.Common.{Call, Windowed, AreSettlements, State, Kept, StandsFor}
use Rattle.std.specs.Prelude.{◌≡◌, ℕ, ◌≤◌, List, length, map}
use Rattle.gc_world.specs.declared.direction.Direction.{Direction}
use Rattle.gc_world.specs.declared.direction.Direction.TheVariants.{Up, Down}
use Rattle.gc_world.specs.declared.event.Event.{Event}
use Rattle.gc_world.specs.declared.report.Made.{Made}
use Rattle.gc_world.specs.declared.report.Report.{Report}
use Rattle.gc_world.specs.Clients.{played, left_by_ids, streamed}
use Rattle.gc_world.specs.Directions.{gone, lines}
use Rattle.gc_world.specs.Faithful.{ActsOnce, Faithful, sent_seen}
use Rattle.gc_world.specs.Streams.{gone_of}
use Rattle.gc_world.specs.World.{Numbered, Wire}

-- a reply of the report as the world speaks of it: its number and its line's bytes
abbrev pub made_seen : Made → Numbered (List ℕ)
made_seen m = record { number = m.number; line = m.line.items }

-- the report has the instrument's state of this wire, and its lists and counts of what has happened, but not its queues
pub record IsReport {S : Type 0} (r : Report S) (w : Wire S) : Type 0 where
  pub sent : map sent_seen r.sent ≡ w.sent
  pub executed : r.executed ≡ w.executed
  pub made : map made_seen r.made ≡ w.made
  pub settled : AreSettlements r.settled w.settled
  pub starts : r.starts ≡ w.starts
  pub instrument : r.instrument ≡ w.state
  pub refused : r.refused_sends ≡ w.refused
  pub idle : r.idle_events ≡ w.idle

-- no list of the report is longer than n
pub record IsNoLongerThan (n : ℕ) {S : Type 0} (r : Report S) : Type 0 where
  pub sent : length r.sent ≤ n
  pub executed : length r.executed ≤ n
  pub made : length r.made ≤ n
  pub settled : length r.settled ≤ n
  pub starts : length r.starts ≤ n

-- What a run of these events leaves, from the restarted opening state on, with a window of this width.

-- the assembler stands for the bytes of the front line of this direction that have gone over
abbrev pub StandsForGone : Direction → (width : ℕ) → (opening : State) → List Event → Kept → Type 0
StandsForGone d width opening events kept = let v = streamed width opening events in StandsFor kept (gone_of (gone d v) (lines d v.world.wire))

-- the report and the client are what playing these events gives. Both are those of the run by ids, and each of the two assemblers
-- in the report stands for what has gone over of the front line of its direction. The report is faithful, by it each request acts
-- at most once, and none of its lists is longer than the list of events
pub record IsPlayOf (width : ℕ) (opening : State) (events : List Event) (r : Report State) (c : Windowed Call) : Type 0 where
  pub report : IsReport r (left_by_ids width opening events)
  pub client : c ≡ record { width = width; ids = (played width opening events).client }
  pub up : StandsForGone Up width opening events r.up
  pub down : StandsForGone Down width opening events r.down
  pub faithful : Faithful width opening events r
  pub once : ActsOnce opening r
  pub few : IsNoLongerThan (length events) r
