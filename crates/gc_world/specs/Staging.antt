-- No part of a promise: how code follows a run by ids between any two ends, event by event. What the code keeps of the run is a
-- stage; which streams a stage shows is said of each kind of stage.
use Rattle.gc_world.specs.Common.{Call, ById}
use Rattle.std.specs.Prelude.{◌≡◌, ℕ, ◌<◌}
use Rattle.gc_world.specs.declared.direction.Direction.{Direction}
use Rattle.gc_world.specs.declared.event.Event.{Event}
use Rattle.gc_world.specs.Clients.{by_ids, ids_open}
use Rattle.gc_world.specs.Directions.{to_go, handed_over}
use Rattle.gc_world.specs.Streams.{Streams, untouched, flows}
use Rattle.gc_world.specs.World.{Ends}

-- The run, by ids and with a client's window of this width.

module _ {State : Type 0} (ends : Ends State) where
  -- the streams before the first event: the instrument is restarted from this state, and nothing is in flight
  abbrev pub streams_at_start : State → Streams (ById Call) State
  streams_at_start opening = untouched (ids_open (ends.restarted opening))

  -- the streams after one more event
  abbrev pub after_event : (width : ℕ) → Streams (ById Call) State → Event → Streams (ById Call) State
  after_event width v e = flows ends (by_ids width ends) v e

  -- the streams after the next n bytes of a direction, or after all that are in flight if these are fewer; no idle event is
  -- counted, even for 0 bytes
  abbrev pub after_bytes : (width : ℕ) → Direction → Streams (ById Call) State → (n : ℕ) → Streams (ById Call) State
  after_bytes width d v n = handed_over ends (by_ids width ends) d v n

-- What the stage shows of it.

-- a kind of stage: the two ends of the runs that it is for, and which streams such a stage shows if its client's window has this
-- width
pub record Staging (Stage State : Type 0) : Type 1 where
  pub ends : Ends State
  pub shows : ℕ → Stage → Streams (ById Call) State → Type 0

module _ {Stage State : Type 0} (staging : Staging Stage State) where
  -- the stage shows some streams
  abbrev pub ShowsSome : Stage → Type 0
  ShowsSome s = (width : ℕ) × (v : Streams (ById Call) State) × staging.shows width s v

  -- whatever streams the stage s shows, the stage t, whose client's window is as wide, shows the streams after this event
  abbrev pub Follows : Stage → Event → Stage → Type 0
  Follows s e t = (width : ℕ) (v : Streams (ById Call) State) → staging.shows width s v → staging.shows width t (after_event staging.ends width v e)

  -- whatever streams the stage s shows, the stage t, whose client's window is as wide, shows the streams after the next n bytes
  -- of the direction
  abbrev pub FollowsBytes : Stage → Direction → ℕ → Stage → Type 0
  FollowsBytes s d n t = (width : ℕ) (v : Streams (ById Call) State) → staging.shows width s v → staging.shows width t (after_bytes staging.ends width d v n)

  -- on whatever streams the stage shows, n bytes of the front line of the direction are still to go: 0 where no line is in flight
  abbrev pub HasLeft : Stage → Direction → ℕ → Type 0
  HasLeft s d n = (width : ℕ) (v : Streams (ById Call) State) → staging.shows width s v → n ≡ to_go d v

  -- on whatever streams the stage shows, more than n bytes of the front line of the direction are still to go
  abbrev pub HasMoreThan : Stage → Direction → ℕ → Type 0
  HasMoreThan s d n = (width : ℕ) (v : Streams (ById Call) State) → staging.shows width s v → n < to_go d v
