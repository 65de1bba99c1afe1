-- The two directions of the line, by what each has of its own. This project's own.
use Rattle.gc_world.specs.Common.{with_end}
use Rattle.std.specs.Prelude.{ℕ, ◌+◌, List, map, replicate}
use Rattle.gc_world.specs.declared.direction.Direction.{Direction}
use Rattle.gc_world.specs.declared.direction.Direction.TheVariants.{Up, Down}
use Rattle.gc_world.specs.declared.event.Event.{Event}
use Rattle.gc_world.specs.Streams.{Streams, Cut, cut, remaining, up_texts, down_texts}
use Rattle.gc_world.specs.World.{Ends, Rule, Wire, World, Step, Up_deliver, Down_deliver, run}
use Rattle.gc_world.specs.declared.event.Event.TheVariants as event

-- the first of two for `Up`, the second for `Down`
abbrev pub pick : {A : Type 0} → Direction → A → A → A
pick Up up down = up
pick Down up down = down

-- the step of the world in which the front line of a direction is handed over
abbrev pub deliver : Direction → Step
deliver d = pick d Up_deliver Down_deliver

-- the event in which the front line of a direction is handed over
abbrev pub delivery : Direction → Event
delivery d = pick d event.UpDeliver event.DownDeliver

-- the event in which the next n bytes of a direction go over
abbrev pub bytes : Direction → ℕ → Event
bytes d n = pick d (event.UpBytes n) (event.DownBytes n)

module _ {State : Type 0} where
  -- the text of each line in flight in a direction, without CR LF, the front line first
  abbrev pub texts : Direction → Wire State → List (List ℕ)
  texts d w = pick d (up_texts w) (down_texts w)

  -- the bytes of each line in flight in a direction, with CR LF, the front line first
  abbrev pub lines : Direction → Wire State → List (List ℕ)
  lines d w = map with_end (texts d w)

module _ {Client State : Type 0} where
  -- how many bytes of the front line of a direction have gone over
  abbrev pub gone : Direction → Streams Client State → ℕ
  gone d v = pick d v.up_gone v.down_gone

  -- how many bytes of the front line of a direction are still to go: 0 where no line is in flight
  abbrev pub to_go : Direction → Streams Client State → ℕ
  to_go d v = remaining (gone d v) (lines d v.world.wire)

  -- the streams v, but with the world w, and with n bytes of the front line gone in this direction
  abbrev pub with_front_gone : Direction → Streams Client State → World Client State → ℕ → Streams Client State
  with_front_gone d v w n = record { world = w; up_gone = pick d n v.up_gone; down_gone = pick d v.down_gone n }

module _ {Client State : Type 0} (ends : Ends State) (rule : Rule Client) where
  -- the streams after as many deliveries in a direction as the cut has lines, and with as much gone of the next line as it says
  abbrev pub after_cut : Direction → Streams Client State → Cut → Streams Client State
  after_cut d v c = with_front_gone d v (run ends rule (replicate c.lines (deliver d)) v.world) c.gone

  -- the streams after the next n bytes of a direction were handed over
  abbrev pub handed_over : Direction → Streams Client State → (n : ℕ) → Streams Client State
  handed_over d v n = after_cut d v (cut (lines d v.world.wire) (gone d v + n))
