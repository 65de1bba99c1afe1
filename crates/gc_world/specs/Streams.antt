-- The line as two streams of bytes, this project's own. Each line in flight is its bytes with CR LF; of the front line of
-- each direction some first bytes may have gone. It is in flight until its last byte goes, and with that one it is handed
-- over.
use Rattle.gc_world.specs.Common.{with_end}
use Rattle.std.specs.Prelude.{ℕ, zero, suc, ◌+◌, ◌-◌, ◌&&◌, Bool, List, [], ◌∷◌, length, map, take, replicate, if◌then◌else◌, nat_lt, nat_eq}
use Rattle.gc_world.specs.declared.event.Event.{Event}
use Rattle.gc_world.specs.World.{Ends, Rule, Wire, World, Step, bytes_of, Send, Up_deliver, Up_lose, Up_repeat, Down_deliver, Down_lose, Down_repeat, Expire, Restart_client, Restart_instrument, Nothing, run}
use Rattle.gc_world.specs.declared.event.Event.TheVariants as event

-- What is in flight.

module _ {State : Type 0} where
  -- the text of each line in flight to the instrument, without CR LF, the front line first
  abbrev pub up_texts : Wire State → List (List ℕ)
  up_texts w = map (λ x. bytes_of x.line) w.up

  -- the text of each line in flight to the client, without CR LF, the front line first
  abbrev pub down_texts : Wire State → List (List ℕ)
  down_texts w = map (λ x. x.line) w.down

  -- the bytes of each line in flight to the instrument, with CR LF, the front line first
  abbrev pub up_lines : Wire State → List (List ℕ)
  up_lines w = map with_end (up_texts w)

  -- the bytes of each line in flight to the client, with CR LF, the front line first
  abbrev pub down_lines : Wire State → List (List ℕ)
  down_lines w = map with_end (down_texts w)

-- a world, and how many bytes of the front line of each direction have gone
pub record Streams (Client State : Type 0) : Type 0 where
  pub world : World Client State
  pub up_gone : ℕ
  pub down_gone : ℕ

-- a world of whose lines in flight no byte has gone
abbrev pub untouched : {Client State : Type 0} → World Client State → Streams Client State
untouched w = record { world = w; up_gone = 0; down_gone = 0 }

-- the first `gone` bytes of the front line, which have gone; none where there is no line
abbrev pub gone_of : ℕ → List (List ℕ) → List ℕ
gone_of gone [] = []
gone_of gone (line ∷ lines) = take gone line

-- how many bytes of the front line, of which `gone` have gone, are still to go: 0 where there is no line
abbrev pub remaining : ℕ → List (List ℕ) → ℕ
remaining gone [] = 0
remaining gone (line ∷ lines) = length line - gone

-- What an event does to a stream.

-- how many lines some bytes complete, and how many bytes of the next one have gone then
pub record Cut : Type 0 where
  pub lines : ℕ
  pub gone : ℕ

-- a cut with one more completed line in front
abbrev pub one_line_more : Cut → Cut
one_line_more c = record { lines = suc c.lines; gone = c.gone }

-- how many of these lines their first n bytes complete, and how many bytes of the next one those reach: 0 if there is no next one
abbrev pub cut : List (List ℕ) → ℕ → Cut
cut [] n = record { lines = 0; gone = 0 }
cut (line ∷ lines) n = if nat_lt n (length line) then record { lines = 0; gone = n } else one_line_more (cut lines (n - length line))

-- the steps of the world that an event makes, and how many bytes of each front line have gone then
pub record Effect : Type 0 where
  pub steps : List Step
  pub up_gone : ℕ
  pub down_gone : ℕ

-- the effect of an event that is this one step, after which `up` and `down` bytes of the two front lines have gone
abbrev pub of_one_step : Step → (up down : ℕ) → Effect
of_one_step step up down = record { steps = step ∷ []; up_gone = up; down_gone = down }

-- whether the first byte of line k has gone, where `gone` bytes of the front line have gone: k is 0, and `gone` isn't
abbrev pub is_begun : (k gone : ℕ) → Bool
is_begun k gone = nat_eq k 0 && nat_lt 0 gone

-- the step that loses or repeats line k, where `gone` bytes of the front line have gone; it isn't possible once the first byte of
-- line k has gone
abbrev pub at_line : (k gone : ℕ) → Step → Step
at_line k gone step = if is_begun k gone then Nothing else step

-- the steps that the next n bytes of a direction make, where `gone` bytes of the front line have gone: `step`, which hands
-- over a line, once for each line that they complete. Where n is 0, or no line is in flight, it is the one step that isn't
-- possible
abbrev pub passed : Step → List (List ℕ) → (gone n : ℕ) → List Step
passed step [] gone n = Nothing ∷ []
passed step (line ∷ lines) gone zero = Nothing ∷ []
passed step (line ∷ lines) gone (suc n) = replicate (cut (line ∷ lines) (gone + suc n)).lines step

-- how many bytes of the front line have gone once the next n bytes of a direction went over, with these lines in flight, of the
-- first of which `gone` bytes had gone before
abbrev pub left_gone : List (List ℕ) → (gone n : ℕ) → ℕ
left_gone [] gone n = gone
left_gone (line ∷ lines) gone zero = gone
left_gone (line ∷ lines) gone (suc n) = (cut (line ∷ lines) (gone + suc n)).gone

-- the effect of an event, with the lines `ups` in flight upward, `up` bytes of whose front line have gone, and the lines `downs`
-- downward, `down` bytes of whose front line have gone
abbrev pub effect : (ups downs : List (List ℕ)) (up down : ℕ) → Event → Effect
effect ups downs up down (event.Send target call deadline) = of_one_step (Send target call deadline) up down
effect ups downs up down event.UpDeliver = of_one_step Up_deliver 0 down
effect ups downs up down (event.UpBytes n) = record { steps = passed Up_deliver ups up n; up_gone = left_gone ups up n; down_gone = down }
effect ups downs up down (event.UpLose k) = of_one_step (at_line k up (Up_lose k)) up down
effect ups downs up down (event.UpRepeat k) = of_one_step (at_line k up (Up_repeat k)) up down
effect ups downs up down event.DownDeliver = of_one_step Down_deliver up 0
effect ups downs up down (event.DownBytes n) = record { steps = passed Down_deliver downs down n; up_gone = up; down_gone = left_gone downs down n }
effect ups downs up down (event.DownLose k) = of_one_step (at_line k down (Down_lose k)) up down
effect ups downs up down (event.DownRepeat k) = of_one_step (at_line k down (Down_repeat k)) up down
effect ups downs up down (event.Expire now) = of_one_step (Expire now) up down
effect ups downs up down event.RestartClient = of_one_step Restart_client up down
effect ups downs up down event.RestartInstrument = of_one_step Restart_instrument up down

-- Runs.

module _ {Client State : Type 0} where
  -- the effect of an event on these streams
  abbrev pub effect_on : Streams Client State → Event → Effect
  effect_on v e = effect (up_lines v.world.wire) (down_lines v.world.wire) v.up_gone v.down_gone e

  -- the streams after an event
  abbrev pub flows : Ends State → Rule Client → Streams Client State → Event → Streams Client State
  flows ends rule v e = let c = effect_on v e in record { world = run ends rule c.steps v.world; up_gone = c.up_gone; down_gone = c.down_gone }

  -- the streams after all events of a list, in order
  abbrev pub flow : Ends State → Rule Client → List Event → Streams Client State → Streams Client State
  flow ends rule [] v = v
  flow ends rule (e ∷ es) v = flow ends rule es (flows ends rule v e)
