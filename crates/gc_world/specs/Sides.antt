-- No part of a promise: what a side carries. A side is what the code keeps of the lines in flight in one direction: their
-- places in the report, how many bytes of the front line have gone, and the assembler of those bytes.
use Rattle.gc_world.specs.Common.{AllByRecursion, Kept, StandsFor, IsPlain, with_end}
use Rattle.std.specs.Prelude.{◌≡◌, ℕ, ◌+◌, ◌<◌, true, false, List, [], ◌∷◌, length, take, Option, Some, map, slice_get, if◌then◌else◌, nat_lt}
use Rattle.std.specs.Option.{option_map}
use Rattle.gc_world.specs.declared.direction.Direction.{Direction}
use Rattle.gc_world.specs.declared.direction.Direction.TheVariants.{Up, Down}
use Rattle.gc_world.specs.declared.report.Made.{Made}
use Rattle.gc_world.specs.declared.report.Report.{Report}
use Rattle.gc_world.specs.declared.report.Sent.{Sent}
use Rattle.gc_world.specs.declared.side.Side.{Side}
use Rattle.gc_world.specs.Streams.{gone_of, is_begun, remaining}

-- the text of the line at this place of a direction's list in the report, if the list is so long: `sent` upward, and `made`
-- downward
abbrev pub text_at : {S : Type 0} → Direction → Report S → ℕ → Option (List ℕ)
text_at Up r place = option_map (λ (q : Sent). q.line.items) (slice_get r.sent place)
text_at Down r place = option_map (λ (m : Made). m.line.items) (slice_get r.made place)

-- `gone` counts bytes of the front line, never all of them, and is 0 where no line is in flight
abbrev pub IsPartOfFront : ℕ → List (List ℕ) → Type 0
IsPartOfFront gone [] = gone ≡ 0
IsPartOfFront gone (line ∷ lines) = gone < length line

-- the texts are lines without their CR LF. Of the first line, with its CR LF, `gone` bytes have gone, and not the last one; where
-- there is no line, `gone` is 0. The assembler stands for the bytes that have gone, and no text has a CR or an LF in it
pub record IsFlow (kept : Kept) (gone : ℕ) (texts : List (List ℕ)) : Type 0 where
  pub part : IsPartOfFront gone (map with_end texts)
  pub stands : StandsFor kept (gone_of gone (map with_end texts))
  pub plain : AllByRecursion IsPlain texts

-- the queue of a side names these texts in the report, in order, and the side's assembler stands for what has gone of the first
pub record Carries {S : Type 0} (d : Direction) (r : Report S) (s : Side) (texts : List (List ℕ)) : Type 0 where
  pub names : map (text_at d r) s.queue ≡ map Some texts
  pub flow : IsFlow s.assembler s.gone texts

-- the side carries some texts in this direction, and more than n bytes of their front line are still to go
abbrev pub CarriesMoreThan : {S : Type 0} → Direction → Report S → Side → ℕ → Type 0
CarriesMoreThan d r s n = (texts : List (List ℕ)) × Carries d r s texts × (n < remaining s.gone (map with_end texts))

-- whatever texts the side `old` carries in this direction, the assembler and the count of `new` are a flow of them
abbrev pub KeepsFlow : {S : Type 0} → Direction → Report S → (old new : Side) → Type 0
KeepsFlow d r old new = (texts : List (List ℕ)) → Carries d r old texts → IsFlow new.assembler new.gone texts

-- the assembler stands for the first `gone` bytes of this line with its CR LF
abbrev pub StandsForPart : Kept → (gone : ℕ) → (line : List ℕ) → Type 0
StandsForPart kept gone line = StandsFor kept (take gone (with_end line))

-- what a loss or a repeat of line k does to a side, and to the count of idle events, which changes from `before` to `after`. If
-- a byte of line k has gone, the side is as it was, and the count grows by one. Else this queue takes the place of the old one,
-- and the count grows by one only where there is no line k
pub record ReplacesQueue (k : ℕ) (queue : List ℕ) (old new : Side) (before after : ℕ) : Type 0 where
  pub held : is_begun k old.gone ≡ true → (new ≡ old) × (after ≡ before + 1)
  pub done : is_begun k old.gone ≡ false
      → (new ≡ record old { queue = queue }) × (after ≡ (if nat_lt k (length old.queue) then before else before + 1))
