-- Not cited by theorems: the result of a read of a rehearsed line.
use Rattle.std.specs.Prelude.{◌≡◌, ℕ, List, [], ◌∷◌, Option, Some, None}
use Rattle.gc_links.specs.Prelude.{Act, AddsActs, CameWithin, read_act}
use Rattle.gc_links.specs.declared.link.Came.{Came}

-- a read with this result adds one act to those before. If it gave bytes, they are at least one, and no more than `buf` has room
-- for
pub record AddsRead (old new : Option (List Act)) (came : Came) (buf : List ℕ) : Type 0 where
  pub tells : AddsActs old new (read_act came buf ∷ [])
  pub within : CameWithin came buf

-- a read is over, with the result in `Some`; or it goes on (`None`), and has added no act yet
abbrev pub MayRead : (old new : Option (List Act)) → Option Came → (buf : List ℕ) → Type 0
MayRead old new None buf = new ≡ old
MayRead old new (Some came) buf = AddsRead old new came buf
