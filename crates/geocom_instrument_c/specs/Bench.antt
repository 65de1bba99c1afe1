-- The state of an instrument over bytes, and calls where there may be none: this project's own.
use Rattle.std.specs.Prelude.{◌≡◌, Option, Some, None}
use Rattle.gc_lines.specs.Prelude.{Kept}
use Rattle.gc_scenes.specs.Prelude.{SlowState}

-- an instrument over bytes: that of a scene (`slow`), with what is kept of the bytes since the last line feed (`incomplete`)
pub record BenchState : Type 0 where
  pub slow : SlowState
  pub incomplete : Kept

-- a call where there may be no instrument: without one there is none after the call, and `Without` holds; with one there is one after
-- the call, and `With` holds of its states before and after
pub record CallsBench (before after : Option BenchState) (Without : Type 0) (With : (from to : BenchState) → Type 0) : Type 0 where
  pub absent : before ≡ None → (after ≡ None) × Without
  pub present : (b : BenchState) → before ≡ Some b → (c : BenchState) × (after ≡ Some c) × With b c
