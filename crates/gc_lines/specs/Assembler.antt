-- No part of a promise: what an assembler keeps of the bytes since the last line feed. A reader need not know what `StandsFor`
-- means: whatever relation it is, what the assembler's contracts say of it (at the start, over a piece without a line feed, and
-- at a line feed) gives a stream's frames.
use Rattle.std.specs.Prelude.{◌≡◌, ℕ, ◌-◌, List, Bool, length, take, nat_lt, slice_index}

-- what an assembler keeps of the bytes since the last line feed, or since the start where none came: the first 513, the last one
-- (0 where there are no bytes), and whether there are more than 513
pub record Kept : Type 0 where
  pub front : List ℕ
  pub last : ℕ
  pub long : Bool

-- an assembler that keeps this may have got the bytes `rest` since the last line feed, or since the start where none came. Where
-- `rest` has at most 513 bytes, no other list fits what is kept; where it has more, many do
pub record StandsFor (kept : Kept) (rest : List ℕ) : Type 0 where
  pub front : kept.front ≡ take 513 rest
  pub last : kept.last ≡ slice_index rest (length rest - 1)
  pub long : kept.long ≡ nat_lt 513 (length rest)
