-- What contracts see of the ports for tests, and what a test asks of them: this project's own.
use Rattle.std.specs.Prelude.{◌≡◌, ℕ, ◌+◌, ◌-◌, ◌<◌, ◌≤◌, ◌==◌, ◌⊎◌, Bool, true, false, List, [], ◌∷◌, ◌++◌, length, take, drop, min, max, Result, Ok, Err}

-- a source: the bytes and the sizes of the pieces that are still to come, how many reads it answers in all, how many it has
-- answered, whether the last of these was the end, and whether a call failed
pub record SourceSeen : Type 0 where
  pub left : List ℕ
  pub sizes : List ℕ
  pub answers : ℕ
  pub reads : ℕ
  pub ended : Bool
  pub failed : Bool

-- a sink: the bytes that it took, how many it takes for each call, how many writes it is still to answer, whether a call failed,
-- and whether memory ran out then
pub record SinkSeen : Type 0 where
  pub taken : List ℕ
  pub most : ℕ
  pub answers_left : ℕ
  pub failed : Bool
  pub lacks_memory : Bool

-- the size of the next piece, where `left` bytes are left and the read has room for `room`: the first of these sizes, where 0
-- counts as 1, but at most `left` and `room`; without a size the lesser of these two
abbrev pub piece_size : (sizes : List ℕ) → (left room : ℕ) → ℕ
piece_size [] left room = min left room
piece_size (size ∷ later) left room = min (max size 1) (min left room)

-- a read as the test asked, which led the source from `old` to `new`, with room for `room` bytes: it gives the next piece, and
-- fails exactly where an earlier read has failed, or where as many reads were answered as the test asked for
abbrev pub ReadsAsAsked : {E : Type 0} → (old new : SourceSeen) → (room : ℕ) → Result ℕ E → Type 0
ReadsAsAsked old new room (Ok n) =
    (old.failed ≡ false) × (old.reads < old.answers) × (n ≡ piece_size old.sizes (length old.left) room)
    × (new ≡ record old { left = drop n old.left; sizes = drop 1 old.sizes; reads = old.reads + 1; ended = (n == 0) })
ReadsAsAsked old new room (Err _) = ((old.failed ≡ true) ⊎ (old.answers ≤ old.reads)) × (new ≡ record old { failed = true })

-- a write of these bytes as the test asked, which led the sink from `old` to `new`: it takes all of them, or the first `most` if
-- they are more, and fails exactly where an earlier write has failed, where as many writes were answered as the test asked for,
-- or where memory ran out
abbrev pub WritesAsAsked : {E : Type 0} → (old new : SinkSeen) → (bytes : List ℕ) → Result ℕ E → Type 0
WritesAsAsked old new bytes (Ok n) =
    (old.failed ≡ false) × (0 < old.answers_left) × (n ≡ min old.most (length bytes))
    × (new ≡ record old { taken = old.taken ++ take n bytes; answers_left = old.answers_left - 1 })
WritesAsAsked old new bytes (Err _) =
    ((old.failed ≡ true) ⊎ (old.answers_left ≡ 0) ⊎ (new.lacks_memory ≡ true))
    × (new ≡ record old { failed = true; lacks_memory = new.lacks_memory })
