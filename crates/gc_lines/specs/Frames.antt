-- The frames and lines of a stream. The manual ends a line by CR LF and lets a lone LF clear the receiver; the rest is this
-- project's own.
use Rattle.std.specs.Prelude.{◌≡◌, ◌≢◌, ℕ, ◌-◌, ◌==◌, ◌&&◌, Bool, List, [], ◌∷◌, ◌++◌, length, take, nat_lt, slice_index, if◌then◌else◌, map, Option, Some, None}
use Rattle.std.specs.List.{flat_map, filter_map, AllByRecursion}
use Rattle.gc_lines.specs.declared.frame.Frame.{Frame}
use Rattle.gc_lines.specs.declared.frame.Frame.TheVariants.{Line, Cleared, Overlong}
pub use Rattle.std.specs.Char.{is_newline as is_line_feed}

-- whether the last byte is a carriage return
abbrev pub ends_in_return : List ℕ → Bool
ends_in_return bytes = nat_lt 0 (length bytes) && (slice_index bytes (length bytes - 1) == 13)

-- the frame that a line feed makes of the bytes since the one before it, or since the start: cleared without a carriage return at
-- their end, overlong with more than 512 bytes before that, and else the line of the bytes before that
abbrev pub frame_of : List ℕ → Frame
frame_of bytes =
    if ends_in_return bytes
    then (if nat_lt 512 (length bytes - 1) then Overlong else Line (record { items = take (length bytes - 1) bytes }))
    else Cleared

-- the pieces of a stream that a line feed ends, each without it, where the bytes `before`, which have no line feed, come before
-- the stream and belong to its first piece
abbrev pub pieces_behind : (before stream : List ℕ) → List (List ℕ)
pieces_behind before [] = []
pieces_behind before (b ∷ bs) = if is_line_feed b then before ∷ pieces_behind [] bs else pieces_behind (before ++ b ∷ []) bs

-- what follows the last line feed of a stream. Where the stream has none, that is the bytes `before`, which have none either and
-- come before the stream, and then the whole stream
abbrev pub rest_behind : (before stream : List ℕ) → List ℕ
rest_behind before [] = before
rest_behind before (b ∷ bs) = if is_line_feed b then rest_behind [] bs else rest_behind (before ++ b ∷ []) bs

-- the pieces of a whole stream
abbrev pub pieces : List ℕ → List (List ℕ)
pieces stream = pieces_behind [] stream

-- what follows the last line feed of a whole stream, which makes no frame
abbrev pub rest_of : List ℕ → List ℕ
rest_of stream = rest_behind [] stream

-- the frames of a stream, one for each piece
abbrev pub frames : List ℕ → List Frame
frames stream = map frame_of (pieces stream)

-- the bytes of a frame's line, where the frame is a line
abbrev pub line_in : Frame → Option (List ℕ)
line_in (Line line) = Some line.items
line_in _ = None

-- the lines of a stream, without the frames that are cleared or overlong
abbrev pub lines : List ℕ → List (List ℕ)
lines stream = filter_map line_in (frames stream)

-- no byte is a line feed
abbrev pub HasNoLineFeed : List ℕ → Type 0
HasNoLineFeed bytes = AllByRecursion (λ b. b ≢ 10) bytes

-- a stream is these parts, each followed by a line feed, and then a rest, and no line feed is in a part or in the rest
pub record IsCut (stream : List ℕ) (parts : List (List ℕ)) (rest : List ℕ) : Type 0 where
  pub whole : stream ≡ flat_map (λ part. part ++ 10 ∷ []) parts ++ rest
  pub each : AllByRecursion HasNoLineFeed parts
  pub last : HasNoLineFeed rest
