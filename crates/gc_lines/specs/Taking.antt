-- What an assembler does with a piece of a stream: this project's own. `old` and `new` are what it keeps before and after the
-- call.
use Rattle.std.specs.Prelude.{◌≡◌, ℕ, ◌+◌, ◌<◌, ◌≤◌, List, [], ◌++◌, length, take, Some, None}
use Rattle.std.specs.List.{position}
use Rattle.gc_lines.specs.Assembler.{Kept, StandsFor}
use Rattle.gc_lines.specs.Frames.{is_line_feed, frame_of}
use Rattle.gc_lines.specs.declared.frame.Frame.{Frame}
use Rattle.gc_lines.specs.declared.frame.Frame.TheVariants.{More}

-- of a piece the first `used` bytes are used, at least one where there is one
abbrev pub IsUsedOf : (piece : List ℕ) → (used : ℕ) → Type 0
IsUsedOf piece used = (used ≤ length piece) × (0 < length piece → 0 < used)

-- of a piece without a line feed all bytes are used, and the frame is `More`. Where the assembler stood for some bytes, it then
-- stands for these with the piece after them
abbrev pub KeepsPiece : (old new : Kept) → (piece : List ℕ) → (used : ℕ) → Frame → Type 0
KeepsPiece old new piece used frame =
    position is_line_feed piece ≡ None → (used ≡ length piece) × (frame ≡ More)
    × ((rest : List ℕ) → StandsFor old rest → StandsFor new (rest ++ piece))

-- of a piece with a line feed the bytes up to its first line feed, and this line feed, are used. Where the assembler stood for
-- some bytes, the frame is that of these and then the piece's bytes before its first line feed. After the call the assembler
-- stands for the empty list of bytes
abbrev pub EndsFrame : (old new : Kept) → (piece : List ℕ) → (used : ℕ) → Frame → Type 0
EndsFrame old new piece used frame =
    (at : ℕ) → position is_line_feed piece ≡ Some at → (used ≡ at + 1)
    × ((rest : List ℕ) → StandsFor old rest → frame ≡ frame_of (rest ++ take at piece))
    × StandsFor new []
