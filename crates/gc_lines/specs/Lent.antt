-- A frame whose line is lent in place of being handed over: this project's own.
use Rattle.std.specs.Prelude.{◌≡◌, ℕ, ◌≤◌, List, length}
use Rattle.gc_lines.specs.declared.frame.Frame.{Frame}
use Rattle.gc_lines.specs.declared.frame.Lent.{Lent}
use Rattle.gc_lines.specs.declared.frame.Lent.TheVariants.{Line, Cleared, Overlong, More}
use Rattle.gc_lines.specs.declared.frame.Frame.TheVariants as frame

-- the frame that a lent one stands for: the same, with its line by value
abbrev pub lent_seen : Lent → Frame
lent_seen (Line line) = frame.Line (record { items = line.now })
lent_seen Cleared = frame.Cleared
lent_seen Overlong = frame.Overlong
lent_seen More = frame.More

-- the lent frame is a line with these bytes
abbrev pub IsLentLine : Lent → List ℕ → Type 0
IsLentLine lent line = lent_seen lent ≡ frame.Line (record { items = line })

-- where a lent frame is a line, it has at most 512 bytes
abbrev pub IsLineWithinLimit : Lent → Type 0
IsLineWithinLimit (Line line) = length line.now ≤ 512
IsLineWithinLimit _ = Unit {0}
