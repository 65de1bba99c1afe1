-- The line that a reply would be if its return code were 0, by which the parameters of a reply with a warning are read: this project's own.
use Rattle.gc_texts.specs.Common.{LineFault, reply_at, ReplyFields, reply_text}
use Rattle.std.specs.Prelude.{ℕ, List, Result, Ok, Err}

-- where `line` reads as the fields of a reply, the line of the same fields with return code 0; where it doesn't, `line` itself
abbrev pub zeroed : (read : Result ReplyFields LineFault) → (line : List ℕ) → List ℕ
zeroed (Ok r) line = reply_text (record r { rc = 0 })
zeroed (Err fault) line = line

-- the line that a line would be if its return code were 0 (`zeroed`)
unfoldable pub as_zero : List ℕ → List ℕ
as_zero line = zeroed (reply_at line) line
