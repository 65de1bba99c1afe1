-- Busy answers, this project's own: an answer with communication code 0 and a return code by which, as the text says, the instrument
-- tells that it is busy, and which isn't accepted. The instrument is still at work on the command, whose reply may come later. So the
-- station asks for nothing until the command's whole deadline has passed since that answer.
use Rattle.gc_station.specs.Common.{Asked, Settlement, lists_code, Expected}
use Rattle.std.specs.Prelude.{ℕ, ◌&&◌, Bool, not, List, fold, Option, Some, None, if◌then◌else◌, max}
use Rattle.gc_station.specs.Attempts.{code_of}
use Rattle.gc_station.specs.Marks.{with_marks}
use Rattle.gc_station.specs.Scopes.{Reads}
use Rattle.gc_station.specs.declared.mark.Mark.{Mark}

-- whether this return code of an answer to a command, of which this is expected, says that the instrument is busy
abbrev pub says_busy : Expected → (code : ℕ) → Bool
says_busy expected code = lists_code expected.busy code && not (lists_code expected.accepted code)

-- for how many milliseconds the station asks for nothing after a busy answer to a command of which this is expected: the command's
-- deadline, but at least one
abbrev pub wait_for : Expected → ℕ
wait_for expected = max expected.wait 1

-- the longest of these waits once a command of which this is expected was recorded, where `longest` was before; 0 if there was none. `code`
-- is the return code other than 0 of the reply that ended it, if there is one
abbrev pub busy_after : (longest : ℕ) → Expected → (code : Option ℕ) → ℕ
busy_after longest expected None = longest
busy_after longest expected (Some code) = if says_busy expected code then max longest (wait_for expected) else longest

-- the same once these settlements are recorded, by the marks of all outstanding requests (`with_marks`)
abbrev pub busy_after_settlements : Reads → (longest : ℕ) → List (Option Mark) → List (Settlement Asked) → ℕ
busy_after_settlements reads longest marks settlements =
    fold (λ (so : ℕ) (x : Mark × Settlement Asked). busy_after so x.0.expected (code_of reads x.1.call x.1.outcome)) longest (with_marks marks settlements)
