-- What a station with a log reports beyond what one without a log does: this project's own.
use Rattle.gc_measuring.specs.Common.{Appends}
use Rattle.std.specs.Prelude.{◌≡◌, ℕ, Bool, true, false, List, Option, codes}

-- what is written before the lines on how a run ended: a line if the run's log isn't complete (`is_lost`), because it
-- couldn't be written; else nothing
abbrev pub ReportsLoss : (is_lost : Bool) → (old new : Option (List ℕ)) → Type 0
ReportsLoss true old new = Appends old new (codes "geocom: the log could not be written completely\n")
ReportsLoss false old new = new ≡ old
