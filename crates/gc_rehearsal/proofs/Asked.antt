-- What commands ask: their numbers lie in their types, and so do those of the date that a clock is set to, whatever the moment
-- is; and a request with values of files may be asked for, as any may.
use Rattle.gc_rehearsal.proofs.Common.{ℕ, ◌≤◌, ◌/◌, min, arith, date_of, date_time, Task, IsAskable}
use Rattle.gc_catalogue.specs.Prelude.{IsAskedFitting}
use Rattle.gc_catalogue.specs.declared.asked.Asked.TheVariants.{Table}
use Rattle.gc_catalogue.specs.declared.call.Call.TheVariants.{SetDate}
use Rattle.gc_texts.proofs.LogStamps.{date_within}
use Rattle.gc_texts.proofs.TaskMoments.{at_any_moment}

-- the numbers of the call that sets the date to a moment lie in their types
date_fits : (utc : ℕ) → IsAskedFitting (Table (SetDate (date_time utc)))
date_fits utc =
    let is = date_within (utc / 86_400_000) in
    let month = is.month in
    let day = is.day in
    let year : min (date_of (utc / 86_400_000)).year 32767 ≤ 32767 = grind arith in
    ((grind arith, grind arith), (omega (arith, month), (omega (arith, day), (omega arith, (omega arith, (omega arith, tt))))))

-- a command whose own call is allowed (`IsAskedFitting`) is `IsAskable`
pub askable_at : (task : Task) → IsAskedFitting task.command.call → IsAskable task
askable_at task fits occasion = at_any_moment IsAskedFitting task occasion (date_fits occasion.utc) (λ raw other is same. other.is) fits
