use Rattle.gc_theorems.proofs.Common.{AnyState}
use Rattle.gc_theorems.proofs.BegunRising.{runs_leave_rising_ids}
use Rattle.gc_theorems.proofs.beginning.runs_leave_rising_ids.Goals as goal

pub returns : goal.returns
returns g c = λ ends kept is width narrow u clean ms possible. runs_leave_rising_ids ends AnyState kept is width narrow u clean ms possible
