use Rattle.gc_filters.proofs.OneSchedule.{one_schedule}
use Rattle.gc_filters.proofs.laws.schedule_has_one_reading.Goals as goal

pub returns : goal.returns
returns c = one_schedule
