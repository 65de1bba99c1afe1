use Rattle.gc_station.proofs.LastingByBound.{lasts_by_bound, reads_end_in_time}
use Rattle.gc_station.proofs.RealTime.{records_by_bound}
use Rattle.gc_station.proofs.laws.each_due_cycle_is_recorded_by_its_bound.Goals as goal

pub returns : goal.returns
returns c = record { recorded = records_by_bound; lasts = lasts_by_bound; waits = reads_end_in_time }
