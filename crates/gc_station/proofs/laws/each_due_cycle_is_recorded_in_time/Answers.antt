use Rattle.gc_station.proofs.Outages.{records_once_timed_out, records_in_time, reads_clock_before}
use Rattle.gc_station.proofs.Recording.{recording_ends}
use Rattle.gc_station.proofs.laws.each_due_cycle_is_recorded_in_time.Goals as goal

pub returns : goal.returns
returns c = record { once = records_once_timed_out; always = records_in_time; reads = reads_clock_before; goes = recording_ends }
