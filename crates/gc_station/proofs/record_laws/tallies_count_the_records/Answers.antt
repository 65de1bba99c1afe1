use Rattle.gc_station.proofs.Counting.{count_records}
use Rattle.gc_station.proofs.record_laws.tallies_count_the_records.Goals as goal

pub returns : goal.returns
returns c = count_records
