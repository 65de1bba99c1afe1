use Rattle.gc_station.proofs.Stopping.{closes_stale, stops_stale, ends_once_stale}
use Rattle.gc_station.proofs.laws.ends_stale_only_without_a_good_answer.Goals as goal

pub returns : goal.returns
returns c = record { closes = closes_stale; stops = stops_stale; ends = ends_once_stale }
