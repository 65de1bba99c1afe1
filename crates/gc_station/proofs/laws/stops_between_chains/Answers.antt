use Rattle.gc_station.proofs.Stopping.{goes_on_in_its_chain, closes_between_chains, stops_stopped}
use Rattle.gc_station.proofs.laws.stops_between_chains.Goals as goal

pub returns : goal.returns
returns c = record { goes = goes_on_in_its_chain; closes = closes_between_chains; stops = stops_stopped }
