use Rattle.gc_station.proofs.Chaining.{chain_kept}
use Rattle.gc_station.proofs.laws.each_chain_is_kept.Goals as goal

pub returns : goal.returns
returns c = chain_kept
