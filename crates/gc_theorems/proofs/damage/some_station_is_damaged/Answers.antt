use Rattle.gc_theorems.proofs.DamagedStation.{damaged_station}
use Rattle.gc_theorems.proofs.damage.some_station_is_damaged.Goals as goal

pub returns : goal.returns
returns c = damaged_station
