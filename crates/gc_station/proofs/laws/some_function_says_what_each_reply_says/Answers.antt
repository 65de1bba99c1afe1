use Rattle.gc_station.proofs.Readings.{some_readings}
use Rattle.gc_station.proofs.laws.some_function_says_what_each_reply_says.Goals as goal

pub returns : goal.returns
returns c = some_readings
