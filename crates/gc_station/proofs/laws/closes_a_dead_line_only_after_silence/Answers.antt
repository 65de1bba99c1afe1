use Rattle.gc_station.proofs.Mute.{mute_close}
use Rattle.gc_station.proofs.laws.closes_a_dead_line_only_after_silence.Goals as goal

pub returns : goal.returns
returns c = mute_close
