use Rattle.gc_theorems.proofs.Line.{line_is_local}
use Rattle.gc_theorems.proofs.client_damage.damage_is_local_over_the_line.Goals as goal

pub returns : goal.returns
returns g c = line_is_local
