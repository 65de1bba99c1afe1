use Rattle.gc_theorems.proofs.Strays.{strays_are_of_the_last}
use Rattle.gc_theorems.proofs.client_damage.strays_are_of_the_last.Goals as goal

pub returns : goal.returns
returns g c = strays_are_of_the_last
