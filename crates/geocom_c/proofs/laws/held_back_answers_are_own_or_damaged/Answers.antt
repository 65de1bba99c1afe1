use Rattle.geocom_c.proofs.Damage.{held_back_own_or_damaged}
use Rattle.geocom_c.proofs.laws.held_back_answers_are_own_or_damaged.Goals as goal

pub returns : goal.returns
returns g c = held_back_own_or_damaged
