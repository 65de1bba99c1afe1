use Rattle.geocom_c.proofs.Common.{AnyState, placed_runs, alike_safe}
use Rattle.geocom_c.proofs.Safely.{calls_safe}
use Rattle.geocom_c.proofs.laws.calls_are_safe.Goals as goal

pub returns : goal.returns
returns g c = record {
  alike = λ ends kept alike width u rs. alike_safe width ends AnyState kept alike (placed_runs width ends u rs);
  table = λ ends kept. calls_safe ends AnyState kept;
}
