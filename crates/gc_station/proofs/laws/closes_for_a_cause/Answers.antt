use Rattle.gc_station.proofs.Common.{subst, Act, opening, action_at, Performs, state_after}
use Rattle.gc_station.proofs.Closings.{runs_split, closed_for}
use Rattle.gc_station.proofs.laws.closes_for_a_cause.Goals as goal

pub returns : goal.returns
returns c plan commands scope earlier later act runs is =
    let s = state_after plan commands scope earlier in
    let split = runs_split plan commands (opening plan scope) earlier later act runs in
    closed_for plan commands scope earlier split.0 (subst (λ (a : Act). Performs commands s (action_at plan s) a) is split.1)
