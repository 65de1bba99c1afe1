use Rattle.gc_world.proofs.Common.{refl, sym, subst, Call, ById, State, restarted, ends, HasExecutions, World}
use Rattle.gc_world.proofs.Flow.{level_at}
use Rattle.gc_world.proofs.Handing.{KeptFits, kept_exchange, kept_of, keeper}
use Rattle.gc_world.proofs.Runs.{execution_at}
use Rattle.gc_world.proofs.laws.executions_are_recorded.Goals as goal

pub returns : goal.returns
returns c = λ width narrow opening events.
    let at = level_at width narrow ends KeptFits kept_exchange (restarted opening) tt events in
    subst (λ (w : World (ById Call) State). HasExecutions ends opening w.wire) (sym at.ids) (execution_at width narrow ends KeptFits kept_exchange kept_of (keeper KeptFits) refl at.steps opening tt)
