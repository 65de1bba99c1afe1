use Rattle.gc_world.proofs.Common.{sym, subst, Call, ById, State, restarted, ends, IsOrderly, World}
use Rattle.gc_world.proofs.Agree.{orderly_at}
use Rattle.gc_world.proofs.Flow.{level_at}
use Rattle.gc_world.proofs.Handing.{KeptFits, kept_exchange}
use Rattle.gc_world.proofs.laws.line_keeps_order.Goals as goal

pub returns : goal.returns
returns c = λ width narrow opening events.
    let at = level_at width narrow ends KeptFits kept_exchange (restarted opening) tt events in
    subst (λ (w : World (ById Call) State). IsOrderly width w.wire) (sym at.ids) (orderly_at width narrow ends KeptFits kept_exchange at.steps (restarted opening) tt)
