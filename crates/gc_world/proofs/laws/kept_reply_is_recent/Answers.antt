use Rattle.gc_world.proofs.Common.{refl, sym, subst, Call, ById, State, restarted, ends, IsRecent, numbers, World}
use Rattle.gc_world.proofs.Flow.{level_at}
use Rattle.gc_world.proofs.Handing.{KeptFits, kept_exchange, kept_of, keeper}
use Rattle.gc_world.proofs.Runs.{recent_at}
use Rattle.gc_world.proofs.laws.kept_reply_is_recent.Goals as goal

pub returns : goal.returns
returns c = λ width narrow opening events.
    let at = level_at width narrow ends KeptFits kept_exchange (restarted opening) tt events in
    subst (λ (w : World (ById Call) State). IsRecent width w.wire.state.kept w.wire.executed (numbers w.wire.up)) (sym at.ids)
    (recent_at width narrow ends KeptFits kept_exchange kept_of (keeper KeptFits) refl at.steps opening tt)
