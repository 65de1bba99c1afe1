use Rattle.gc_world.proofs.Common.{sym, subst, Call, ById, State, restarted, by_ids, ends, ids_open, IsOneForOne, untouched, World}
use Rattle.gc_world.proofs.Flow.{taken, flow_run}
use Rattle.gc_world.proofs.Runs.{one_for_one_at}
use Rattle.gc_world.proofs.laws.settlements_are_one_for_one.Goals as goal

pub returns : goal.returns
returns c = λ width opening events.
    let v = untouched (ids_open (restarted opening)) in
    subst (λ (w : World (ById Call) State). IsOneForOne w.wire.sent w.wire.settled) (sym (flow_run ends (by_ids width ends) events v))
    (one_for_one_at width ends (taken ends (by_ids width ends) events v) (restarted opening))
