use Rattle.gc_world.proofs.Common.{sym, subst, Call, ById, SceneState, scene_restarted, scene_ends, by_ids, ids_open, IsOneForOne, untouched, World}
use Rattle.gc_world.proofs.Flow.{taken, flow_run}
use Rattle.gc_world.proofs.Runs.{one_for_one_at}
use Rattle.gc_world.proofs.scene_laws.settlements_are_one_for_one.Goals as goal

pub returns : goal.returns
returns c = λ width opening events.
    let v = untouched (ids_open (scene_restarted opening)) in
    subst (λ (w : World (ById Call) SceneState). IsOneForOne w.wire.sent w.wire.settled) (sym (flow_run scene_ends (by_ids width scene_ends) events v))
    (one_for_one_at width scene_ends (taken scene_ends (by_ids width scene_ends) events v) (scene_restarted opening))
