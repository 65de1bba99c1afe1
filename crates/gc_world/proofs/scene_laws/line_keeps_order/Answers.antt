use Rattle.gc_world.proofs.Common.{sym, subst, Call, ById, SceneState, scene_restarted, scene_ends, IsOrderly, World}
use Rattle.gc_world.proofs.Exchanges.{StoredReads, exchange}
use Rattle.gc_world.proofs.Agree.{orderly_at}
use Rattle.gc_world.proofs.Flow.{level_at}
use Rattle.gc_world.proofs.scene_laws.line_keeps_order.Goals as goal

pub returns : goal.returns
returns c = λ width narrow opening events.
    let at = level_at width narrow scene_ends StoredReads exchange (scene_restarted opening) tt events in
    subst (λ (w : World (ById Call) SceneState). IsOrderly width w.wire) (sym at.ids) (orderly_at width narrow scene_ends StoredReads exchange at.steps (scene_restarted opening) tt)
