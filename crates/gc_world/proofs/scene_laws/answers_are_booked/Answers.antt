use Rattle.gc_world.proofs.Common.{sym, subst, Call, ById, SceneState, scene_restarted, scene_ends, World, Wire, call_line}
use Rattle.gc_world.proofs.Exchanges.{StoredReads, exchange}
use Rattle.gc_world.proofs.Agree.{same_wire}
use Rattle.gc_world.proofs.Booked.{has_at, AllMade, answer_made, backed_at}
use Rattle.gc_world.proofs.Flow.{level_at}
use Rattle.gc_world.proofs.scene_laws.answers_are_booked.Goals as goal

pub returns : goal.returns
returns c = λ width narrow opening events m s line found answered.
    let state = scene_restarted opening in
    let at = level_at width narrow scene_ends StoredReads exchange state tt events in
    let made = subst (λ (w : Wire SceneState). AllMade w.made 0 w.settled) (sym (same_wire width narrow scene_ends StoredReads exchange at.steps state tt))
    (backed_at width scene_ends StoredReads call_line exchange at.steps state tt).backed.booked in
    let all = subst (λ (w : World (ById Call) SceneState). AllMade w.wire.made 0 w.wire.settled) (sym at.ids) made in
    has_at _ _ (answer_made _ _ m s line all found answered)
