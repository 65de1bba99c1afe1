use Rattle.gc_world.proofs.Common.{scene_restarted, scene_ends, streams_by_ids, streams_by_numbers}
use Rattle.gc_world.proofs.Exchanges.{StoredReads, exchange}
use Rattle.gc_world.proofs.Flow.{level_wire, level_at}
use Rattle.gc_world.proofs.scene_laws.runs_agree.Goals as goal

pub returns : goal.returns
returns c = λ width narrow opening events.
    let state = scene_restarted opening in
    level_wire width narrow scene_ends StoredReads exchange state tt (streams_by_ids width scene_ends events state) (streams_by_numbers width scene_ends events state)
    (level_at width narrow scene_ends StoredReads exchange state tt events)
