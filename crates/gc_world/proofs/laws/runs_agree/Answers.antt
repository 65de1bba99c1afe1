use Rattle.gc_world.proofs.Common.{restarted, ends, streams_by_ids, streams_by_numbers}
use Rattle.gc_world.proofs.Flow.{level_wire, level_at}
use Rattle.gc_world.proofs.Handing.{KeptFits, kept_exchange}
use Rattle.gc_world.proofs.laws.runs_agree.Goals as goal

pub returns : goal.returns
returns c = λ width narrow opening events.
    let state = restarted opening in
    level_wire width narrow ends KeptFits kept_exchange state tt (streams_by_ids width ends events state) (streams_by_numbers width ends events state)
    (level_at width narrow ends KeptFits kept_exchange state tt events)
