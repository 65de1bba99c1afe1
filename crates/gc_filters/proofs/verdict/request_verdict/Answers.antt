use Rattle.gc_filters.proofs.Common.{refl, reads, refuses}
use Rattle.gc_filters.proofs.verdict.request_verdict.Goals as goal

pub returns-in-Ok : goal.returns-in-Ok
returns-in-Ok c = reads c.in-Ok.field-0 c.in-Ok.ensures.found refl

pub returns-in-Err : goal.returns-in-Err
returns-in-Err c = refuses c.in-Err.fault c.in-Err.ensures.fault refl
