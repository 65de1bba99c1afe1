use Rattle.gc_filters.proofs.Common.{refl, request, no_request}
use Rattle.gc_filters.proofs.verdict.verdict_as_request.Goals as goal

pub returns-in-Ok : goal.returns-in-Ok
returns-in-Ok c = request _ c.in-Ok.ensures.found c.request_verdict.ensures

pub returns-in-Err : goal.returns-in-Err
returns-in-Err c = no_request c.in-Err.fault c.requires c.in-Err.ensures.fault refl
