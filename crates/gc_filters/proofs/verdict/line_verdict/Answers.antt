use Rattle.gc_filters.proofs.Common.{refl, reply}
use Rattle.gc_filters.proofs.verdict.line_verdict.Goals as goal

pub returns-in-Ok : goal.returns-in-Ok
returns-in-Ok c = reply _ c.in-Ok.ensures.found refl
