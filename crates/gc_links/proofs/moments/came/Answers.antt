use Rattle.gc_links.proofs.Common.{rules, instant_nanos, MissesClocks, ClocksAfter, NoMoment}
use Rattle.gc_links.proofs.Making.{makes_as}
use Rattle.gc_links.proofs.moments.came.Goals as goal

pub returns-in-Err-clause-does : goal.returns-in-Err-clause-does
returns-in-Err-clause-does g c =
    makes_as MissesClocks (ClocksAfter (instant_nanos c.args.timer.now.start) c.args.n NoMoment) (λ xs misses. (search rules, misses))
    c.in-Err.ensures
