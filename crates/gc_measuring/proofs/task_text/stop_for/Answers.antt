use Rattle.gc_measuring.proofs.Common.{ℕ, List, refl, subst, sym, IsStopFor, Line, IsTrouble, RunFault}
use Rattle.gc_measuring.proofs.task_text.stop_for.Goals as goal

pub returns-in-Schedule : goal.returns-in-Schedule
returns-in-Schedule c =
    subst (λ (fault : RunFault). IsStopFor c.args.text.now fault (Line c.in-Schedule.line c.trouble_of.result)) (sym c.in-Schedule.is) (
      c.trouble_of.result,
      subst (λ (line : List ℕ). IsTrouble line c.trouble_of.result) c.line_at.ensures c.trouble_of.ensures,
      refl,
    )
