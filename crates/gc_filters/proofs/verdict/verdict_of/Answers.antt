use Rattle.gc_filters.proofs.verdict.verdict_of.Goals as goal

pub returns-in-Line : goal.returns-in-Line
returns-in-Line c = rw c.in-Line.is c.line_verdict.ensures
