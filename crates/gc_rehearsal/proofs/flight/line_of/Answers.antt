use Rattle.gc_rehearsal.proofs.Queued.{line_found}
use Rattle.gc_rehearsal.proofs.flight.line_of.Goals as goal

pub returns-then-line-le512 : goal.returns-then-line-le512
returns-then-line-le512 c =
    let found = c.in_ok-line.ensures.cases in
    (line_found c.args.bytes.now c.in_ok-line.line.now found.0 found.1, c.if-line-le512.true)
