use Rattle.gc_station.proofs.Common.{Option, sym, subst, ReadsBy, as_zero, Form, IsSaid}
use Rattle.gc_station.proofs.writing.line_as_zero.Goals as goal

pub returns-in-Some : goal.returns-in-Some
returns-in-Some c r is =
    subst (λ (f : Option Form). ReadsBy (IsSaid f) c.args.call.now (as_zero c.args.line.now.items) c.line_reading_as_zero.result) (sym c.in-Some.is)
    (c.line_reading_as_zero.ensures r is c.args.call.now)

pub returns-in-None : goal.returns-in-None
returns-in-None c r is =
    subst (λ (f : Option Form). ReadsBy (IsSaid f) c.args.call.now (as_zero c.args.line.now.items) c.reading_as_zero.result) (sym c.in-None.is)
    (c.reading_as_zero.ensures r is)
