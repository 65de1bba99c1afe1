use Rattle.gc_world.proofs.Common.{◌+◌, ◌-◌, ◌∙◌, ap, arith}
use Rattle.gc_world.proofs.Sides.{front_written, front_line, left_of, none_left}
use Rattle.gc_world.proofs.side.Side.remaining.Goals as goal

pub line-requires : goal.line-requires
line-requires g c = front_written c.args.direction c.args.report.now c.args.self.now c.requires.0 c.requires.1 c.in-Some.place c.in-Some.ensures.0 c.in-Some.ensures.1

pub overflow_sub-result : goal.overflow_sub-result
overflow_sub-result g c =
    let front = front_line c.args.direction c.args.report.now c.args.self.now c.requires.0 c.requires.1 c.in-Some.place c.in-Some.ensures.0
    c.line.result.now.items c.in-Some.ensures.1 c.line.ensures in
    omega (arith, front.some, c.len.ensures)

pub returns-in-Some : goal.returns-in-Some
returns-in-Some g c = λ texts h.
    ap (λ n. n + 2 - c.args.self.now.gone) c.len.ensures.value
    ∙ left_of c.args.direction c.args.report.now c.args.self.now texts h c.in-Some.place c.in-Some.ensures.0 c.line.result.now.items c.in-Some.ensures.1 c.line.ensures

pub returns-in-None : goal.returns-in-None
returns-in-None g c = λ texts h. none_left c.args.direction c.args.report.now c.args.self.now texts h c.in-None.ensures
