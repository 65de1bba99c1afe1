use Rattle.gc_world.proofs.Common.{◌<◌, Some, sym, ◌∙◌, ap, subst, arith}
use Rattle.gc_world.proofs.Sides.{front_written, front_line, left_of}
use Rattle.gc_world.proofs.Streaming.{flow_more}
use Rattle.gc_world.proofs.side.Side.go_on.Goals as goal

pub line-requires : goal.line-requires
line-requires g c = front_written c.args.direction c.args.report.now c.args.self.now c.requires.0 c.requires.1 c.in-Some.place c.in-Some.ensures.0 c.in-Some.ensures.1

pub feed_some-requires-clause-plain : goal.feed_some-requires-clause-plain
feed_some-requires-clause-plain g c =
    (front_line c.args.direction c.args.report.now c.args.self.now c.requires.0 c.requires.1 c.in-Some.place c.in-Some.ensures.0 c.as_slice-line.result.now
    c.in-Some.ensures.1 (c.line.ensures ∙ ap Some (sym c.as_slice-line.ensures.value))).plain

pub feed_some-requires-clause-some : goal.feed_some-requires-clause-some
feed_some-requires-clause-some g c =
    let left = left_of c.args.direction c.args.report.now c.args.self.now c.requires.0 c.requires.1 c.in-Some.place c.in-Some.ensures.0
    c.as_slice-line.result.now c.in-Some.ensures.1 (c.line.ensures ∙ ap Some (sym c.as_slice-line.ensures.value)) in
    omega (arith, left, c.requires.2)

pub feed_some-requires-clause-stands : goal.feed_some-requires-clause-stands
feed_some-requires-clause-stands g c =
    (front_line c.args.direction c.args.report.now c.args.self.now c.requires.0 c.requires.1 c.in-Some.place c.in-Some.ensures.0 c.as_slice-line.result.now
    c.in-Some.ensures.1 (c.line.ensures ∙ ap Some (sym c.as_slice-line.ensures.value))).stands

pub overflow_add-self : goal.overflow_add-self
overflow_add-self g c =
    let left = left_of c.args.direction c.args.report.now c.args.self.now c.requires.0 c.requires.1 c.in-Some.place c.in-Some.ensures.0
    c.as_slice-line.result.now c.in-Some.ensures.1 (c.line.ensures ∙ ap Some (sym c.as_slice-line.ensures.value)) in
    omega (arith, left, c.requires.2, c.as_slice-line.ensures.fits)

pub returns-clause-flow : goal.returns-clause-flow
returns-clause-flow g c =
    let s = c.args.self.now in
    let line = c.as_slice-line.result.now in
    let found = c.line.ensures ∙ ap Some (sym c.as_slice-line.ensures.value) in
    let at = left_of c.args.direction c.args.report.now s c.requires.0 c.requires.1 c.in-Some.place c.in-Some.ensures.0 line c.in-Some.ensures.1 found in
    λ texts h.
    let front = front_line c.args.direction c.args.report.now s texts h c.in-Some.place c.in-Some.ensures.0 line c.in-Some.ensures.1 found in
    let here = left_of c.args.direction c.args.report.now s texts h c.in-Some.place c.in-Some.ensures.0 line c.in-Some.ensures.1 found in
    flow_more s.assembler c.feed_some.new.assembler s.gone c.args.n line texts front (subst (λ k. c.args.n < k) (sym at ∙ here) c.requires.2) c.feed_some.ensures h.flow
