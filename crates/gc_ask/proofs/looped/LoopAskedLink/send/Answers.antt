use Rattle.gc_ask.proofs.Common.{false, Err, inl, inr, refl, ports_of, taken_by, with_end}
use Rattle.gc_ask.proofs.Ends.{sends_not_too_many, step_none, step_sent}
use Rattle.gc_ask.proofs.Exchanging.{takes_answered, takes_sent}
use Rattle.gc_ask.proofs.looped.LoopAskedLink.send.Goals as goal

pub returns-in-Err-clause-takes : goal.returns-in-Err-clause-takes
returns-in-Err-clause-takes g c = takes_sent false c.args.place (with_end c.args.request.now.items)
    (taken_by g.B.Sink c.args.self.now.client_out.now) (taken_by g.B.Sink c.send_line.new.sink) (Err c.in-Err.fault) c.in-Err.ensures

pub returns-in-Err-clause-ends : goal.returns-in-Err-clause-ends
returns-in-Err-clause-ends g c =
    let self = c.args.self.now in
    inl (
      step_sent c.args.place (with_end c.args.request.now.items)
          (ports_of g.A.Source self.client_in.now g.B.Sink self.client_out.now)
          (ports_of g.A.Source self.client_in.now g.B.Sink c.send_line.new.sink)
          (Err c.in-Err.fault) c.in-Err.ensures refl refl refl,
      step_none (ports_of g.C.Source self.instrument_in.now g.D.Sink self.instrument_out.now) (ports_of g.C.Source self.instrument_in.now g.D.Sink self.instrument_out.now) refl refl refl refl,
    )

pub returns-in-Err-clause-too_many : goal.returns-in-Err-clause-too_many
returns-in-Err-clause-too_many g c is = absurd (sends_not_too_many c.args.place (with_end c.args.request.now.items) (taken_by g.B.Sink c.args.self.now.client_out.now)
    (taken_by g.B.Sink c.send_line.new.sink) (Err c.in-Err.fault) c.in-Err.ensures is)

pub returns-clause-takes : goal.returns-clause-takes
returns-clause-takes g c = takes_answered c.args.place (with_end c.args.request.now.items) (g.B.Sink.taken c.args.self.now.client_out.now)
    (g.B.Sink.taken c.send_line.new.sink) c.answer_line.result c.in_default.ensures.0 c.answer_line.ensures.count

pub returns-clause-ends : goal.returns-clause-ends
returns-clause-ends g c =
    let self = c.args.self.now in
    inr (
      step_none
          (ports_of g.A.Source self.client_in.now g.B.Sink self.client_out.now)
          (ports_of g.A.Source self.client_in.now g.B.Sink c.send_line.new.sink)
          refl refl refl c.in_default.ensures.1,
      c.answer_line.ensures.ends,
    )
