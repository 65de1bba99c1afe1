use Rattle.gc_ask.proofs.Common.{true, inl, refl, ports_of, taken_by, with_end, no_ports}
use Rattle.gc_ask.proofs.Ends.{sends_not_too_many, step_none, step_sent}
use Rattle.gc_ask.proofs.Exchanging.{takes_sent}
use Rattle.gc_ask.proofs.link.RemoteAskedLink.send.Goals as goal

pub returns-clause-takes : goal.returns-clause-takes
returns-clause-takes g c = takes_sent true c.args.place (with_end c.args.request.now.items)
    (taken_by g.O.Sink c.args.self.now.sink.now) (taken_by g.O.Sink c.send_line.new.sink) c.send_line.result c.send_line.ensures

pub returns-clause-ends : goal.returns-clause-ends
returns-clause-ends g c =
    inl (
      step_sent c.args.place (with_end c.args.request.now.items)
          (ports_of g.I.Source c.args.self.now.source.now g.O.Sink c.args.self.now.sink.now)
          (ports_of g.I.Source c.args.self.now.source.now g.O.Sink c.send_line.new.sink)
          c.send_line.result c.send_line.ensures refl refl refl,
      step_none no_ports no_ports refl refl refl refl,
    )

pub returns-clause-too_many : goal.returns-clause-too_many
returns-clause-too_many g c is = absurd (sends_not_too_many c.args.place (with_end c.args.request.now.items) (taken_by g.O.Sink c.args.self.now.sink.now)
    (taken_by g.O.Sink c.send_line.new.sink) c.send_line.result c.send_line.ensures is)
