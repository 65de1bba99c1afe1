use Rattle.gc_ask.proofs.Common.{false, rules, AsksAtBoth, SeenAtBoth, seen_of}
use Rattle.gc_ask.proofs.looped.ask_looped.Goals as goal

pub returns : goal.returns
returns g c =
    let link = c.ask_all.new.link in
    let old : SeenAtBoth = seen_of g.A.Source c.args.client_in.now g.B.Sink c.args.client_out.now
    g.C.Source c.args.instrument_in.now g.D.Sink c.args.instrument_out.now g.K.Sink c.args.sink.now in
    let new : SeenAtBoth = seen_of g.A.Source link.client_in.now g.B.Sink link.client_out.now
    g.C.Source link.instrument_in.now g.D.Sink link.instrument_out.now g.K.Sink c.ask_all.new.sink in
    let asks : AsksAtBoth false c.args.commands.now c.args.max_reads old new c.ask_all.result = c.ask_all.ensures.asks in
    search rules
