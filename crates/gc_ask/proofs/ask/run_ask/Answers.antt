use Rattle.gc_ask.proofs.Common.{◌≡◌, ap, rules, ports_of, taken_by, AskRuns, SeenAtClient, SeenAtBoth, input_of}
use Rattle.gc_ask.proofs.Runs.{runs_remote}
use Rattle.gc_ask.proofs.ask.run_ask.Goals as goal

pub returns-clause-asks : goal.returns-clause-asks
returns-clause-asks g c =
    let asks : AskRuns (input_of g.S.Source c.args.commands.now) (input_of g.S.Source c.run_over.new.commands) c.args.max_reads
    (record { link = ports_of g.I.Source c.args.link_in.now g.O.Sink c.args.link_out.now; sink = taken_by g.K.Sink c.args.sink.now })
    (record { link = ports_of g.I.Source c.run_over.new.link.source.now g.O.Sink c.run_over.new.link.sink.now; sink = taken_by g.K.Sink c.run_over.new.sink })
    c.run_over.result = runs_remote _ _ _ _ _ _ c.run_over.ensures.asks in
    search rules

pub returns-clause-memory : goal.returns-clause-memory
returns-clause-memory g c is =
    let same : ◌≡◌ {A = SeenAtClient}
    (record { link = ports_of g.I.Source c.run_over.new.link.source.now g.O.Sink c.run_over.new.link.sink.now; sink = taken_by g.K.Sink c.run_over.new.sink })
    (record { link = ports_of g.I.Source c.args.link_in.now g.O.Sink c.args.link_out.now; sink = taken_by g.K.Sink c.args.sink.now }) =
    ap (λ (s : SeenAtBoth). record { link = s.client; sink = s.sink }) (c.run_over.ensures.memory is) in
    search rules
