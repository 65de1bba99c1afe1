use Rattle.gc_ask.proofs.Common.{Err, subst, sym, LoopRunsConnected, taken_by, input_of, RunFault}
use Rattle.gc_ask.proofs.connections.loop_tcp.Goals as goal

pub returns-in-Err : goal.returns-in-Err
returns-in-Err g c = record {
  loops = subst (λ (fault : RunFault). LoopRunsConnected (input_of g.S.Source c.args.commands.now) (input_of g.S.Source c.loop_tcp_on.new.commands) c.args.max_reads
      (taken_by g.K.Sink c.args.sink.now) (taken_by g.K.Sink c.loop_tcp_on.new.sink) (Err fault)) (sym c.fault.ensures) c.in-Err.ensures.loops;
}
