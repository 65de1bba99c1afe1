use Rattle.gc_console.proofs.Common.{ap, sym, Some, exit_status, ReportsClosed}
use Rattle.gc_console.proofs.Ends.{in_any_case}
use Rattle.gc_console.proofs.system.System.run_client_job.Goals as goal

pub returns-clause-done : goal.returns-clause-done
returns-clause-done g c =
    in_any_case c.run_asking-ports.result.1 _ _ _
    (λ status. ReportsClosed c.args.self.now.standard (exit_status status) (Some c.as_noted_ports.result.messages.said.bytes) (Some c.run_asking-ports.result.0.messages.said.bytes))
    _
    (λ status does closed. record {
      old = c.as_noted_ports.result;
      new = c.run_asking-ports.result.0;
      bytes = c.as_noted_ports.ensures.bytes;
      reads = c.as_noted_ports.ensures.reads;
      unheard = c.as_noted_ports.ensures.unheard;
      untold = ap Some c.as_noted_ports.ensures.untold;
      messages = ap (λ messages. Some messages.said.bytes) c.as_noted_ports.ensures.messages;
      heard = ap (λ heard. heard.bytes) (sym c.traces_of.ensures.heard);
      told = ap (λ told. Some told.bytes) (sym c.traces_of.ensures.told);
      said = ap (λ said. Some said.bytes) (sym c.traces_of.ensures.said);
      does = rw (c.traces_of.ensures.acted) does;
      closed = λ are. (
        closed are,
        rw (c.traces_of.ensures.acted) (c.run_asking-ports.ensures.idle are),
        (c.run_asking-ports.ensures.untouched are).0,
        (c.run_asking-ports.ensures.untouched are).1,
      );
    })
    c.run_asking-ports.ensures.done c.run_asking-ports.ensures.closed
