use Rattle.gc_console.proofs.Common.{Some, ap, sym, exit_status, DoesCheck}
use Rattle.gc_console.proofs.Begun.{check_did, ends_from}
use Rattle.gc_console.proofs.program.run_check_job.Goals as goal

pub returns-clause-did : goal.returns-clause-did
returns-clause-did g c =
    let made = c.as_noted_ports_ahead-ports.ensures in
    let run = c.check-ended.ensures in
    ends_from c.check-ended.result exit_status (DoesCheck c.args.log) _ _ _ _ _ _ _ made.ports (ap (λ messages. Some messages.said.bytes) made.messages)
    (ap (λ told. Some told.bytes) (sym c.traces_of.ensures.told)) (ap (λ said. Some said.bytes) (sym c.traces_of.ensures.said))
    (check_did c.check-ended.result exit_status c.args.log _ _ _ _ run.told run.done)
