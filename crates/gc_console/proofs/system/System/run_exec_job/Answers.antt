use Rattle.gc_console.proofs.Common.{Some, ap, sym, exit_status, DoesExec}
use Rattle.gc_console.proofs.Begun.{ends_from, exec_did}
use Rattle.gc_console.proofs.system.System.run_exec_job.Goals as goal

pub returns-clause-did : goal.returns-clause-did
returns-clause-did g c =
    let made = c.as_noted_ports_ahead-ports.ensures in
    let run = c.exec_scene-ended.ensures in
    ends_from c.exec_scene-ended.result exit_status (DoesExec c.args.scene) _ _ _ _ _ _ _ made.ports (ap (λ messages. Some messages.said.bytes) made.messages)
    (ap (λ told. Some told.bytes) (sym c.traces_of.ensures.told)) (ap (λ said. Some said.bytes) (sym c.traces_of.ensures.said))
    (exec_did c.exec_scene-ended.result exit_status c.args.scene _ _ _ _ run.told run.done
    (λ none. run.fault none (ap (λ ports. ports.source_failed) made.ports) (ap (λ ports. ports.sink_failed) made.ports)))
