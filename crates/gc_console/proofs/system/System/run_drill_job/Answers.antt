use Rattle.gc_console.proofs.Common.{Some, ap, sym, exit_status, DoesDrill}
use Rattle.gc_console.proofs.Begun.{drill_did, ends_from}
use Rattle.gc_console.proofs.system.System.run_drill_job.Goals as goal

pub returns-clause-did : goal.returns-clause-did
returns-clause-did g c =
    let made = c.as_noted_ports-ports.ensures in
    let run = c.drill_scene-ended.ensures in
    ends_from c.drill_scene-ended.result exit_status (DoesDrill c.args.drilling) _ _ _ _ _ _ _ made.ports (ap (λ messages. Some messages.said.bytes) made.messages)
    (ap (λ told. Some told.bytes) (sym c.traces_of.ensures.told)) (ap (λ said. Some said.bytes) (sym c.traces_of.ensures.said))
    (drill_did c.drill_scene-ended.result exit_status c.args.drilling _ _ _ _ run.told run.width run.done run.whole)
