use Rattle.gc_scenes.proofs.Common.{ap, ◌∙◌, request_seen, SlowState, delay_of}
use Rattle.gc_scenes.proofs.Slowly.{delay_read, delay_unread}
use Rattle.gc_scenes.proofs.slow.SlowInstrument.delay_of_line.Goals as goal

pub returns-in-Ok : goal.returns-in-Ok
returns-in-Ok c =
    delay_read c.args.self.now.delays c.args.line.now request_seen c.in-Ok.request c.delay_of.result c.in-Ok.ensures.only
    (c.delay_of.ensures ∙ ap (delay_of c.in-Ok.request.rpc) c.as_slice.ensures.value ∙ ap (λ (b : SlowState). delay_of c.in-Ok.request.rpc b.delays) c.self.view_is)

pub returns-in-Err : goal.returns-in-Err
returns-in-Err c = delay_unread c.args.self.now.delays c.args.line.now request_seen c.in-Err.field-0 0 c.in-Err.ensures.only
