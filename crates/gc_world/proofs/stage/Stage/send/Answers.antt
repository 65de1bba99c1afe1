use Rattle.gc_world.proofs.Common.{[], ◌∷◌, ◌++◌, ◌∙◌, ap, on_ok_weaker, Sent, stage_parts}
use Rattle.gc_world.proofs.Shown.{streams_send}
use Rattle.gc_world.proofs.stage.Stage.send.Goals as goal

pub returns-clause-follows : goal.returns-clause-follows
returns-clause-follows g c =
    let s = c.args.self.now in
    let entry : Sent = record { target = c.args.target; call = c.args.call.now; line = c.send_into.new.line } in
    on_ok_weaker c.push_sent.result
    (λ pushed width v h. streams_send g.I.Executes.acts width (stage_parts s) v h entry c.args.deadline (record {
      client = c.send_into.new.self;
      sent = c.push_sent.new.self;
      queue = c.push.new.self;
      sends_is = c.in-Ok.ensures.rule.0;
      wide = c.in-Ok.ensures.width;
      line_is = c.in-Ok.ensures.rule.1;
      fits = c.in-Ok.ensures.fitting;
      sent_is = pushed;
      queue_is = c.in_ok-push.ensures ∙ ap (λ n. s.up.queue ++ n ∷ []) c.len.ensures;
    }) c.in-Ok.ensures.plain)
    c.push_sent.ensures
