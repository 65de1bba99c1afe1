use Rattle.gc_scenes.proofs.Common.{ap, ◌∙◌, counted, is_start_due}
use Rattle.gc_scenes.proofs.Started.{played_as_sent, started_as_sent}
use Rattle.gc_scenes.proofs.starting.StartingInstrument.send_for.Goals as goal

pub returns-then-not-starts-clause-does : goal.returns-then-not-starts-clause-does
returns-then-not-starts-clause-does g c q asks same =
    let i = c.self.inside in
    played_as_sent (record { scene = i.scene; starts = i.starts.items }) c.args.self.now c.self.view_is c.args.rpc c.args.line.now c.reply_onto.new.self
    c.counted-self-inside.result.items c.is_start_due-starts.result c.args.out.now.items c.reply_onto.new.out.items
    (c.is_start_due-starts.ensures ∙ ap (is_start_due c.args.rpc) c.as_slice.ensures.value)
    (c.counted-self-inside.ensures ∙ ap (counted c.args.rpc) c.as_slice-2.ensures.value) q asks same c.reply_onto.result c.if-not-starts.true c.reply_onto.ensures.played

pub returns-clause-does : goal.returns-clause-does
returns-clause-does g c q asks same =
    let i = c.self.inside in
    started_as_sent (record { scene = i.scene; starts = i.starts.items }) c.args.self.now c.self.view_is c.args.rpc c.args.line.now c.restart.new.self
    c.counted-self-inside.result.items c.is_start_due-starts.result c.args.out.now.items c.append.new.to.items
    (c.is_start_due-starts.ensures ∙ ap (is_start_due c.args.rpc) c.as_slice.ensures.value)
    (c.counted-self-inside.ensures ∙ ap (counted c.args.rpc) c.as_slice-2.ensures.value) q asks same c.if-not-starts.false c.restart.ensures c.append.ensures
