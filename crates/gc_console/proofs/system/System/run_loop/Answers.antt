use Rattle.gc_console.proofs.Common.{exit_status}
use Rattle.gc_console.proofs.Unshown.{loops_unshown}
use Rattle.gc_console.proofs.system.System.run_loop.Goals as goal

pub returns-clause-did : goal.returns-clause-did
returns-clause-did g c =
    let made = c.shown_of-shown.ensures in
    let back = c.streams_of.ensures in
    rw (back.input, back.output, back.messages) (loops_unshown c.loop_scene-shown.result.1 exit_status c.args.scene g.S.Source g.K.Sink
    c.args.self.now.standard.output_terminal c.loop_scene-shown.result.0.output.at_terminal
    c.args.streams.input c.loop_scene-shown.result.0.input c.args.streams.output c.loop_scene-shown.result.0.output.output _ _
    (rw (made.input, made.at_terminal, made.inside, made.messages) at c.loop_scene-shown.ensures.told))
