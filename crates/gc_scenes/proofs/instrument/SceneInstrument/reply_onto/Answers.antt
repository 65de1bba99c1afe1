use Rattle.gc_scenes.proofs.Plain.{line_played, line_is_plain}
use Rattle.gc_scenes.proofs.instrument.SceneInstrument.reply_onto.Goals as goal

pub returns-clause-played : goal.returns-clause-played
returns-clause-played g c =
    line_played c.args.self.now c.reply_to_line.new.instrument c.args.line.now c.args.out.now.items c.reply_to_line.new.out.items c.reply_to_line.result c.reply_to_line.ensures.replied

pub returns-clause-plain : goal.returns-clause-plain
returns-clause-plain g c =
    line_is_plain c.args.self.now c.reply_to_line.new.instrument c.args.line.now c.args.out.now.items c.reply_to_line.new.out.items c.reply_to_line.result c.reply_to_line.ensures.replied
