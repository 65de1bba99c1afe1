use Rattle.gc_instrument.proofs.Answering.{line_replied, line_exchanged}
use Rattle.gc_instrument.proofs.instrument.Instrument.reply_onto.Goals as goal

pub returns-clause-replied : goal.returns-clause-replied
returns-clause-replied g c =
    line_replied c.args.self.now c.reply_to_line.new.instrument c.args.line.now c.args.out.now.items c.reply_to_line.new.out.items c.reply_to_line.result c.reply_to_line.ensures.replied

pub returns-clause-exchanged : goal.returns-clause-exchanged
returns-clause-exchanged g c =
    line_exchanged c.args.self.now c.reply_to_line.new.instrument c.args.line.now c.args.out.now.items c.reply_to_line.new.out.items c.reply_to_line.result c.reply_to_line.ensures.replied
