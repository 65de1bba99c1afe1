use Rattle.gc_world.proofs.Pieces.{lent_line_items, no_other_lent}
use Rattle.gc_world.proofs.Streaming.{front_of}
use Rattle.gc_world.proofs.side.Side.finish.Goals as goal

pub feed_rest-frame-requires-clause-plain : goal.feed_rest-frame-requires-clause-plain
feed_rest-frame-requires-clause-plain c =
    let s = c.args.self.now in (front_of s.assembler s.gone c.args.line.now c.requires.flow.0 c.requires.flow.1).plain

pub feed_rest-frame-requires-clause-some : goal.feed_rest-frame-requires-clause-some
feed_rest-frame-requires-clause-some c =
    let s = c.args.self.now in (front_of s.assembler s.gone c.args.line.now c.requires.flow.0 c.requires.flow.1).some

pub feed_rest-frame-requires-clause-stands : goal.feed_rest-frame-requires-clause-stands
feed_rest-frame-requires-clause-stands c =
    let s = c.args.self.now in (front_of s.assembler s.gone c.args.line.now c.requires.flow.0 c.requires.flow.1).stands

-- the line came out
pub unreachable-requires : goal.unreachable-requires
unreachable-requires c = no_other_lent c.feed_rest-frame.result c.args.line.now c.feed_rest-frame.ensures.line c.in_default.not-Line

pub returns-clause-line : goal.returns-clause-line
returns-clause-line c = lent_line_items c.feed_rest-frame.result c.in-Line.whole c.args.line.now c.in-Line.is c.feed_rest-frame.ensures.line
