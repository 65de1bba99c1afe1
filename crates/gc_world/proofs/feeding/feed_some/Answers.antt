use Rattle.gc_world.proofs.Common.{◌≡◌, ◌+◌, length, arith}
use Rattle.gc_world.proofs.Pieces.{fed_within, fed_line, fed_return}
use Rattle.gc_world.proofs.feeding.feed_some.Goals as goal

pub returns-then-to-line : goal.returns-then-to-line
returns-then-to-line c =
    let line = c.args.line.now in
    fed_within c.args.assembler.now c.next.new.self line c.requires.plain c.args.gone (c.args.gone + c.args.n) (omega arith) (omega (arith, c.if-to-line.true)) c.next.ensures.more c.requires.stands

pub returns-then-gone-line : goal.returns-then-gone-line
returns-then-gone-line c =
    let line = c.args.line.now in
    let whole : c.args.gone + c.args.n ≡ length line + 1 = omega (arith, c.if-to-line.false, c.requires.some) in
    fed_return c.next-then-gone-line.new.self c.next-then-gone-line-2.new.self line (c.args.gone + c.args.n) whole c.next-then-gone-line-2.ensures.more
    (fed_line c.args.assembler.now c.next-then-gone-line.new.self line c.requires.plain c.args.gone (omega (arith, c.if-gone-line.true)) c.next-then-gone-line.ensures.more c.requires.stands)
