use Rattle.gc_texts.proofs.Common.{ap, option_copied, line_at}
use Rattle.gc_texts.proofs.LinePlaces.{line_here, line_behind}
use Rattle.gc_texts.proofs.line_forms.line_at.Goals as goal

pub returns-then-wanted-le1 : goal.returns-then-wanted-le1
returns-then-wanted-le1 c =
    line_here (line_at c.args.text.now c.args.number) (option_copied c.loop-left.left) c.in-Some.text.now c.cut_line.result.0.now (option_copied c.cut_line.result.1) c.loop-left.wanted
    c.loop-left.invariant (ap option_copied c.in-Some.is) c.cut_line.ensures c.if-wanted-le1.true

pub loop-left-preserved : goal.loop-left-preserved
loop-left-preserved c =
    line_behind (line_at c.args.text.now c.args.number) (option_copied c.loop-left.left) c.in-Some.text.now c.cut_line.result.0.now (option_copied c.cut_line.result.1) c.loop-left.wanted
    c.loop-left.invariant (ap option_copied c.in-Some.is) c.cut_line.ensures c.if-wanted-le1.false
