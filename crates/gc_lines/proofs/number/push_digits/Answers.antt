use Rattle.gc_lines.proofs.Common.{◌++◌, arith, ap, ◌∙◌}
use Rattle.gc_lines.proofs.Digits.{digit_written, last_digit_written}
use Rattle.gc_lines.proofs.number.push_digits.Goals as goal

pub loop-left-preserved : goal.loop-left-preserved
loop-left-preserved g c =
    let i = c.loop-left.invariant in
    let next = digit_written c.loop-left.digits c.loop-left.at c.loop-left.left c.args.n
    (record { room = i.room; size = i.size; text = i.text }) i.below (omega arith) c.loop-left-test.true in
    record { room = next.1.room; size = next.1.size; below = next.0; text = next.1.text }

pub returns-clause-items : goal.returns-clause-items
returns-clause-items g c =
    let i = c.loop-left.invariant in
    c.append.ensures ∙ ap (λ ds. c.args.to.now.items ++ ds) (last_digit_written c.loop-left.digits c.loop-left.at c.loop-left.left c.args.n
    (record { room = i.room; size = i.size; text = i.text }) c.loop-left-test.false)
