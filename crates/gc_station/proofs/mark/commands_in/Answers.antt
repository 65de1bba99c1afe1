use Rattle.gc_station.proofs.Common.{true, false, sym, ◌∙◌, arith}
use Rattle.gc_station.proofs.Records.{commands_more, is_command_there}
use Rattle.gc_station.proofs.mark.commands_in.Goals.{then-is_some, else-is_some}
use Rattle.gc_station.proofs.mark.commands_in.Goals as goal

pub loop-mark-preserved : goal.loop-mark-preserved
loop-mark-preserved c =
    let marks = c.args.marks.now in
    let before = c.loop-mark.invariant in
    let here = is_command_there marks c.loop-mark.mark-index c.mark-item.result c.loop-mark-test.true c.mark-item.is in
    elim c.if-is_some.branch [
      | then-is_some w ↦ let more = commands_more marks c.loop-mark.mark-index true c.loop-mark-test.true (sym w.if-is_some.true ∙ c.is_some.ensures ∙ here) in
          record { counted = omega (arith, w.commands-is, before.counted, more); within = omega (arith, w.commands-is, before.within) }
      | else-is_some w ↦ let more = commands_more marks c.loop-mark.mark-index false c.loop-mark-test.true (sym w.if-is_some.false ∙ c.is_some.ensures ∙ here) in
          record { counted = omega (arith, w.commands-is, before.counted, more); within = omega (arith, w.commands-is, before.within) }
    ]
