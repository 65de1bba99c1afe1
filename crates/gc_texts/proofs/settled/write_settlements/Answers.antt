use Rattle.gc_texts.proofs.Common.{◌∙◌}
use Rattle.gc_texts.proofs.WritingSettlements.{took_next, took_part}
use Rattle.gc_texts.proofs.settled.write_settlements.Goals as goal

pub returns-in-Err-clause-wrote : goal.returns-in-Err-clause-wrote
returns-in-Err-clause-wrote g c =
    took_part c.args.place c.args.settlements.now c.loop-i.i c.index-settlements-i.result _ _ _ _ c.loop-i-test.true c.index-settlements-i.is
    (c.as_slice.ensures.value ∙ c.settlement_line_into.ensures)
    c.loop-i.invariant.took _ c.in-Err.ensures.took.1

pub loop-i-preserved : goal.loop-i-preserved
loop-i-preserved g c = record {
  took = took_next c.args.place c.args.settlements.now c.loop-i.i c.index-settlements-i.result _ _ _ _ c.loop-i-test.true c.index-settlements-i.is
      (c.as_slice.ensures.value ∙ c.settlement_line_into.ensures)
      c.loop-i.invariant.took c.in_default.ensures.took.0;
  failed = c.in_default.ensures.failed ∙ c.loop-i.invariant.failed;
}
