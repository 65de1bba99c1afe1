use Rattle.gc_texts.proofs.SettlementLines.{appended_next}
use Rattle.gc_texts.proofs.settled.append_settlements.Goals as goal

pub loop-place-preserved : goal.loop-place-preserved
loop-place-preserved c =
    appended_next c.args.settlements.now c.loop-place.place c.index-settlements-place.result c.args.text.now.items c.loop-place.text.items c.append_settlement.new.text.items
    c.loop-place-test.true c.index-settlements-place.is c.loop-place.invariant c.in_ok-append_settlement.ensures
