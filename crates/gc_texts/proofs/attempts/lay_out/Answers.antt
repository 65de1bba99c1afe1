use Rattle.gc_texts.proofs.Common.{rules, ◌<◌, length}
use Rattle.gc_texts.proofs.Laying.{lays_on}
use Rattle.gc_texts.proofs.attempts.lay_out.Goals as goal

pub loop-place-preserved-then-planned : goal.loop-place-preserved-then-planned
loop-place-preserved-then-planned c =
    let below : c.loop-place.place < length c.args.cycle.now = search rules in
    lays_on c.args.tasks.now.items c.loop-place.tasks.items c.args.cycle.now c.loop-place.retry c.loop-place.agree c.loop-place.from c.loop-place.place c.index-cycle-place.result c.loop-place.invariant
    below c.index-cycle-place.is (search rules)
