use Rattle.gc_texts.proofs.Common.{◌<◌, length, arith}
use Rattle.gc_texts.proofs.KindPlaces.{filled_more}
use Rattle.gc_texts.proofs.kinds.Kinds.of.Goals as goal

pub loop-k-preserved : goal.loop-k-preserved
loop-k-preserved c =
    let below : c.loop-k.k < length c.args.fields.now = omega arith in
    filled_more c.args.fields.now c.loop-k.k c.index-fields-k.result c.loop-k.kinds below c.requires c.index-fields-k.is c.loop-k.invariant
