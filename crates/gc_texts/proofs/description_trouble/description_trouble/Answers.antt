use Rattle.gc_texts.proofs.DescribingTroubles.{outside_is_described}
use Rattle.gc_texts.proofs.description_trouble.description_trouble.Goals as goal

pub returns : goal.returns
returns c = outside_is_described c.args.text.now c.outside_trouble.result c.outside_trouble.ensures
