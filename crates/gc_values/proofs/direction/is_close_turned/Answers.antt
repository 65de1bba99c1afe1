use Rattle.gc_values.proofs.Common.{◌∙◌}
use Rattle.gc_values.proofs.NearLemmas.{close_turned}
use Rattle.gc_values.proofs.direction.is_close_turned.Goals as goal

pub returns : goal.returns
returns c = c.is_close.ensures ∙ close_turned c.args.most c.args.turns c.args.x c.args.y c.ranges.most c.requires.few c.requires.first c.requires.second
