use Rattle.gc_scenes.proofs.Nearest.{nearest_is_nearest}
use Rattle.gc_scenes.proofs.laws.nearest_is_nearest.Goals as goal

pub returns : goal.returns
returns c = nearest_is_nearest
