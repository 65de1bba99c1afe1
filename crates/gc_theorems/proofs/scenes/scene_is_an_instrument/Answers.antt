use Rattle.gc_theorems.proofs.SceneField.{scene_is_an_instrument}
use Rattle.gc_theorems.proofs.scenes.scene_is_an_instrument.Goals as goal

pub returns : goal.returns
returns c = scene_is_an_instrument
