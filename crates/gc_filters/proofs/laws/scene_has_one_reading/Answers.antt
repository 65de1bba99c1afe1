use Rattle.gc_filters.proofs.Scenes.{one_state, scene_is_not_overfull}
use Rattle.gc_filters.proofs.laws.scene_has_one_reading.Goals as goal

pub returns : goal.returns
returns c = record { state = one_state; full = scene_is_not_overfull }
