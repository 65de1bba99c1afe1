use Rattle.gc_filters.proofs.Common.{Appends-trans}
use Rattle.std.proofs.lemmas.Result.{IfOk-weaker}
use Rattle.gc_filters.proofs.scene_trouble.SceneTrouble.tell.Goals as goal

pub returns : goal.returns
returns g c = IfOk-weaker c.tell_fault.result _ _ (λ _ told. Appends-trans _ _ _ _ _ c.in_ok-write.ensures.bytes told) c.tell_fault.ensures
