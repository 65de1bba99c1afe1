use Rattle.gc_texts.proofs.Common.{IfOk-weaker, Appends-trans}
use Rattle.gc_texts.proofs.trouble.Trouble.tell.Goals as goal

pub returns : goal.returns
returns g c = IfOk-weaker c.tell_field.result _ _ (λ _ told. Appends-trans _ _ _ _ _ c.in_ok-write.ensures.bytes told) c.tell_field.ensures
