use Rattle.gc_texts.proofs.Common.{ap, ◌∙◌}
use Rattle.gc_texts.proofs.DatedPaths.{made_whole}
use Rattle.gc_texts.proofs.Items.{no_bytes}
use Rattle.gc_texts.proofs.dated_path.path_at.Goals as goal

pub returns-in-Ok : goal.returns-in-Ok
returns-in-Ok c = ap (λ v. v.items) c.in-Ok.ensures.ok ∙ made_whole _ _ _ _ c.loop-first.invariant (no_bytes _ c.in_default.ensures.cases)
