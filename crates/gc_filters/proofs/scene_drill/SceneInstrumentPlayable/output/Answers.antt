use Rattle.gc_filters.proofs.Common.{◌≡◌, subst, IfOk, ℕ, List, scene_played}
use Rattle.gc_filters.specs.SceneDrill.{scene_drill_text}
use Rattle.gc_filters.proofs.Shown.{text_shown}
use Rattle.gc_filters.proofs.scene_drill.SceneInstrumentPlayable.output.Goals as goal

pub returns : goal.returns
unfolding scene_drill_text
returns c =
    subst (λ (t : List ℕ). IfOk c.text_of.result (λ text. text.items ≡ t))
    (text_shown c.in_ok-report.report (scene_played c.args.width c.args.self c.args.events.now).wire c.args.totals c.in_ok-report.ensures.played) c.text_of.ensures
