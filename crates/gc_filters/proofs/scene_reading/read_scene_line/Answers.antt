use Rattle.gc_filters.proofs.Common.{◌∙◌, BeginsWith, SceneWord}
use Rattle.gc_filters.proofs.SceneWords.{begins, word_in}
use Rattle.gc_filters.proofs.scene_reading.read_scene_line.Goals as goal

pub returns-in_default : goal.returns-in_default
returns-in_default c =
    let none : (w : SceneWord) → BeginsWith w c.args.line.now → ⊥ = λ w h. c.in_default.ensures w (c.before-2.ensures.is ∙ h) in
    (λ item h. none (word_in item) (begins c.args.line.now item h), none)
