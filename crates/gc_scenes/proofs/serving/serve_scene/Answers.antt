use Rattle.gc_scenes.proofs.Common.{refl}
use Rattle.gc_scenes.proofs.serving.serve_scene.Goals as goal

pub returns : goal.returns
returns g c =
    let given = c.answer_frames.ensures.answers in
    let h = rw (given.2 refl) at given.1 in
    record { did = h; ended = c.answer_frames.ensures.ended }
