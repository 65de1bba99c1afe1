use Rattle.gc_instrument.proofs.Common.{refl}
use Rattle.gc_instrument.proofs.HeardFrames.{serves_frames}
use Rattle.gc_instrument.proofs.serving.serve.Goals as goal

pub returns : goal.returns
returns g c =
    let given = c.answer_frames.ensures.answers in
    let h = rw (given.2 refl) at given.1 in
    record { did = (h.0, h.1, h.2, serves_frames _ _ _ _ _ _ h.3); ended = c.answer_frames.ensures.ended }
