use Rattle.gc_console.proofs.Common.{inl, inr, IfOk-weaker, simulator_opening}
use Rattle.gc_console.proofs.Started.{same_still, never_still_ruled, never_slow, slow_served}
use Rattle.gc_console.proofs.serve.serve_with_scene.Goals as goal

pub returns-in-Ok-Still-Plain-clause-served : goal.returns-in-Ok-Still-Plain-clause-served
returns-in-Ok-Still-Plain-clause-served g c =
    let at = c.in-Ok-Still-Plain in
    IfOk-weaker c.serve_or_keep.result _ _
    (λ status serves. inr (inl (
      at.instrument,
      (λ none. same_still c.instrument_of.result at.field-0 at.field-0-0 at.instrument simulator_opening at.is at.field-0-is at.field-0-0-is
          (c.instrument_of.ensures.simulator none)),
      serves,
    )))
    c.serve_or_keep.ensures.served

pub returns-in-Ok-Still-Ruled-clause-served : goal.returns-in-Ok-Still-Ruled-clause-served
returns-in-Ok-Still-Ruled-clause-served g c =
    let at = c.in-Ok-Still-Ruled in
    IfOk-weaker c.serve_or_keep-in-Ok-Still-Ruled.result _ _
    (λ status serves. inr (inr (inl (
      (λ none. never_still_ruled c.instrument_of.result at.field-0 at.field-0-0 at.instrument simulator_opening at.is at.field-0-is at.field-0-0-is
          (c.instrument_of.ensures.simulator none)),
      (at.instrument, serves),
    ))))
    c.serve_or_keep-in-Ok-Still-Ruled.ensures.served

pub returns-in-Ok-Slow-clause-served : goal.returns-in-Ok-Slow-clause-served
returns-in-Ok-Slow-clause-served g c =
    let at = c.in-Ok-Slow in
    IfOk-weaker c.serve_slow.result _ _
    (λ status serves. slow_served c.args.serving at.slow _ _ _
    (λ none. never_slow c.instrument_of.result at.field-0 at.slow simulator_opening at.is at.field-0-is (c.instrument_of.ensures.simulator none)) serves)
    c.serve_slow.ensures.served
