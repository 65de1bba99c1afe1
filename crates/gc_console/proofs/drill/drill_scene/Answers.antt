use Rattle.gc_console.proofs.Common.{inl, inr, IfOk-weaker, simulator_opening, end_seen}
use Rattle.gc_console.proofs.Played.{plays_at_0, reads_at_0}
use Rattle.gc_console.proofs.Started.{same_plain, never_ruled}
use Rattle.gc_console.proofs.drill.drill_scene.Goals as goal

pub returns-in-Ok-Plain-clause-done : goal.returns-in-Ok-Plain-clause-done
returns-in-Ok-Plain-clause-done g c =
    IfOk-weaker c.drill_within.result _ _
    (λ status told zero. inl (
      c.in-Ok-Plain.instrument,
      (λ none. same_plain c.instrument_of.result c.in-Ok-Plain.field-0 c.in-Ok-Plain.instrument simulator_opening c.in-Ok-Plain.is c.in-Ok-Plain.field-0-is
          (c.instrument_of.ensures.simulator none)),
      plays_at_0 _ _ (end_seen _ _ _ _ _) zero told,
    )) c.drill_within.ensures.told

pub returns-in-Ok-Plain-clause-told : goal.returns-in-Ok-Plain-clause-told
returns-in-Ok-Plain-clause-told g c =
    IfOk-weaker c.drill_within.result _ _
    (λ status told. inr (inl (
      c.in-Ok-Plain.instrument,
      (λ none. same_plain c.instrument_of.result c.in-Ok-Plain.field-0 c.in-Ok-Plain.instrument simulator_opening c.in-Ok-Plain.is c.in-Ok-Plain.field-0-is
          (c.instrument_of.ensures.simulator none)),
      told,
    )))
    c.drill_within.ensures.told

pub returns-in-Ok-Plain-clause-whole : goal.returns-in-Ok-Plain-clause-whole
returns-in-Ok-Plain-clause-whole g c =
    IfOk-weaker c.drill_within.result _ _ (λ status told zero. reads_at_0 _ _ (end_seen _ _ _ _ _) zero told) c.drill_within.ensures.told

pub returns-in-Ok-Ruled-clause-done : goal.returns-in-Ok-Ruled-clause-done
returns-in-Ok-Ruled-clause-done g c =
    IfOk-weaker c.drill_within-in-Ok-Ruled.result _ _
    (λ status told zero. inr (
      (λ none. never_ruled c.instrument_of.result c.in-Ok-Ruled.field-0 c.in-Ok-Ruled.instrument simulator_opening c.in-Ok-Ruled.is c.in-Ok-Ruled.field-0-is
          (c.instrument_of.ensures.simulator none)),
      (c.in-Ok-Ruled.instrument, plays_at_0 _ _ (end_seen _ _ _ _ _) zero told),
    )) c.drill_within-in-Ok-Ruled.ensures.told

pub returns-in-Ok-Ruled-clause-told : goal.returns-in-Ok-Ruled-clause-told
returns-in-Ok-Ruled-clause-told g c =
    IfOk-weaker c.drill_within-in-Ok-Ruled.result _ _
    (λ status told. inr (inr (
      (λ none. never_ruled c.instrument_of.result c.in-Ok-Ruled.field-0 c.in-Ok-Ruled.instrument simulator_opening c.in-Ok-Ruled.is c.in-Ok-Ruled.field-0-is
          (c.instrument_of.ensures.simulator none)),
      (c.in-Ok-Ruled.instrument, told),
    )))
    c.drill_within-in-Ok-Ruled.ensures.told

pub returns-in-Ok-Ruled-clause-whole : goal.returns-in-Ok-Ruled-clause-whole
returns-in-Ok-Ruled-clause-whole g c =
    IfOk-weaker c.drill_within-in-Ok-Ruled.result _ _ (λ status told zero. reads_at_0 _ _ (end_seen _ _ _ _ _) zero told) c.drill_within-in-Ok-Ruled.ensures.told
