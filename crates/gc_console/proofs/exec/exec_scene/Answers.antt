use Rattle.gc_console.proofs.Common.{inl, inr, IfOk-weaker, simulator_opening}
use Rattle.gc_console.proofs.Started.{same_plain, never_ruled}
use Rattle.gc_console.proofs.exec.exec_scene.Goals as goal

pub returns-in-Ok-Plain-clause-told : goal.returns-in-Ok-Plain-clause-told
returns-in-Ok-Plain-clause-told g c =
    IfOk-weaker c.report_served.result _ _
    (λ status told. inr (inl (
      c.in-Ok-Plain.instrument,
      (λ none. same_plain c.instrument_of.result c.in-Ok-Plain.field-0 c.in-Ok-Plain.instrument simulator_opening c.in-Ok-Plain.is c.in-Ok-Plain.field-0-is
          (c.instrument_of.ensures.simulator none)),
      record { end = c.answer_all.result; ends = (c.answer_all.new.self, c.answer_all.ensures.serves); tells = told },
    )))
    c.report_served.ensures.told

pub returns-in-Ok-Ruled-clause-told : goal.returns-in-Ok-Ruled-clause-told
returns-in-Ok-Ruled-clause-told g c =
    IfOk-weaker c.report_served-in-Ok-Ruled.result _ _
    (λ status told. inr (inr (
      (λ none. never_ruled c.instrument_of.result c.in-Ok-Ruled.field-0 c.in-Ok-Ruled.instrument simulator_opening c.in-Ok-Ruled.is c.in-Ok-Ruled.field-0-is
          (c.instrument_of.ensures.simulator none)),
      (
        c.in-Ok-Ruled.instrument,
        record {
          end = c.answer_all-in-Ok-Ruled.result;
          ends = (c.answer_all-in-Ok-Ruled.new.self, c.answer_all-in-Ok-Ruled.ensures.serves);
          tells = told;
        },
      ),
    )))
    c.report_served-in-Ok-Ruled.ensures.told
