use Rattle.gc_texts.proofs.Common.{ap, ◌∙◌, measured_part}
use Rattle.gc_texts.proofs.FormReadings.{form_answers, one_form_reading}
use Rattle.gc_catalogue.specs.declared.answer.Reading.TheVariants as reading
use Rattle.gc_texts.proofs.form.Form.reading.Goals as goal

pub returns-in-Ok-clause-found : goal.returns-in-Ok-clause-found
returns-in-Ok-clause-found c =
    form_answers c.args.self.now c.args.params.now c.in-Ok.values.items c.measured_part.result c.in-Ok.ensures.values
    (c.measured_part.ensures ∙ ap (measured_part c.args.self.now) c.as_slice.ensures.value)

pub returns-in-Ok-clause-only : goal.returns-in-Ok-clause-only
returns-in-Ok-clause-only c other is =
    one_form_reading c.args.self.now c.args.params.now (reading.Value c.measured_part.result) other
    (form_answers c.args.self.now c.args.params.now c.in-Ok.values.items c.measured_part.result c.in-Ok.ensures.values
    (c.measured_part.ensures ∙ ap (measured_part c.args.self.now) c.as_slice.ensures.value)) is

pub returns-in-Err-clause-only : goal.returns-in-Err-clause-only
returns-in-Err-clause-only c other is = one_form_reading c.args.self.now c.args.params.now (reading.Unreadable c.in-Err.fault) other c.in-Err.ensures.fault is
