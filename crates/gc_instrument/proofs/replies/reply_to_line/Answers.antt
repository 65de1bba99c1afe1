use Rattle.gc_instrument.proofs.Common.{refl, request_seen, faulty_is_no_request}
use Rattle.gc_lines.specs.Prelude.{silent, answers}
use Rattle.gc_instrument.proofs.replies.reply_to_line.Goals as goal

pub returns-in-Ok-clause-replied : goal.returns-in-Ok-clause-replied
returns-in-Ok-clause-replied g c =
    let made = c.reply_to.ensures.replies in
    (made.text, answers _ c.in-Ok.ensures.found made.text made.is refl, made.appended)

pub returns-in-Err-clause-replied : goal.returns-in-Err-clause-replied
returns-in-Err-clause-replied g c = (silent (faulty_is_no_request _ c.in-Err.field-0 request_seen c.in-Err.ensures.only) refl refl, refl)
