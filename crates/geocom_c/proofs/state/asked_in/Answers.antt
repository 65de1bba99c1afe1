use Rattle.geocom_c.proofs.Common.{request_seen}
use Rattle.geocom_c.proofs.Lines.{asks_as_read, unread_asks_nothing}
use Rattle.geocom_c.proofs.state.asked_in.Goals as goal

pub returns-in-Ok-clause-only : goal.returns-in-Ok-clause-only
returns-in-Ok-clause-only c = λ asked is.
    let same = asks_as_read c.args.line.now asked (request_seen c.in-Ok.request) c.in-Ok.ensures.exact is in
    c.asked_of.ensures.only asked same.0 same.1

pub returns-in-Err-clause-only : goal.returns-in-Err-clause-only
returns-in-Err-clause-only c = λ asked is. absurd (unread_asks_nothing c.args.line.now asked c.in-Err.field-0 c.in-Err.ensures.exact is)
