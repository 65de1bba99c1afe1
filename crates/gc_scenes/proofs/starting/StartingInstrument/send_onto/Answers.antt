use Rattle.gc_scenes.proofs.Common.{refl, request_seen, faulty_is_no_request, ignores}
use Rattle.gc_scenes.proofs.starting.StartingInstrument.send_onto.Goals as goal

pub returns-in-Ok-clause-does : goal.returns-in-Ok-clause-does
returns-in-Ok-clause-does g c = c.send_for.ensures.does (request_seen c.in-Ok.request) c.in-Ok.ensures.found refl

pub returns-in-Err-clause-does : goal.returns-in-Err-clause-does
returns-in-Err-clause-does g c = (ignores (faulty_is_no_request _ c.in-Err.field-0 request_seen c.in-Err.ensures.only) refl refl, refl)
