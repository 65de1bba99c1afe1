use Rattle.gc_filters.proofs.Common.{refl}
use Rattle.gc_filters.proofs.Forms.{requested_send_is_event, unrequested_is_no_send}
use Rattle.gc_filters.proofs.event.read_send.Goals as goal

pub returns-in-Some-clause-found : goal.returns-in-Some-clause-found
returns-in-Some-clause-found c is = requested_send_is_event _ c.args.line.now c.in-Some.rest.now c.read_requested.new.event refl c.in-Some.ensures (c.read_requested.ensures.found is)

pub returns-in-Some-clause-none : goal.returns-in-Some-clause-none
returns-in-Some-clause-none c isnt = unrequested_is_no_send _ c.args.line.now c.in-Some.rest.now refl c.in-Some.ensures (c.read_requested.ensures.none isnt)
