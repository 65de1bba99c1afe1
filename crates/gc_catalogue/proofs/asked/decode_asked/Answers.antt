use Rattle.gc_catalogue.proofs.Common.{ap, Some, Raw}
use Rattle.gc_catalogue.proofs.AskedRules.{one_asked}
use Rattle.gc_catalogue.proofs.asked.decode_asked.Goals as goal

pub returns-in-Ok-raw_call-clause-only : goal.returns-in-Ok-raw_call-clause-only
returns-in-Ok-raw_call-clause-only c = λ asked is.
    ap (λ z. Some z) (one_asked c.args.request.now.rpc c.args.request.now.params.now (Raw c.in-Ok-raw_call.raw) asked c.in-Ok-raw_call.ensures.found is)
