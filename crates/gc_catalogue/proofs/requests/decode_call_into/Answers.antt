use Rattle.gc_catalogue.proofs.CallLaws.{fits_where_found, only_call, only_refusal}
use Rattle.gc_catalogue.proofs.requests.decode_call_into.Goals as goal

pub returns-clause-fitting : goal.returns-clause-fitting
returns-clause-fitting c = fits_where_found c.args.request.now.rpc c.args.request.now.params.now c.read_call.result _ c.read_call.ensures.found

pub returns-clause-only : goal.returns-clause-only
returns-clause-only c = only_call c.args.request.now.rpc c.args.request.now.params.now c.read_call.result _ c.read_call.ensures.found c.read_call.ensures.fault

pub returns-clause-exactly : goal.returns-clause-exactly
returns-clause-exactly c = only_refusal c.args.request.now.rpc c.args.request.now.params.now c.read_call.result _ c.read_call.ensures.found c.read_call.ensures.fault
