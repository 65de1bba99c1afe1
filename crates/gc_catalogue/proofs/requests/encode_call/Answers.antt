use Rattle.gc_catalogue.proofs.Common.{◌∙◌, ◌++◌, ap, request_line}
use Rattle.gc_catalogue.proofs.requests.encode_call.Goals as goal

pub returns-clause-line : goal.returns-clause-line
returns-clause-line c = c.encode_call_onto.ensures.line ∙ ap (λ bytes. bytes ++ request_line c.args.id c.args.call.now) c.new-line.ensures

pub returns-clause-plain : goal.returns-clause-plain
returns-clause-plain c = rw (returns-clause-line c) c.encode_call_onto.ensures.plain
