use Rattle.geocom_c.proofs.Common.{raw_rule}
use Rattle.geocom_c.proofs.Sendings.{reads_found}
use Rattle.geocom_c.proofs.raws.read_raw.Goals as goal

pub returns-in-Ok : goal.returns-in-Ok
returns-in-Ok c =
    let procedure = c.args.procedure in
    let params = c.args.params.now in
    reads_found (raw_rule procedure params)
    c.raw_call.result (λ raw is. c.raw_call.ensures.only raw is.0 is.1) c.raw_call.ensures.exactly c.in-Ok.raw c.in-Ok.is c.in-Ok.ensures.found
