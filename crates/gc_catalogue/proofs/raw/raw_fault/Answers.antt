use Rattle.gc_catalogue.proofs.Common.{◌≤◌, rules, IsPlain, IsNoProcedure, line_length, AreFewItems}
use Rattle.gc_catalogue.proofs.RawRules.{few_however_split, few_close_quotes}
use Rattle.gc_catalogue.proofs.raw.raw_fault.Goals as goal

pub returns-in-None-clause-none : goal.returns-in-None-clause-none
returns-in-None-clause-none c =
    let no_procedure : IsNoProcedure c.args.rpc = search rules in
    let plain : IsPlain c.args.params.now = search rules in
    let short : line_length c.args.rpc c.args.params.now ≤ 512 = search rules in
    let few : AreFewItems c.args.params.now = search rules in
    record { bound = c.ranges.rpc.fits; no_procedure = no_procedure; plain = plain; short = short; closed = few_close_quotes c.args.params.now few; few = few_however_split c.args.params.now few }
