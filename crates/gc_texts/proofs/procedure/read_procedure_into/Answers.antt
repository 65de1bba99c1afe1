use Rattle.gc_texts.proofs.Common.{◌≡◌, ap, refl, Some, None, rules, [], length, ◌<◌, option_copied}
use Rattle.gc_texts.proofs.Procedures.{no_procedure, procedure_read, with_rest, read_with_parameters, no_parameters_no_procedure}
use Rattle.gc_texts.proofs.procedure.read_procedure_into.Goals as goal

pub returns-in_default-clause-none : goal.returns-in_default-clause-none
returns-in_default-clause-none c isnt = no_procedure c.args.text.now c.cut_at.result.0.now (option_copied c.cut_at.result.1) c.cut_at.ensures c.in_default.ensures

pub returns-then-is_empty-clause-none : goal.returns-then-is_empty-clause-none
returns-then-is_empty-clause-none c isnt =
    let none : length c.in-Some-params.params.now ≡ 0 = search rules in
    no_parameters_no_procedure c.args.text.now c.cut_at.result.0.now c.in-Some-params.params.now (option_copied c.cut_at.result.1) c.cut_at.ensures (ap option_copied c.in-Some-params.is) none

pub returns-clause-found : goal.returns-clause-found
returns-clause-found c is =
    let some : 0 < length c.in-Some-params.params.now = search rules in
    read_with_parameters c.args.text.now c.cut_at.result.0.now c.in-Some-params.params.now
    (option_copied c.cut_at.result.1) c.in-Some.rpc (Some c.read_call-2.new.call) c.cut_at.ensures
    (ap option_copied c.in-Some-params.is) some c.in-Some.ensures (c.read_call-2.ensures.found is)

pub returns-clause-none : goal.returns-clause-none
returns-clause-none c isnt =
    let some : 0 < length c.in-Some-params.params.now = search rules in
    read_with_parameters c.args.text.now c.cut_at.result.0.now c.in-Some-params.params.now
    (option_copied c.cut_at.result.1) c.in-Some.rpc None c.cut_at.ensures
    (ap option_copied c.in-Some-params.is) some c.in-Some.ensures (c.read_call-2.ensures.none isnt)

pub returns-in_default-params-clause-none : goal.returns-in_default-params-clause-none
returns-in_default-params-clause-none c isnt =
    procedure_read c.args.text.now c.cut_at.result.0.now [] None c.in-Some.rpc None
    (with_rest 32 c.args.text.now c.cut_at.result.0.now (option_copied c.cut_at.result.1) None c.cut_at.ensures (search rules)) tt refl c.in-Some.ensures (c.read_call.ensures.none isnt)
