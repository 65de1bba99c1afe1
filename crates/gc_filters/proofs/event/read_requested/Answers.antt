use Rattle.gc_filters.proofs.Common.{◌≡◌, ℕ, ap, rules, subst, Some, None, option_copied, IsNumber, IsTarget, with_rest}
use Rattle.gc_filters.proofs.Forms.{has_target, has_deadline, has_procedure}
use Rattle.gc_filters.proofs.InThree.{parts_at_two_spaces, has_space, has_second_space}
use Rattle.gc_filters.proofs.event.read_requested.Goals as goal

pub returns-in_default-clause-none : goal.returns-in_default-clause-none
returns-in_default-clause-none c isnt q r =
    has_space c.args.text.now r.parts c.cut_at.result.0.now
    (with_rest 32 c.args.text.now c.cut_at.result.0.now (option_copied c.cut_at.result.1) None c.cut_at.ensures (search rules))

pub returns-in_default-procedure-clause-none : goal.returns-in_default-procedure-clause-none
returns-in_default-procedure-clause-none c isnt q r =
    has_second_space c.args.text.now r.parts c.cut_at.result.0.now c.in-Some.rest.now c.cut_at-2.result.0.now
    (with_rest 32 c.args.text.now c.cut_at.result.0.now (option_copied c.cut_at.result.1) (Some c.in-Some.rest.now) c.cut_at.ensures (ap option_copied c.in-Some.is))
    (with_rest 32 c.in-Some.rest.now c.cut_at-2.result.0.now (option_copied c.cut_at-2.result.1) None c.cut_at-2.ensures (search rules))

pub returns-in_default-target_of-clause-none : goal.returns-in_default-target_of-clause-none
returns-in_default-target_of-clause-none c isnt q r =
    has_target c.args.text.now q r c.cut_at.result.0.now c.in-Some.rest.now
    (with_rest 32 c.args.text.now c.cut_at.result.0.now (option_copied c.cut_at.result.1) (Some c.in-Some.rest.now) c.cut_at.ensures (ap option_copied c.in-Some.is))
    c.in_default-target_of.ensures

pub returns-in_default-number_of-clause-none : goal.returns-in_default-number_of-clause-none
returns-in_default-number_of-clause-none c isnt q r =
    has_deadline c.args.text.now q r c.cut_at.result.0.now c.in-Some.rest.now c.cut_at-2.result.0.now (option_copied c.cut_at-2.result.1)
    (with_rest 32 c.args.text.now c.cut_at.result.0.now (option_copied c.cut_at.result.1) (Some c.in-Some.rest.now) c.cut_at.ensures (ap option_copied c.in-Some.is))
    c.cut_at-2.ensures c.in_default-number_of.ensures

pub returns-clause-none : goal.returns-clause-none
returns-clause-none c isnt q r =
    has_procedure c.args.text.now q r c.cut_at.result.0.now c.in-Some.rest.now c.cut_at-2.result.0.now c.in-Some-procedure.procedure.now
    (with_rest 32 c.args.text.now c.cut_at.result.0.now (option_copied c.cut_at.result.1) (Some c.in-Some.rest.now) c.cut_at.ensures (ap option_copied c.in-Some.is))
    (with_rest 32 c.in-Some.rest.now c.cut_at-2.result.0.now (option_copied c.cut_at-2.result.1) (Some c.in-Some-procedure.procedure.now) c.cut_at-2.ensures (ap option_copied c.in-Some-procedure.is))
    (c.read_procedure_into.ensures.none isnt)

pub returns-clause-found : goal.returns-clause-found
returns-clause-found c = λ found.
    let sent = c.in-Send.is in
    let target : c.in-Some-target_of.target ≡ c.in-Send.field-0 = cc in
    let deadline : c.in-Some-number_of.deadline ≡ c.in-Send.field-2 = cc in
    record {
      parts = parts_at_two_spaces c.args.text.now c.cut_at.result.0.now c.in-Some.rest.now c.cut_at-2.result.0.now c.in-Some-procedure.procedure.now
          (with_rest 32 c.args.text.now c.cut_at.result.0.now (option_copied c.cut_at.result.1) (Some c.in-Some.rest.now) c.cut_at.ensures (ap option_copied c.in-Some.is))
          (with_rest 32 c.in-Some.rest.now c.cut_at-2.result.0.now (option_copied c.cut_at-2.result.1) (Some c.in-Some-procedure.procedure.now) c.cut_at-2.ensures
          (ap option_copied c.in-Some-procedure.is));
      target_is = subst (λ (n : ℕ). IsTarget c.cut_at.result.0.now n) target c.in-Some-target_of.ensures;
      deadline_is = subst (λ (n : ℕ). IsNumber c.cut_at-2.result.0.now n 18446744073709551615) deadline c.in-Some-number_of.ensures;
      procedure_is = c.read_procedure_into.ensures.found found;
    }
