use Rattle.gc_rows.proofs.Common.{subst, sym, description_seen, AreOfKinds, IsKindsFault, kinds_seen, answer_kinds}
use Rattle.gc_rows.proofs.ValueReading.{fault_not_read, of_kinds_read, same_kinds}
use Rattle.gc_rows.proofs.described.described_values.Goals as goal

pub returns-in-Ok : goal.returns-in-Ok
returns-in-Ok c =
    let kinds = answer_kinds (description_seen c.args.description.now) in
    let same = same_kinds (kinds_seen c.answers.result) kinds c.answers.ensures.kinds c.answers.ensures.also in
    let values = c.in-Ok.values.items in
    sym (of_kinds_read kinds c.args.came.now values (subst (λ k. AreOfKinds k c.args.came.now values) same c.in-Ok.ensures.values))

pub returns-in-Err : goal.returns-in-Err
returns-in-Err c =
    let kinds = answer_kinds (description_seen c.args.description.now) in
    let same = same_kinds (kinds_seen c.answers.result) kinds c.answers.ensures.kinds c.answers.ensures.also in
    sym (fault_not_read kinds c.args.came.now c.in-Err.field-0 (subst (λ k. IsKindsFault k c.args.came.now c.in-Err.field-0) same c.in-Err.ensures.fault))
