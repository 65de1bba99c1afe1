use Rattle.gc_values.proofs.Common.{◌≡◌, cond, rules, sym, ap, ◌∙◌}
use Rattle.gc_values.proofs.WholeLemmas.{whole_fault}
use Rattle.gc_values.proofs.whole.read_between.Goals.{then-negative, else-negative}
use Rattle.gc_values.proofs.whole.read_between.Goals as goal

pub returns-in_err-magnitude-clause-fault : goal.returns-in_err-magnitude-clause-fault
returns-in_err-magnitude-clause-fault c =
    let negative = c.cut_sign-negative.result.0 in
    let most : c.from.result ≡ cond negative c.args.below c.args.above = elim c.if-negative.branch [
      | then-negative w ↦ c.from.ensures ∙ w.most-is ∙ sym (ap (λ b. cond b c.args.below c.args.above) w.if-negative.true)
      | else-negative w ↦ c.from.ensures ∙ w.most-is ∙ sym (ap (λ b. cond b c.args.below c.args.above) w.if-negative.false)
    ] in
    let fault = whole_fault c.args.item.now c.cut_sign-negative.result.1.now negative c.from.result c.args.below c.args.above _ c.cut_sign-negative.ensures most c.in_err-magnitude.ensures.fault in
    search rules
