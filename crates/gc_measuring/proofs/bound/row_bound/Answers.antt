use Rattle.gc_measuring.proofs.Common.{◌≡◌, ℕ, ◌+◌, ◌-◌, ◌*◌, min, ap, ◌∙◌, arith, raws_of_setup, lost_by}
use Rattle.gc_measuring.specs.declared.bound.TheConstants.{CALL}
use Rattle.gc_measuring.proofs.LostTimes.{lost_from_none, row_is}
use Rattle.gc_measuring.proofs.bound.row_bound.Goals as goal

pub returns : goal.returns
returns c =
    let plan = c.args.plan.now in
    let tasks = c.args.tasks.now in
    let once = c.saturating_add.ensures in
    let seven = c.saturating_mul-time.ensures in
    let time : c.saturating_mul-time.result ≡ min (7 * (plan.deadline + CALL)) 18446744073709551615 = omega (arith, once, seven) in
    let lost = c.lost_by.ensures ∙ ap (λ (n : ℕ). lost_by 0 n c.saturating_mul-time.result tasks) c.fronts.ensures ∙ lost_from_none tasks (plan.setup - 1) c.saturating_mul-time.result in
    c.saturating_add-2.ensures
    ∙ row_is (2 * plan.every) plan.setup plan.deadline CALL (raws_of_setup plan tasks) 18446744073709551615 c.bound_without_raws.result c.saturating_mul-time.result c.lost_by.result c.bound_without_raws.ensures time lost
