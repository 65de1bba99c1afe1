use Rattle.gc_texts.proofs.Common.{rules, subst, sym, NamesRule, IsRetryRule, Retry}
use Rattle.gc_texts.proofs.retry.read_retry_rule.Goals as goal

pub returns-in_err-again : goal.returns-in_err-again
returns-in_err-again c =
    let none : (retry : Retry) → IsRetryRule c.args.text.now retry → ⊥ =
    λ retry is. c.in_err-again.ensures retry.again (subst (λ t. NamesRule t retry.again) (sym c.behind.ensures.is) is.again_is) in
    search rules
