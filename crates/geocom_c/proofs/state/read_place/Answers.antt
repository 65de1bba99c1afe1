use Rattle.geocom_c.proofs.Common.{◌≡◌, ℕ, Bool, Some, refl, sym, ap, ◌∙◌, Asked, Pending, none-some, same_Some}
use Rattle.geocom_c.proofs.state.read_place.Goals as goal

-- a request with the same target, call, deadline and `given_up` as p is p
same_pending : (p : Pending Asked) (target : ℕ) (call : Asked) (deadline : ℕ) (given_up : Bool) → target ≡ p.target → call ≡ p.call
    → deadline ≡ p.deadline → given_up ≡ p.given_up → record { target = target; call = call; deadline = deadline; given_up = given_up } ≡ p
same_pending p target call deadline given_up a b d e = rw (a, b, d, e) refl

pub returns-clause-only : goal.returns-clause-only
returns-clause-only c = λ p is.
    ap Some (
    same_pending p _ _ _ _ is.target (same_Some _ _ (sym c.in_ok-call.was ∙ c.asked_at.ensures.only p.call is.within is.line)) is.deadline
    (same_Some _ _ (sym c.in_ok-given_up.was ∙ c.flag_of.ensures.only p.given_up is.given_up))
    )

pub returns-in_err-call-clause-only : goal.returns-in_err-call-clause-only
returns-in_err-call-clause-only c = λ p is. absurd (none-some p.call (sym c.in_err-call.was ∙ c.asked_at.ensures.only p.call is.within is.line))
