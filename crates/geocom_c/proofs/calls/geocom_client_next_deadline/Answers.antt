use Rattle.geocom_c.proofs.Common.{◌∙◌, Some, None, sym, subst, refl, Asked, Windowed, deadlines, IsEarliest, same_Some}
use Rattle.geocom_c.proofs.calls.geocom_client_next_deadline.Goals as goal

pub returns-in_default-clause-earliest : goal.returns-in_default-clause-earliest
returns-in_default-clause-earliest c = λ c' rest s. absurd (c.in_default.not-Some c' (c.load.ensures.only c' rest s))

pub returns-in_default-clause-astray : goal.returns-in_default-clause-astray
returns-in_default-clause-astray c = (λ _. c.load.ensures.none c.in_default.is, λ _. refl)

pub returns-in-Some-next_deadline-clause-earliest : goal.returns-in-Some-next_deadline-clause-earliest
returns-in-Some-next_deadline-clause-earliest c = λ c' rest s.
    let same = same_Some c.in-Some.client c' (sym c.in-Some.is ∙ c.load.ensures.only c' rest s) in (
      refl,
      subst (λ (d : Windowed Asked). IsEarliest (deadlines d.ids.waiting) (Some c.in-Some-next_deadline.deadline)) same
          (subst (λ o. IsEarliest (deadlines c.in-Some.client.ids.waiting) o) c.in-Some-next_deadline.is c.next_deadline.ensures),
    )

pub returns-in-None-clause-earliest : goal.returns-in-None-clause-earliest
returns-in-None-clause-earliest c = λ c' rest s.
    let same = same_Some c.in-Some.client c' (sym c.in-Some.is ∙ c.load.ensures.only c' rest s) in
    (refl, subst (λ (d : Windowed Asked). IsEarliest (deadlines d.ids.waiting) None) same (subst (λ o. IsEarliest (deadlines c.in-Some.client.ids.waiting) o) c.in-None.is c.next_deadline.ensures))
