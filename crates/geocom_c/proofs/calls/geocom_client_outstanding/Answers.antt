use Rattle.geocom_c.proofs.Common.{◌≡◌, ◌∙◌, Some, None, sym, NO_CLIENT}
use Rattle.geocom_c.proofs.calls.geocom_client_outstanding.Goals as goal

pub returns-in-Some-clause-astray : goal.returns-in-Some-clause-astray
returns-in-Some-clause-astray c = (λ e. let zero : 0 ≡ NO_CLIENT = sym c.counted.ensures.fault ∙ e in cc, λ astray. absurd (astray _ _ c.in-Some.ensures.found))

pub returns-in-None-clause-waiting : goal.returns-in-None-clause-waiting
returns-in-None-clause-waiting c = λ c' rest s. let bad : None ≡ Some c' = sym c.in-None.is ∙ c.load.ensures.only c' rest s in cc

pub returns-in-None-clause-astray : goal.returns-in-None-clause-astray
returns-in-None-clause-astray c = (λ _. c.load.ensures.none c.in-None.is, λ _. c.refused.ensures.fault)
