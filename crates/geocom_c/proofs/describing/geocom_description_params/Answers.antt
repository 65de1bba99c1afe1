use Rattle.geocom_c.proofs.Common.{◌∙◌, refl, subst, description_seen, AreOfKinds, IsKindsFault, KindsSeen, kinds_seen}
use Rattle.geocom_c.proofs.DescribedReplies.{same_kinds}
use Rattle.geocom_c.specs.Describing as describing
use Rattle.geocom_c.proofs.describing.geocom_description_params.Goals as goal

pub returns-in-Some : goal.returns-in-Some
returns-in-Some c =
    let kinds = same_kinds (kinds_seen c.asks.result) _ _ c.asks.ensures.kinds c.asks.ensures.also in
    describing.misfit (description_seen c.in-Ok.description) c.in-Some.fault c.in-Ok.ensures.found
    (subst (λ (k : KindsSeen). IsKindsFault k c.args.params.now c.in-Some.fault) kinds c.in-Some.ensures.found) (c.from.ensures ∙ c.number.ensures)

pub returns-in-None : goal.returns-in-None
returns-in-None c =
    let kinds = same_kinds (kinds_seen c.asks.result) _ _ c.asks.ensures.kinds c.asks.ensures.also in
    let (vs, are) = c.in-None.ensures.none in
    describing.fit (description_seen c.in-Ok.description) vs c.in-Ok.ensures.found (subst (λ (k : KindsSeen). AreOfKinds k c.args.params.now vs) kinds are) refl
