use Rattle.gc_texts.proofs.Common.{◌≡◌, subst, kinds_asked, AreOfKinds, IsKindsFault, KindsSeen, kinds_seen}
use Rattle.gc_texts.proofs.KindReadings.{fault_has_no_values, same_kinds_seen}
use Rattle.gc_texts.proofs.description.Description.takes.Goals as goal

pub returns-in-Ok-clause-found : goal.returns-in-Ok-clause-found
returns-in-Ok-clause-found c _ =
    let same : kinds_seen c.asks.result ≡ kinds_asked c.args.self.now = same_kinds_seen (kinds_seen c.asks.result) (kinds_asked c.args.self.now) c.asks.ensures.kinds c.asks.ensures.also in
    (c.in-Ok.field-0.items, subst (λ (k : KindsSeen). AreOfKinds k c.args.params.now c.in-Ok.field-0.items) same c.in-Ok.ensures.values)

pub returns-in-Err-clause-none : goal.returns-in-Err-clause-none
returns-in-Err-clause-none c _ values are =
    let same : kinds_seen c.asks.result ≡ kinds_asked c.args.self.now = same_kinds_seen (kinds_seen c.asks.result) (kinds_asked c.args.self.now) c.asks.ensures.kinds c.asks.ensures.also in
    fault_has_no_values (kinds_asked c.args.self.now) c.args.params.now values c.in-Err.field-0 are
    (subst (λ (k : KindsSeen). IsKindsFault k c.args.params.now c.in-Err.field-0) same c.in-Err.ensures.fault)
