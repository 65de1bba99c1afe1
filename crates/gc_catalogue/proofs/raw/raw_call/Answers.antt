use Rattle.gc_catalogue.proofs.Common.{sym, ap, ◌∙◌, rules, Ok, Err, IsRawCall, params_short}
use Rattle.gc_catalogue.proofs.AskedRules.{same_raw}
use Rattle.gc_catalogue.proofs.RawRules.{one_raw_refusal}
use Rattle.gc_catalogue.proofs.raw.raw_call.Goals as goal

pub new-requires : goal.new-requires
new-requires c = let is : IsRawCall c.args.rpc c.args.params.now = search rules in params_short c.args.rpc c.args.params.now is.bound is.short

pub returns-in-Some-clause-exactly : goal.returns-in-Some-clause-exactly
returns-in-Some-clause-exactly c = λ e other. ap (λ z. Err z) (one_raw_refusal c.args.rpc c.args.params.now c.in-Some.fault e c.in-Some.ensures.found other)

pub returns-in-None-clause-only : goal.returns-in-None-clause-only
returns-in-None-clause-only c = λ raw number params. ap (λ z. Ok z) (same_raw _ raw (sym number) (c.new.ensures ∙ sym params))
