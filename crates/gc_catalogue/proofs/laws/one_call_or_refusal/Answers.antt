use Rattle.gc_catalogue.proofs.CallLaws.{no_refusal, one_call, one_refusal}
use Rattle.gc_catalogue.proofs.laws.one_call_or_refusal.Goals as goal

pub returns : goal.returns
returns c = record { call = one_call; refusal = one_refusal; never_both = no_refusal }
