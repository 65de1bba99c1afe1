use Rattle.gc_filters.proofs.OneVerdict.{one_verdict}
use Rattle.gc_filters.proofs.laws.one_verdict.Goals as goal

pub returns : goal.returns
returns c = one_verdict
