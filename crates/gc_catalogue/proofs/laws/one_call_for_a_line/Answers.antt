use Rattle.gc_catalogue.proofs.AskedRules.{one_call_for_a_line}
use Rattle.gc_catalogue.proofs.laws.one_call_for_a_line.Goals as goal

pub returns : goal.returns
returns c = one_call_for_a_line
