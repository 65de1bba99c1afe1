use Rattle.gc_catalogue.proofs.LineLaws.{call_again}
use Rattle.gc_catalogue.proofs.laws.calls_read_back.Goals as goal

pub returns : goal.returns
returns c = call_again
