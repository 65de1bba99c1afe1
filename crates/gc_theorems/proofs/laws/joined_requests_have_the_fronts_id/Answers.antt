use Rattle.gc_theorems.proofs.Joined.{joined_requests}
use Rattle.gc_theorems.proofs.laws.joined_requests_have_the_fronts_id.Goals as goal

pub returns : goal.returns
returns c = joined_requests
