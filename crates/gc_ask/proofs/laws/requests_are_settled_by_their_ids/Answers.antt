use Rattle.gc_ask.proofs.ById.{asks_by_id}
use Rattle.gc_ask.proofs.laws.requests_are_settled_by_their_ids.Goals as goal

pub returns : goal.returns
returns c = asks_by_id
