use Rattle.gc_texts.proofs.Directed.{distances_by_procedure}
use Rattle.gc_texts.proofs.laws.distances_are_asked_for.Goals as goal

pub returns : goal.returns
returns c = distances_by_procedure
