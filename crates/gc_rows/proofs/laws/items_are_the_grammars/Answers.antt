use Rattle.gc_rows.proofs.Items.{items_are_the_grammars}
use Rattle.gc_rows.proofs.laws.items_are_the_grammars.Goals as goal

pub returns : goal.returns
returns c = items_are_the_grammars
