use Rattle.gc_texts.proofs.Repeating.{chains_go_out_again}
use Rattle.gc_texts.proofs.laws.chains_go_out_again.Goals as goal

pub returns : goal.returns
returns c = chains_go_out_again
