use Rattle.gc_texts.proofs.Common.{strip_prefix_is, Decides-eqb}
use Rattle.gc_texts.proofs.cuts.after_prefix.Goals as goal

pub returns : goal.returns
returns c = strip_prefix_is Decides-eqb c.args.line.now c.args.prefix.now c.strip_prefix.result c.strip_prefix.ensures.cases
