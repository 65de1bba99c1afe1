use Rattle.gc_texts.proofs.Common.{option_copied}
use Rattle.gc_texts.proofs.Fronts.{cut_before}
use Rattle.gc_texts.proofs.cuts.before.Goals as goal

pub returns-clause-is : goal.returns-clause-is
returns-clause-is c = cut_before c.args.mark c.args.text.now c.cut_at.result.0.now (option_copied c.cut_at.result.1) c.cut_at.ensures
