use Rattle.gc_texts.proofs.Common.{decimal, IfOk-weaker, Appends-is}
use Rattle.gc_texts.proofs.DescribingTroubles.{undescribed_line}
use Rattle.gc_texts.proofs.trouble.tell_undescribed.Goals as goal

pub returns : goal.returns
returns g c = IfOk-weaker c.writeln.result _ _ (λ _ told. Appends-is _ _ _ _ (undescribed_line (decimal c.args.rpc)) told) c.writeln.ensures.bytes
