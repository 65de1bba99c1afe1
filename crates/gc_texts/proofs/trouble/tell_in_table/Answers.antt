use Rattle.gc_texts.proofs.Common.{decimal, IfOk-weaker, Appends-is}
use Rattle.gc_texts.proofs.RawTroubles.{in_table_line}
use Rattle.gc_texts.proofs.trouble.tell_in_table.Goals as goal

pub returns : goal.returns
returns g c = IfOk-weaker c.writeln.result _ _ (λ _ told. Appends-is _ _ _ _ (in_table_line (decimal c.args.rpc) c.args.name.now) told) c.writeln.ensures.bytes
