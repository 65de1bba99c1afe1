use Rattle.gc_texts.proofs.Common.{sym, each_procedure}
use Rattle.gc_texts.proofs.RawTroubles.{no_procedure_no_name}
use Rattle.gc_texts.proofs.trouble.name_in_table.Goals as goal

pub returns-in-None : goal.returns-in-None
returns-in-None c = sym (no_procedure_no_name each_procedure c.args.rpc c.in-None.ensures.none)
