use Rattle.gc_texts.proofs.Common.{kinds_seen}
use Rattle.gc_texts.proofs.KindSteps.{misfit_of_list, values_of_list}
use Rattle.gc_texts.proofs.kinds.Kinds.read.Goals as goal

pub returns-in-Ok-clause-values : goal.returns-in-Ok-clause-values
returns-in-Ok-clause-values c =
    values_of_list (kinds_seen c.args.self.now) c.args.params.now c.in-Ok.items c.read_items.result (λ values. values.items) c.in-Ok.ensures.found.0 c.in-Ok.ensures.found.1
    c.read_items.ensures.values

pub returns-in-Ok-clause-fault : goal.returns-in-Ok-clause-fault
returns-in-Ok-clause-fault c =
    misfit_of_list (kinds_seen c.args.self.now) c.args.params.now c.in-Ok.items c.read_items.result c.in-Ok.ensures.found.0 c.in-Ok.ensures.found.1 c.read_items.ensures.fault
