use Rattle.gc_texts.proofs.kinds.Kinds.fault.Goals as goal

pub returns-in-Ok-clause-none : goal.returns-in-Ok-clause-none
returns-in-Ok-clause-none c = (_, c.in-Ok.ensures.values)
