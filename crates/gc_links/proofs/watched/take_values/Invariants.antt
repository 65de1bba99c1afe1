use Rattle.gc_links.proofs.Common.{take, Makes, AreValues}
use Rattle.gc_links.proofs.watched.take_values.Given as goal

-- the files so far were read
abbrev pub invariant-loop-k : goal.invariant-loop-k
invariant-loop-k g l = Makes l.initial.system.calls.made l.system.calls.made (λ reads. AreValues (take l.k l.files) l.now reads l.values)
