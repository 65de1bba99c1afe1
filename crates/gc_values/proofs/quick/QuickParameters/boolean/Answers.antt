use Rattle.gc_values.proofs.Common.{false, pos, subst, true, NamesWhole}
use Rattle.gc_values.specs.declared.value.Value.TheVariants as value
use Rattle.gc_values.proofs.quick.QuickParameters.boolean.Goals as goal

pub returns-in-0-clause-reads : goal.returns-in-0-clause-reads
returns-in-0-clause-reads c = λ vs left. c.in-Some.ensures.reads (value.Bool false) (λ item names. subst (λ n. NamesWhole item (pos n)) c.in-0.is names) vs left

pub returns-in-1-clause-reads : goal.returns-in-1-clause-reads
returns-in-1-clause-reads c = λ vs left. c.in-Some.ensures.reads (value.Bool true) (λ item names. subst (λ n. NamesWhole item (pos n)) c.in-1.is names) vs left
