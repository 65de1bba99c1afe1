use Rattle.gc_catalogue.proofs.Common.{sym, ◌∙◌}
use Rattle.gc_catalogue.proofs.Table.{same_parameter_count}
use Rattle.gc_catalogue.proofs.names.parameter_count.Goals as goal

pub returns-in-Some-clause-count : goal.returns-in-Some-clause-count
returns-in-Some-clause-count c = λ call number. c.value_count.ensures ∙ same_parameter_count c.in-Some.call call (c.in-Some.ensures.found ∙ sym number)

pub returns-in-Some-clause-none : goal.returns-in-Some-clause-none
returns-in-Some-clause-none c = λ none. absurd (none c.in-Some.call c.in-Some.ensures.found)
