use Rattle.gc_values.proofs.Common.{◌≡◌, pos, rules, subst, sym, FitsLong, NamesWhole}
use Rattle.gc_values.proofs.PlainLists.{left_as_it_was}
use Rattle.gc_values.specs.declared.value.Value.TheVariants as value
use Rattle.gc_values.proofs.quick.QuickParameters.long.Goals as goal

pub returns-in-Some-clause-reads : goal.returns-in-Some-clause-reads
returns-in-Some-clause-reads c = λ vs left.
    let given = c.read_or.ensures left.well in
    let is : c.read_or.result ≡ pos c.in-Some.number = search (rules, given.0) in
    let fits : FitsLong c.read_or.result = search (rules, given.0) in
    let read = c.in-Some.ensures.reads (value.Long c.read_or.result) (λ item names. (subst (λ z. NamesWhole item z) (sym is) names, fits)) vs (left_as_it_was _ _ vs given.1 left) in
    search rules
