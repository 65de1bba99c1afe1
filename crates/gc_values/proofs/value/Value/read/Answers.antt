use Rattle.gc_values.proofs.Common.{sym, ap, ◌∙◌, subst, Ok, IsItemFault}
use Rattle.gc_values.proofs.ItemLaws.{one_value, item_has_no_fault}
use Rattle.gc_values.specs.declared.value.Value.TheVariants as value
use Rattle.gc_values.proofs.value.Value.read.Goals as goal

pub returns-in_err-read_double-in-Double-clause-only : goal.returns-in_err-read_double-in-Double-clause-only
returns-in_err-read_double-in-Double-clause-only c v of_kind is =
    let e = c.in_err-read_double-in-Double.field-0.0 in
    absurd (item_has_no_fault v c.args.item.now e is (subst (λ k. IsItemFault k c.args.item.now e) (sym (of_kind ∙ c.in-Double.is)) c.in_err-read_double-in-Double.ensures.fault))

pub returns-in_ok-read_double-in-Double-clause-only : goal.returns-in_ok-read_double-in-Double-clause-only
returns-in_ok-read_double-in-Double-clause-only c v of_kind is =
    let d = c.in_ok-read_double-in-Double.field-0 in
    ap Ok (one_value (value.Double d) v c.args.item.now (sym (of_kind ∙ c.in-Double.is)) c.in_ok-read_double-in-Double.ensures.value is)
