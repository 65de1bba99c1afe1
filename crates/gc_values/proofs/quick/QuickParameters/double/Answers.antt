use Rattle.gc_values.proofs.Common.{◌∷◌, sym, subst, option_copied, LeftPlain}
use Rattle.gc_values.proofs.PlainLists.{plain_of_cut_item}
use Rattle.gc_values.specs.declared.value.Value.TheVariants as value
use Rattle.gc_values.proofs.quick.QuickParameters.double.Goals as goal

pub returns-in-Some-front_decimal-clause-reads : goal.returns-in-Some-front_decimal-clause-reads
returns-in-Some-front_decimal-clause-reads c = λ vs left.
    let made = c.in-Some-front_decimal.ensures in
    let v = value.Double c.in-Some-front_decimal.decimal in
    record {
      well = left.well;
      left = subst (λ r. LeftPlain (option_copied r) (v ∷ vs)) (sym c.in-Some.is)
          (plain_of_cut_item c.in-Some.text.now made.item (option_copied c.in-Some-front_decimal.rest) v vs made.cut made.is left.left);
    }
