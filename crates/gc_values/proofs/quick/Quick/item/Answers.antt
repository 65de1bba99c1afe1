use Rattle.gc_values.proofs.Common.{◌∷◌, sym, subst, option_copied, LeftPlain}
use Rattle.gc_values.proofs.PlainLists.{plain_of_cut_item}
use Rattle.gc_values.proofs.quick.Quick.item.Goals as goal

pub returns-in-Some-cut_plain : goal.returns-in-Some-cut_plain
returns-in-Some-cut_plain c = λ v x vs left. record {
  well = left.well;
  left = subst (λ r. LeftPlain (option_copied r) (v ∷ vs)) (sym c.in-Some.is)
      (plain_of_cut_item c.in-Some.text.now c.in-Some-cut_plain.cut.0.now (option_copied c.in-Some-cut_plain.cut.1) v vs c.in-Some-cut_plain.ensures x left.left);
}
