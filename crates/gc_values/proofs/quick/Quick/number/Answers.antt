use Rattle.gc_values.proofs.Common.{◌≡◌, ◌∷◌, Some, rules, sym, subst, option_copied, LeftPlain}
use Rattle.gc_values.proofs.PlainLists.{plain_of_cut_item}
use Rattle.gc_values.proofs.quick.Quick.number.Goals as goal

pub returns-clause-reads : goal.returns-clause-reads
returns-clause-reads c = λ v reads vs left.
    let is : c.args.self.now.rest ≡ Some c.in_ok-text.text = search rules in
    let made = c.in_ok-number.ensures in
    record {
      well = left.well;
      left = subst (λ r. LeftPlain (option_copied r) (v ∷ vs)) (sym is)
          (plain_of_cut_item c.in_ok-text.text.now made.item (option_copied c.in_ok-number.rest) v vs made.cut (reads made.item made.is) left.left);
    }
