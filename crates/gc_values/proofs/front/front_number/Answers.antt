use Rattle.gc_values.proofs.Common.{arith, subst, sym, take_rest, IfSome_then, option_copied, CutsNumber}
use Rattle.gc_values.proofs.FrontDecimals.{front_number_found}
use Rattle.gc_values.proofs.front.front_number.Goals as goal

pub returns : goal.returns
returns c = IfSome_then c.with_rest.result c.with_rest.ensures
    (λ r h. subst (λ n. CutsNumber c.args.text.now n (option_copied r.1)) (sym h.0)
    (front_number_found c.args.text.now _ c.front_digits-number.result.1 c.front_digits-number.result.0 _ c.front_digits-number.ensures (omega arith)
    (take_rest c.args.text.now c.front_digits-number.result.1)
    h.1))
