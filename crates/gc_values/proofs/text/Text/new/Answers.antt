use Rattle.gc_values.proofs.Common.{rules, arith, AreStringBytes}
use Rattle.gc_values.proofs.TextLemmas.{filled_is_zero_padded}
use Rattle.gc_values.proofs.text.Text.new.Goals as goal

pub invariant_of-result : goal.invariant_of-result
invariant_of-result c =
    let plain : AreStringBytes c.args.bytes.now = search rules in
    filled_is_zero_padded c.args.bytes.now c.filled_up.result c.filled_up.ensures (omega arith) plain
