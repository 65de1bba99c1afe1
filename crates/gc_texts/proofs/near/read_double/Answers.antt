use Rattle.gc_texts.proofs.Common.{◌≡◌, Result, Ok, Err, sym, ◌∙◌, Decimal, ValueFault}
use Rattle.gc_texts.proofs.near.read_double.Goals as goal

pub returns-in-Err : goal.returns-in-Err
returns-in-Err c d spells =
    let bad : ◌≡◌ {A = Result Decimal ValueFault} (Err c.in-Err.field-0) (Ok d) = sym c.in-Err.is ∙ c.read.ensures.only d spells in cc
