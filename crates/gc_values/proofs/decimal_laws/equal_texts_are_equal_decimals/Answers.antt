use Rattle.gc_values.proofs.Common.{ap, written, Decimal}
use Rattle.gc_values.proofs.DecimalLaws.{written_unique}
use Rattle.gc_values.proofs.decimal_laws.equal_texts_are_equal_decimals.Goals as goal

pub returns : goal.returns
returns c d e = (written_unique d e, λ same. ap (λ (x : Decimal). written x.digits x.scale) same)
