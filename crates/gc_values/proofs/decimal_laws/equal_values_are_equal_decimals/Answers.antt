use Rattle.gc_values.proofs.Common.{subst, refl, SameValue, Decimal}
use Rattle.gc_values.proofs.DecimalLaws.{value_unique}
use Rattle.gc_values.proofs.decimal_laws.equal_values_are_equal_decimals.Goals as goal

pub returns : goal.returns
returns c d e = (value_unique d e, λ same. subst (λ (x : Decimal). SameValue d.digits d.scale x.digits x.scale) same refl)
