-- What is read of parameters by kinds is what the tables of kinds say.
use Rattle.gc_rows.specs.Common.{ValueFault, Value, AreOfKinds, IsKindsFault, KindsSeen}
use Rattle.std.specs.Prelude.{◌≡◌, ℕ, List, Some, None}
use Rattle.gc_rows.specs.ValueReading.{values_read}

-- parameters that have values of the kinds are read as these, and ones that have a fault aren't read
pub record ValuesAreRead : Type 0 where
  pub values : (kinds : KindsSeen) (params : List ℕ) (vs : List Value) → AreOfKinds kinds params vs → values_read kinds params ≡ Some vs
  pub fault : (kinds : KindsSeen) (params : List ℕ) (e : ValueFault) → IsKindsFault kinds params e → values_read kinds params ≡ None
