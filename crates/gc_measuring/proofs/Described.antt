-- A description, as it is seen.
use Rattle.gc_measuring.proofs.Common.{◌≡◌, Option, Some, None, refl, option_map}

-- what is made of the one that an option may have, in two steps, is made in one
pub made_at_once : {X Y Z : Type 0} (f : X → Y) (g : Y → Z) (o : Option X) → option_map (λ x. g (f x)) o ≡ option_map g (option_map f o)
made_at_once f g None = refl
made_at_once f g (Some x) = refl
