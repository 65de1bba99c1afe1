-- Two claims of one result.
use Rattle.gc_measuring.proofs.Common.{Result, Ok, Err, IfOk}

-- if each of two claims holds of what a call returns, both hold of it
pub if_ok_both : {X E : Type 0} (r : Result X E) (P Q : X → Type 0) → IfOk r P → IfOk r Q → IfOk r (λ x. P x × Q x)
if_ok_both (Ok x) P Q p q = (p, q)
if_ok_both (Err e) P Q p q = tt
