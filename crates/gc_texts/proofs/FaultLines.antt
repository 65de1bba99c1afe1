-- The lines of faults: what is printed after a number.
use Rattle.gc_texts.proofs.Common.{◌≡◌, ℕ, List, [], ◌∷◌, ◌++◌, refl, sym, ap, append_assoc, decimal, numbered_fault, fault_detail, fault_line, RunFault}
use Rattle.std.specs.Prelude.{codes}
use Rattle.gc_texts.specs.declared.fault.RunFault.TheVariants.{Write, Schedule}

-- a fault other than `Write` and `Schedule` has nothing printed after its number
pub plain_detail : (fault : RunFault) → ((replies bytes : ℕ) → fault ≡ Write replies bytes → ⊥)
    → ((line : ℕ) → fault ≡ Schedule line → ⊥) → fault_detail fault ≡ []
plain_detail (Write replies bytes) no_write no_schedule = absurd (no_write replies bytes refl)
plain_detail (Schedule line) no_write no_schedule = absurd (no_schedule line refl)
plain_detail _ no_write no_schedule = refl

-- `geocom: fault `, the number, what is printed after it (`detail`) and a line feed (10), one after the other, are the
-- fault's line
pub line_with : (number : ℕ) (detail : List ℕ)
    → codes "geocom: fault " ++ (decimal number ++ (detail ++ (10 ∷ []))) ≡ fault_line (numbered_fault number ++ detail)
line_with number detail = ap (λ l. codes "geocom: fault " ++ l) (sym (append_assoc (decimal number) detail (10 ∷ [])))
