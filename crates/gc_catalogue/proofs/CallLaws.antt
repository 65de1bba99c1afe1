-- One call for a number and parameters, or one refusal, and never both.
use Rattle.gc_catalogue.proofs.Common.{Result, Ok, Err, IsOk, OnOk, IfErr, ⊤, sym, ◌∙◌, ap, Call, call_fields, IsCall, IsFitting, IsRefusal, params_of, no_list_fault, one_list_fault, one_values, params_fit, written_reads}
use Rattle.std.specs.Prelude.{◌≡◌, ℕ, List, refl}
use Rattle.gc_catalogue.specs.declared.fault.CallFault.{CallFault}
use Rattle.gc_catalogue.specs.declared.fault.CallFault.TheVariants.{Unknown, Parameters}
use Rattle.gc_catalogue.proofs.Table.{same_number_alike, few_values, same_call, call_kinds}

-- a number and parameters are those of at most one call
pub one_call : (n : ℕ) (params : List ℕ) (c d : Call) → IsCall n params c → IsCall n params d → c ≡ d
one_call n params c d x y =
    let number = x.number ∙ sym y.number in
    same_call c d number (one_values _ _ params (same_number_alike c d number).kinds x.values y.values)

-- the number and the parameters of a call have no refusal
pub no_refusal : (n : ℕ) (params : List ℕ) (c : Call) (e : CallFault) → IsCall n params c → IsRefusal n params e → ⊥
no_refusal n params c Unknown x h = h c x.number
no_refusal n params c (Parameters e) x h =
    no_list_fault (call_fields c).values params e (few_values c) x.values (rw (same_number_alike c h.0 (x.number ∙ sym h.1)).kinds h.2)

-- a number and parameters have at most one refusal
pub one_refusal : (n : ℕ) (params : List ℕ) (e f : CallFault) → IsRefusal n params e → IsRefusal n params f → e ≡ f
one_refusal n params Unknown Unknown x y = refl
one_refusal n params Unknown (Parameters f) x y = absurd (x y.0 y.1)
one_refusal n params (Parameters e) Unknown x y = absurd (y x.0 x.1)
one_refusal n params (Parameters e) (Parameters f) x y =
    ap (λ z. Parameters z) (one_list_fault (call_kinds x.0) params e f x.2 (rw (same_number_alike x.0 y.0 (x.1 ∙ sym y.1)).kinds y.2))

-- if a reading `r` of a number and parameters made their call `d`, or gave a refusal of them, and they are those of a call `c`,
-- `r` is no refusal, and d is c
pub only_call : (n : ℕ) (params : List ℕ) (r : Result ⊤ CallFault) (d : Call) → OnOk r (IsCall n params d)
    → IfErr r (λ e. IsRefusal n params e) → (c : Call) → IsCall n params c → IsOk r × (d ≡ c)
only_call n params (Ok u) d x f c y = (refl, one_call n params d c x y)
only_call n params (Err e) d x f c y = absurd (no_refusal n params c e y f)

-- if a reading `r` of a number and parameters made their call `d`, or gave a refusal of them, and they have a refusal, `r` is
-- that one
pub only_refusal : (n : ℕ) (params : List ℕ) (r : Result ⊤ CallFault) (d : Call) → OnOk r (IsCall n params d)
    → IfErr r (λ e. IsRefusal n params e) → (e : CallFault) → IsRefusal n params e → r ≡ Err e
only_refusal n params (Ok u) d x f e y = absurd (no_refusal n params d e x y)
only_refusal n params (Err g) d x f e y = ap (λ z. Err z) (one_refusal n params g e f y)

-- the texts of a call's values, joined by commas, are parameters of that call if the values are in range
pub written_is_call : (c : Call) → IsFitting c → IsCall (call_fields c).number (params_of (call_fields c).values) c
written_is_call c h = record { number = refl; values = written_reads (call_fields c).values h }

-- the values of the call `d` that a reading `r` made of a number and parameters are in their ranges, unless `r` is a fault
pub fits_where_found : (n : ℕ) (params : List ℕ) (r : Result ⊤ CallFault) (d : Call) → OnOk r (IsCall n params d) → OnOk r (IsFitting d)
fits_where_found n params (Ok u) d x = params_fit (call_fields d).values params x.values
fits_where_found n params (Err e) d x = tt
