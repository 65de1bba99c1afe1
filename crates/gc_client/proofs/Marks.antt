-- Marking the request at a place as timed out is a write at that place.
use Rattle.gc_client.proofs.Common.{◌≡◌, ℕ, zero, suc, ◌<◌, ◌≤◌, List, [], ◌∷◌, length, get_or, set, Some, None, true, refl, sym, ap, ◌∙◌, arith, slice_get, none-some, slice_get_within, get_or_from_slice_get, Pending, given_up_at}

-- a request marked as timed out
abbrev pub marked_timed_out : {Q : Type 0} → Pending Q → Pending Q
marked_timed_out p = record p { given_up = true }

-- where a request is at place k, writing this request, marked, over place k makes the requests that `given_up_at k` makes
pub set_is_given_up : {Q : Type 0} (ps : List (Pending Q)) (k : ℕ) (d : Pending Q) → k < length ps
    → set ps k (marked_timed_out (get_or ps k d)) ≡ given_up_at k ps
set_is_given_up [] k d lt = absurd (omega arith)
set_is_given_up (p ∷ ps) zero d lt = refl
set_is_given_up (p ∷ ps) (suc k) d lt = ap (λ qs. p ∷ qs) (set_is_given_up ps k d (omega arith))

-- where p is the request at place k, writing p, marked, over place k makes the requests that `given_up_at k` makes
pub set_some_is_given_up : {Q : Type 0} (ps : List (Pending Q)) (k : ℕ) (p : Pending Q) → slice_get ps k ≡ Some p
    → set ps k (marked_timed_out p) ≡ given_up_at k ps
set_some_is_given_up ps k p e =
    ap (λ q. set ps k (marked_timed_out q)) (sym (get_or_from_slice_get ps k p p e)) ∙ set_is_given_up ps k p (slice_get_within ps k p e)

-- a place at which no request was read is past the last request
pub none_is_past : {Q : Type 0} (ps : List (Pending Q)) (k : ℕ) → slice_get ps k ≡ None → length ps ≤ k
none_is_past [] k e = omega arith
none_is_past (p ∷ ps) zero e = absurd (none-some p (sym e))
none_is_past (p ∷ ps) (suc k) e = omega (arith, none_is_past ps k e)
