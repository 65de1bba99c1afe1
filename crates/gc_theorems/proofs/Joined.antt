-- The front of a request and the next one, as one line.
use Rattle.gc_theorems.proofs.Common.{◌≡◌, ℕ, zero, suc, ◌<◌, List, [], ◌∷◌, ◌++◌, drop, Some, refl, sym, ◌∙◌, ap, arith, append_assoc, lit<, id_text, RequestFields, IsRequest, every_take, request_line, only_own_request, JoinedRequestsHaveTheFrontsId, cons_head, take-append-drop}
use Rattle.std.proofs.Common.{take}
use Rattle.gc_theorems.proofs.Fronts.{AreAbove, above_decimal_digits, above_id, request_body, above_body}
use Rattle.gc_station.proofs.Lists.{all_append, cons_tail}

-- where `xs`, and after it the sign `%`, begins with `ys`, and all bytes of both are above the sign, `xs` begins with `ys`
begins_before_sign : (xs ys more p : List ℕ) → AreAbove xs → AreAbove ys → xs ++ 37 ∷ more ≡ ys ++ p → (rest : List ℕ) × (xs ≡ ys ++ rest)
begins_before_sign xs [] more p h g e = (xs, refl)
begins_before_sign [] (y ∷ ys) more p h g e = absurd (omega (arith, cons_head 37 y more (ys ++ p) e, g.0))
begins_before_sign (x ∷ xs) (y ∷ ys) more p h g e =
    let s = begins_before_sign xs ys more p h.1 g.1 (cons_tail x y (xs ++ 37 ∷ more) (ys ++ p) e) in
    (s.0, ap (λ z. z ∷ xs) (cons_head x y (xs ++ 37 ∷ more) (ys ++ p) e) ∙ ap (λ l. y ∷ l) s.1)

-- if the front of a request, of at least one byte, and the next request are one line, and that is a request, it has the front's
-- id and procedure
pub joined_requests : JoinedRequestsHaveTheFrontsId
joined_requests id call next behind zero small fits some q is = absurd (omega (arith, some))
joined_requests id call next behind (suc k) small fits some q is =
    let number = is.number in
    let h = 82 ∷ 49 ∷ 81 ∷ 44 ∷ (number ++ (id_text q.id ++ 58 ∷ [])) in
    let above : AreAbove h = (
      lit< tt,
      (
        lit< tt,
        (
          lit< tt,
          (
            lit< tt,
            all_append
                (λ b. 37 < b) number (id_text q.id ++ 58 ∷ []) (above_decimal_digits number is.is_number.digits)
                (all_append (λ b. 37 < b) (id_text q.id) (58 ∷ []) (above_id q.id) (lit< tt, tt)),
          ),
        ),
      ),
    ) in
    let whole : (params : List ℕ) → h ++ params ≡ 82 ∷ 49 ∷ 81 ∷ 44 ∷ (number ++ (id_text q.id ++ 58 ∷ params)) =
    λ params. ap (λ l. 82 ∷ 49 ∷ 81 ∷ 44 ∷ l) (append_assoc number (id_text q.id ++ 58 ∷ []) params ∙ ap (λ l. number ++ l) (append_assoc (id_text q.id) (58 ∷ []) params)) in
    let e : take k (request_body id call) ++ 37 ∷ request_body next behind ≡ h ++ q.params =
    cons_tail 37 37 (take k (request_body id call) ++ 37 ∷ request_body next behind) (82 ∷ 49 ∷ 81 ∷ 44 ∷ (number ++ (id_text q.id ++ 58 ∷ q.params))) is.whole
    ∙ sym (whole q.params) in
    let s = begins_before_sign (take k (request_body id call)) h (request_body next behind) q.params (every_take (λ b. 37 < b) (request_body id call) k (above_body id call fits)) above e in
    let params = s.0 ++ drop k (request_body id call) in
    let own : request_body id call ≡ h ++ params =
    sym (take-append-drop k (request_body id call)) ∙ ap (λ l. l ++ drop k (request_body id call)) s.1 ∙ append_assoc h s.0 (drop k (request_body id call)) in
    let p : RequestFields = record { rpc = q.rpc; id = q.id; params = params } in
    let reads : IsRequest (request_line (Some id) call) p = record { number = number; is_number = is.is_number; is_id = is.is_id; whole = ap (λ l. 37 ∷ l) (own ∙ whole params) } in
    let same = only_own_request (request_line (Some id) call) p id call small fits refl reads in
    (ap (λ (r : RequestFields). r.id) same, ap (λ (r : RequestFields). r.rpc) same)
