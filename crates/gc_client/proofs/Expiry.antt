-- For the loop that times out requests at a moment, which looks at one request after the other. Here `ws` are the requests that
-- waited at the start, and `qs` what the loop has made of them so far: those that it has looked at have timed out if their
-- deadlines were reached.
use Rattle.gc_client.proofs.Common.{◌≡◌, ℕ, zero, suc, ◌+◌, ◌<◌, ◌≤◌, Bool, true, false, ◌||◌, ◌&&◌, not, List, [], ◌∷◌, ◌++◌, map, take, drop, Some, leb, refl, sym, ◌∙◌, ap, ap₂, subst, arith, slice_get, nat_le, le-leb, lt-leb, and_right, append-nil, Pending, expired, is_expiring, expiring, given_up_at}
use Rattle.gc_client.proofs.Lists.{next_chosen, drop_next}
use Rattle.gc_client.proofs.Marks.{marked_timed_out}

-- the requests that wait once the loop has looked at the first k of them: these have timed out if their deadlines were reached
abbrev pub expired_up_to : {Q : Type 0} → (now k : ℕ) → (ws : List (Pending Q)) → List (Pending Q)
expired_up_to now k ws = map (expired now) (take k ws) ++ drop k ws

-- once the loop has looked at the first k requests, the one at place k is still the one that was there at the start
pub unchanged_at_next : {Q : Type 0} (now k : ℕ) (ws : List (Pending Q)) (p : Pending Q) → slice_get (expired_up_to now k ws) k ≡ Some p
    → slice_get ws k ≡ Some p
unchanged_at_next now zero ws p e = e
unchanged_at_next now (suc k) [] p e = e
unchanged_at_next now (suc k) (w ∷ ws) p e = unchanged_at_next now k ws p e

-- what `expired` makes of a request that times out at this moment is the same request, marked as timed out
expired_is : {Q : Type 0} (now : ℕ) (p : Pending Q) → is_expiring now p ≡ true → expired now p ≡ marked_timed_out p
expired_is now p e = ap (λ b. record p { given_up = b }) (flag (nat_le p.deadline now) p.given_up e) where
  -- of a request that is due and hasn't timed out yet, the new mark is true
  flag : (due given : Bool) → (due && not given) ≡ true → (given || due) ≡ true
  flag due true e = refl
  flag true false e = refl
  flag false false e = e

-- what `expired` makes of a request that doesn't time out at this moment is the request as it is
expired_unchanged : {Q : Type 0} (now : ℕ) (p : Pending Q) → is_expiring now p ≡ false → expired now p ≡ p
expired_unchanged now p e = ap (λ b. record p { given_up = b }) (flag (nat_le p.deadline now) p.given_up e) where
  -- of a request that isn't due, or has timed out already, the new mark is the old one
  flag : (due given : Bool) → (due && not given) ≡ false → (given || due) ≡ given
  flag due true e = refl
  flag true false e = e
  flag false false e = refl

-- marking the request at place k as timed out, once the loop has looked at the first k, leaves the first k as the loop made them,
-- then the one at place k, marked, and then those after it as they were at the start
marking_next : {Q : Type 0} (now k : ℕ) (ws : List (Pending Q)) (p : Pending Q) → slice_get ws k ≡ Some p
    → given_up_at k (expired_up_to now k ws) ≡ map (expired now) (take k ws) ++ marked_timed_out p ∷ drop (suc k) ws
marking_next now k [] p e = cc
marking_next {Q} now zero (w ∷ ws) p e = let same : w ≡ p = cc in ap (λ (x : Pending Q). marked_timed_out x ∷ ws) same
marking_next now (suc k) (w ∷ ws) p e = ap (λ qs. expired now w ∷ qs) (marking_next now k ws p e)

-- once the loop has looked at the first k + 1 requests, there are the first k as the loop made them, then the one at place k as
-- the loop made it, and then those after it as they were at the start
expired_one_more : {Q : Type 0} (now k : ℕ) (ws : List (Pending Q)) (p : Pending Q) → slice_get ws k ≡ Some p
    → expired_up_to now (suc k) ws ≡ map (expired now) (take k ws) ++ expired now p ∷ drop (suc k) ws
expired_one_more now k [] p e = cc
expired_one_more now zero (w ∷ ws) p e = let same : w ≡ p = cc in ap (λ x. expired now x ∷ ws) same
expired_one_more now (suc k) (w ∷ ws) p e = ap (λ qs. expired now w ∷ qs) (expired_one_more now k ws p e)

-- the targets of the requests that time out at the moment among the first k + 1 are those among the first k, and that of the
-- one at place k if it times out
next_expiring : {Q : Type 0} (now k : ℕ) (ws : List (Pending Q)) (p : Pending Q) → slice_get ws k ≡ Some p
    → expiring now (take (suc k) ws) ≡ expiring now (take k ws) ++ expiring now (p ∷ [])
next_expiring {Q} now k ws p e = next_chosen (λ (q : Pending Q). q.target) (is_expiring now) ws k p e

-- One turn of the loop: it has looked at the first k requests, and looks at the request p at place k.
module _ {Q : Type 0} (now k : ℕ) (ws qs : List (Pending Q)) (p : Pending Q) (done : qs ≡ expired_up_to now k ws) (here : slice_get qs k ≡ Some p) where
  -- the request at place k of those that waited at the start is p
  at_k : slice_get ws k ≡ Some p
  at_k = unchanged_at_next now k ws p (subst (λ l. slice_get l k ≡ Some p) done here)

  -- the place after k is k + 1
  suc_k : suc k ≡ k + 1
  suc_k = omega arith

  -- where p times out at the moment, and `qs'` are the requests qs with the one at place k marked, `qs'` are the requests that
  -- wait once the loop has looked at the first k + 1
  pub due_done : (qs' : List (Pending Q)) → is_expiring now p ≡ true → qs' ≡ given_up_at k qs → qs' ≡ expired_up_to now (k + 1) ws
  due_done qs' b e =
      e ∙ ap (given_up_at k) done ∙ marking_next now k ws p at_k
      ∙ ap (λ x. map (expired now) (take k ws) ++ x ∷ drop (suc k) ws) (sym (expired_is now p b))
      ∙ sym (expired_one_more now k ws p at_k) ∙ ap (λ m. expired_up_to now m ws) suc_k

  -- where p doesn't time out at the moment, qs are the requests that wait once the loop has looked at the first k + 1
  pub not_due_done : is_expiring now p ≡ false → qs ≡ expired_up_to now (k + 1) ws
  not_due_done b =
      done ∙ ap (λ l. map (expired now) (take k ws) ++ l) (drop_next ws k p at_k)
      ∙ ap (λ x. map (expired now) (take k ws) ++ x ∷ drop (suc k) ws) (sym (expired_unchanged now p b))
      ∙ sym (expired_one_more now k ws p at_k) ∙ ap (λ m. expired_up_to now m ws) suc_k

  -- where `targets` are those of the requests that time out among the first k, and p times out, `targets` and then p's target are
  -- those of the requests that time out among the first k + 1
  pub due_listed : (targets : List ℕ) → targets ≡ expiring now (take k ws) → is_expiring now p ≡ true
      → targets ++ p.target ∷ [] ≡ expiring now (take (k + 1) ws)
  due_listed targets listed b =
      ap₂ (λ xs ys. xs ++ ys) listed (sym (one b)) ∙ sym (next_expiring now k ws p at_k) ∙ ap (λ m. expiring now (take m ws)) suc_k
    where
      -- where p times out at the moment, the list of the targets timed out, for p alone, is p's target
      one : is_expiring now p ≡ true → expiring now (p ∷ []) ≡ p.target ∷ []
      one b = rw b refl

  -- where `targets` are those of the requests that time out among the first k, and p doesn't time out, `targets` are those of the
  -- requests that time out among the first k + 1
  pub not_due_listed : (targets : List ℕ) → targets ≡ expiring now (take k ws) → is_expiring now p ≡ false → targets ≡ expiring now (take (k + 1) ws)
  not_due_listed targets listed b =
      listed ∙ sym (append-nil _) ∙ ap (λ ys. expiring now (take k ws) ++ ys) (sym (none b)) ∙ sym (next_expiring now k ws p at_k) ∙ ap (λ m. expiring now (take m ws)) suc_k
    where
      -- where p doesn't time out at the moment, the list of the targets timed out, for p alone, is empty
      none : is_expiring now p ≡ false → expiring now (p ∷ []) ≡ []
      none b = rw b refl

-- a request whose deadline is reached, and that hadn't timed out, times out at this moment
pub expires_when_due : {Q : Type 0} (now : ℕ) (p : Pending Q) → p.deadline ≤ now → not p.given_up ≡ true → is_expiring now p ≡ true
expires_when_due now p due waits =
    let b : leb p.deadline now ≡ true = le-leb _ _ due in
    rw (b, waits) refl

-- a request whose deadline isn't reached doesn't time out at this moment
pub not_expiring_early : {Q : Type 0} (now : ℕ) (p : Pending Q) → now < p.deadline → is_expiring now p ≡ false
not_expiring_early now p early =
    let b : leb p.deadline now ≡ false = lt-leb _ _ early in
    rw b refl

-- a request that had timed out before doesn't time out at this moment
pub not_expiring_again : {Q : Type 0} (now : ℕ) (p : Pending Q) → not p.given_up ≡ false → is_expiring now p ≡ false
not_expiring_again now p given_up = and_right (leb p.deadline now) (not p.given_up) given_up
