-- Requests near the last call of the table that the instrument was handed: `last` is the number of that call, the newest request
-- that `knows` names; requests that `E` names are excepted, and where `MustKnow` holds, all requests that are sent are known.
use Rattle.gc_theorems.proofs.Common.{◌≡◌, ℕ, ◌+◌, ◌-◌, ◌%◌, ◌<◌, ◌≤◌, ◌⊎◌, inl, inr, Bool, true, List, sym, ap, subst, arith, AllByRecursion, Asked, KeptReply, Sent}
use Rattle.gc_theorems.proofs.KeptReplies.{IsKept, newest, newest_not_before}

module _ (knows : Asked → Bool) (E : ℕ → Type 0) (MustKnow : Type 0) where
  -- `MustKnow` holds, no request after the newest known one was handed, and all requests that were sent are known; or each
  -- request that isn't excepted is at most seven after the newest known one
  abbrev pub IsNear : (sent : List Sent) (top last : ℕ) → Type 0
  IsNear sent top last = (MustKnow × (top ≤ last + 1) × AllByRecursion (λ (r : Sent). knows r.call ≡ true) sent) ⊎ ((n : ℕ) → E n ⊎ (n ≤ last + 7))

  -- where `IsKept` holds of the kept reply `k`, and request n, which is neither before `since` nor before the last one handed
  -- (`top` - 1), has the id of `k`, and is excepted or at most seven after the newest known one: n is excepted, or P holds of n
  -- and the line of `k`
  pub near_kept : (since top last n : ℕ) (k : KeptReply) (P : ℕ → List ℕ → Type 0) → IsKept P since top last k → since ≤ n → top ≤ n + 1 → k.id ≡ (n - since) % 8
      → E n ⊎ (n ≤ last + 7) → E n ⊎ P n k.line
  near_kept since top last n k P held recent le same (inl e) = inl e
  near_kept since top last n k P held recent le same (inr near) =
      let one : held.number ≡ n = omega (arith, held.recent, held.before, held.behind, held.id, recent, le, same, near) in
      inr (subst (λ i. P i k.line) one held.line)

  -- `IsNear` is preserved where request n, which isn't before `last`, is handed, if n is known (`known`) wherever all requests
  -- are
  pub near_handed : (sent : List Sent) (top last n : ℕ) (known : Bool) → last ≤ n → (AllByRecursion (λ (r : Sent). knows r.call ≡ true) sent → known ≡ true) → IsNear sent top last
      → IsNear sent (n + 1) (newest known n last)
  near_handed sent top last n known low all (inl h) =
      let is : n ≡ newest known n last = sym (ap (λ b. newest b n last) (all h.2)) in
      inl (h.0, omega (arith, is), h.2)
  near_handed sent top last n known low all (inr f) = inr (λ i. elim (f i) [
    | inl e ↦ inl e
    | inr le ↦ inr (let up = newest_not_before known n last low in omega (arith, le, up))
  ])

  -- where `IsNear` holds, request n is excepted, or at most seven after the newest known one, if it is below `top` + 7
  pub near_if_below : (sent : List Sent) (top last n : ℕ) → n < top + 7 → IsNear sent top last → E n ⊎ (n ≤ last + 7)
  near_if_below sent top last n few (inl h) = inr (omega (arith, few, h.1))
  near_if_below sent top last n few (inr f) = f n
