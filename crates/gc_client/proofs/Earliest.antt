-- For the loops that look for the earliest deadline and count the requests that haven't timed out: what one more request adds to
-- the deadlines seen so far.
use Rattle.gc_client.proofs.Common.{◌≡◌, ℕ, suc, ◌+◌, true, false, not, List, [], ◌∷◌, ◌++◌, take, Some, refl, ap, ◌∙◌, arith, slice_get, append-nil, Pending, deadlines}
use Rattle.gc_client.proofs.Lists.{next_chosen}

-- One turn of the loop: it looks at the request p, at place k of the requests ws that wait.
module _ {Q : Type 0} (k : ℕ) (ws : List (Pending Q)) (p : Pending Q) (here : slice_get ws k ≡ Some p) where
  -- the deadlines of the first k + 1 requests are those of the first k, and that of the one at place k if it hasn't timed out
  next_deadlines : deadlines (take (k + 1) ws) ≡ deadlines (take k ws) ++ deadlines (p ∷ [])
  next_deadlines =
      let n : k + 1 ≡ suc k = omega arith in
      ap (λ m. deadlines (take m ws)) n ∙ next_chosen (λ (q : Pending Q). q.deadline) (λ q. not q.given_up) ws k p here

  -- where the request at place k hasn't timed out, the deadlines of the first k + 1 have its deadline at their end
  pub one_more_deadline : not p.given_up ≡ true → deadlines (take (k + 1) ws) ≡ deadlines (take k ws) ++ p.deadline ∷ []
  one_more_deadline b = next_deadlines ∙ ap (λ ds. deadlines (take k ws) ++ ds) (one b) where
    -- where p hasn't timed out, the list of the deadlines of p alone is p's deadline
    one : not p.given_up ≡ true → deadlines (p ∷ []) ≡ p.deadline ∷ []
    one b = rw b refl

  -- where the request at place k has timed out, the deadlines of the first k + 1 requests are those of the first k
  pub same_deadlines : not p.given_up ≡ false → deadlines (take (k + 1) ws) ≡ deadlines (take k ws)
  same_deadlines b = next_deadlines ∙ ap (λ ds. deadlines (take k ws) ++ ds) (none b) ∙ append-nil _ where
    -- where p has timed out, the list of the deadlines of p alone is empty
    none : not p.given_up ≡ false → deadlines (p ∷ []) ≡ []
    none b = rw b refl
