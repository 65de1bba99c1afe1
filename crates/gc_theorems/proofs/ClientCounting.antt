-- How many requests are settled once a line came.
use Rattle.gc_theorems.proofs.Common.{◌≡◌, ℕ, ◌+◌, ◌%◌, ◌<◌, ◌≤◌, ◌⊎◌, inl, inr, Bool, true, false, List, [], length, Option, Some, None, refl, sym, ◌∙◌, ap, arith, length-append, ltb, length-map, ltb-true, same_Some, WINDOW, IDS, place, settle, settles_at, hears, Account, IsFresh, Origin, Of, account_heard, account_settled, ended_by}
use Rattle.gc_theorems.proofs.ClientLocal.{Sound, ends_of, fresh_place, length-settle}

module _ {Q : Type 0} where
  -- the count once a line settled through place k (`b` true), or nothing
  count_settled : (a : Account Q) (origin : Origin) (line : List ℕ) (k : ℕ) (b : Bool) → ltb k (length a.client.waiting) ≡ b
      → (length (account_settled a origin (settles_at a.client line k b)).settled ≡ length a.settled)
      ⊎ ((k < length a.client.waiting) × (length (account_settled a origin (settles_at a.client line k b)).settled ≡ length a.settled + k + 1))
  count_settled a origin line k false e = inl (length-append a.settled [] ∙ omega arith)
  count_settled a origin line k true e =
      let below : k < length a.client.waiting = ltb-true _ _ e in
      let n = length-append a.settled (ends_of k origin line a.client.waiting) in
      let n2 = length-map (settle k line a.client.waiting) (λ s. ended_by origin s.outcome) in
      let n3 = length-settle k line a.client.waiting below in
      inr (below, omega (arith, n, n2, n3))

  -- the count once a line with this id, or without one, came: as before, or one more than a place at which a request was outstanding with
  -- this id
  count_heard : (a : Account Q) (origin : Origin) (line : List ℕ) (o : Option ℕ)
      → (length (account_settled a origin (hears a.client line o)).settled ≡ length a.settled)
      ⊎ ((id : ℕ) × (o ≡ Some id) × (place a.client.next (length a.client.waiting) id < length a.client.waiting)
      × (length (account_settled a origin (hears a.client line o)).settled ≡ length a.settled + place a.client.next (length a.client.waiting) id + 1))
  count_heard a origin line None = inl (length-append a.settled [] ∙ omega arith)
  count_heard a origin line (Some id) =
      let k = place a.client.next (length a.client.waiting) id in
      elim (count_settled a origin line k (ltb k (length a.client.waiting)) refl) [
        | inl same ↦ inl same
        | inr more ↦ inr (id, refl, more.0, more.1)
      ]

  module _ (heard : List ℕ → Option ℕ) (width : ℕ) (narrow : width ≤ WINDOW) where
    -- a fresh line leaves the count as it was, or makes it one more than its number
    pub count_fresh : (a : Account Q) (number : ℕ) (line : List ℕ) → IsFresh heard a.sent number line → Sound width a
        → (length (account_heard heard width a (Of number) line).settled ≡ length a.settled) ⊎ (length (account_heard heard width a (Of number) line).settled ≡ number + 1)
    count_fresh a number line p h = elim (count_heard a (Of number) line (heard line)) [
      | inl same ↦ inl same
      | inr more ↦
          let same : more.0 ≡ number % IDS = same_Some _ _ (sym more.1 ∙ p.id) in
          let at : length a.settled + place a.client.next (length a.client.waiting) more.0 ≡ number =
          fresh_place a.client.next (length a.client.waiting) (length a.settled) a.sent number (place a.client.next (length a.client.waiting) more.0)
          h.ids h.all (omega (arith, h.few, narrow)) p.was_sent p.near (ap (place a.client.next (length a.client.waiting)) same) more.2 in
          inr (omega (arith, more.3, at))
    ]

    -- a line makes the count no less, and greater by at most the window's width
    pub count_grows : (a : Account Q) (origin : Origin) (line : List ℕ) → Sound width a
        → (length a.settled ≤ length (account_heard heard width a origin line).settled)
        × (length (account_heard heard width a origin line).settled ≤ length a.settled + width)
    count_grows a origin line h = elim (count_heard a origin line (heard line)) [
      | inl same ↦ (omega (arith, same), omega (arith, same))
      | inr more ↦ (omega (arith, more.3), omega (arith, more.3, more.2, h.few))
    ]
