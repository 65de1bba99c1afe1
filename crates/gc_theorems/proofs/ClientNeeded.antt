-- An undamaged line that isn't fresh ends a request that it wasn't made for.
use Rattle.gc_theorems.proofs.Common.{◌≡◌, ℕ, zero, suc, ◌+◌, ◌%◌, ◌<◌, ◌≤◌, List, [], ◌∷◌, ◌++◌, length, Option, Some, refl, sym, ap, subst, arith, ltb, lt-ltb, slice_get, WINDOW, IDS, Pending, hears, place, settles_at, Account, Event, Of, Origin, AllComeFresh, account, account_heard, account_settled, opened}
use Rattle.gc_theorems.proofs.ClientLocal.{ended_by_line, ends_of, sound_events, sound_opened}

-- the place of the id of request n, where request n + 8 is outstanding
stale_place : (next waiting count sent n : ℕ) → next ≡ sent % IDS → count + waiting ≡ sent → waiting ≤ WINDOW → count ≤ n + IDS → n + IDS < sent
    → place next waiting (n % IDS) + count ≡ n + IDS
stale_place next waiting count sent n h1 h2 h3 h4 h5 = omega (arith, h1, h2, h3, h4, h5)

module _ {Q : Type 0} where
  -- the request at place k is the last that a line settles through place k
  end_at : (origin : Origin) (m k : ℕ) (line : List ℕ) (os : List (Option Origin)) (ps : List (Pending Q)) → k < length ps → k + length os ≡ m
      → slice_get (os ++ ends_of k origin line ps) m ≡ Some (Some origin)
  end_at origin m k line [] [] below e = absurd (omega (arith, below))
  end_at origin zero zero line [] (p ∷ ps) below e = ap Some (ended_by_line origin line p p.given_up refl)
  end_at origin (suc m) zero line [] (p ∷ ps) below e = absurd (omega (arith, e))
  end_at origin zero (suc k) line [] (p ∷ ps) below e = absurd (omega (arith, e))
  end_at origin (suc m) (suc k) line [] (p ∷ ps) below e = end_at origin m k line [] ps (omega (arith, below)) (omega (arith, e))
  end_at origin zero k line (o ∷ os) ps below e = absurd (omega (arith, e))
  end_at origin (suc m) k line (o ∷ os) ps below e = end_at origin m k line os ps below (omega (arith, e))

  -- a line with the id of the request that is outstanding at place k ends that request
  ends_there : (a : Account Q) (origin : Origin) (m k : ℕ) (line : List ℕ) → k < length a.client.waiting → k + length a.settled ≡ m
      → slice_get (account_settled a origin (settles_at a.client line k (ltb k (length a.client.waiting)))).settled m ≡ Some (Some origin)
  ends_there a origin m k line below e =
      subst (λ b. slice_get (account_settled a origin (settles_at a.client line k b)).settled m ≡ Some (Some origin)) (sym (lt-ltb _ _ below))
      (end_at origin m k line a.settled a.client.waiting below e)

  -- a line of request n that comes while request n + 8 is outstanding ends that one
  pub stale_ends_another : (heard : List ℕ → Option ℕ) (width : ℕ) → width ≤ WINDOW → (events : List (Event Q)) → AllComeFresh heard width opened events
      → (n : ℕ) (line : List ℕ) → heard line ≡ Some (n % IDS) → length (account heard width opened events).settled ≤ n + IDS
      → n + IDS < (account heard width opened events).sent
      → slice_get (account_heard heard width (account heard width opened events) (Of n) line).settled (n + IDS) ≡ Some (Some (Of n))
  stale_ends_another heard width narrow events p n line id le lt =
      let a = account heard width opened events in
      let h = sound_events heard width narrow events opened p (sound_opened width) in
      let k = place a.client.next (length a.client.waiting) (n % IDS) in
      let at = stale_place a.client.next (length a.client.waiting) (length a.settled) a.sent n h.ids h.all (omega (arith, h.few, narrow)) le lt in
      subst (λ o. slice_get (account_settled a (Of n) (hears a.client line o)).settled (n + IDS) ≡ Some (Some (Of n))) (sym id)
      (ends_there a (Of n) (n + IDS) k line (omega (arith, at, h.all, lt)) at)
