-- Without damage a stray is of the request that was settled last.
use Rattle.gc_theorems.proofs.Common.{◌≡◌, ℕ, ◌+◌, ◌%◌, ◌<◌, ◌≤◌, Bool, true, false, List, ◌∷◌, length, Option, Some, refl, sym, subst, arith, length-append, ltb, AllByRecursion, length-map, lt-ltb, ltb-true, ltb-false, WINDOW, IDS, hears, place, settle, settles_at, Account, Of, Origin, account_heard, account_settled, ended_by, InFlight, OneQueue, account_at_end, newly_settled, nothing_in_flight, queue, HasNoDamage}
use Rattle.gc_theorems.specs.OneQueue.{Step, ArePossible}
use Rattle.gc_theorems.specs.Strays.{IsOfTheLast}
use Rattle.gc_theorems.proofs.ClientLocal.{Sound, ends_of, length-settle}
use Rattle.gc_theorems.proofs.Slack.{IsNear, QueueSound, queue_sound_start, queue_sound_steps}
use Rattle.gc_theorems.proofs.ClientUndamaged.{slack_undamaged, moved_undamaged}

-- the place of the id of a request that is outstanding
waiting_place : (next waiting count sent number : ℕ) → next ≡ sent % IDS → count + waiting ≡ sent → waiting ≤ WINDOW → number < sent → count ≤ number
    → count + place next waiting (number % IDS) ≡ number
waiting_place next waiting count sent number h1 h2 h3 h4 h5 = omega (arith, h1, h2, h3, h4, h5)

-- the place of the id of the request that was settled last
last_place : (next waiting count sent number : ℕ) → next ≡ sent % IDS → count + waiting ≡ sent → waiting ≤ WINDOW → number + 1 ≡ count
    → place next waiting (number % IDS) ≡ WINDOW
last_place next waiting count sent number h1 h2 h3 h4 = omega (arith, h1, h2, h3, h4)

module _ {Q : Type 0} where
  -- a line with the id of an outstanding request settles something
  settles_some : (a : Account Q) (origin : Origin) (line : List ℕ) (k : ℕ) → k < length a.client.waiting
      → length a.settled < length (account_settled a origin (settles_at a.client line k (ltb k (length a.client.waiting)))).settled
  settles_some a origin line k below =
      let n = length-append a.settled (ends_of k origin line a.client.waiting) in
      let n2 = length-map (settle k line a.client.waiting) (λ s. ended_by origin s.outcome) in
      let n3 = length-settle k line a.client.waiting below in
      subst (λ b. length a.settled < length (account_settled a origin (settles_at a.client line k b)).settled) (sym (lt-ltb _ _ below)) (omega (arith, n, n2, n3))

  module _ (heard : List ℕ → Option ℕ) (width : ℕ) (narrow : width ≤ WINDOW) where
    -- a line that settles nothing, and whose request was sent, is of a request that is settled
    stray_is_settled : (a : Account Q) (number : ℕ) (line : List ℕ) → Sound width a → number < a.sent → heard line ≡ Some (number % IDS)
        → newly_settled a (account_heard heard width a (Of number) line) ≡ 0 → (b : Bool) → ltb number (length a.settled) ≡ b → number < length a.settled
    stray_is_settled a number line h sent id none true e = ltb-true _ _ e
    stray_is_settled a number line h sent id none false e =
        let late : length a.settled ≤ number = ltb-false _ _ e in
        let k = place a.client.next (length a.client.waiting) (number % IDS) in
        let at = waiting_place a.client.next (length a.client.waiting) (length a.settled) a.sent number h.ids h.all (omega (arith, h.few, narrow)) sent late in
        let some = subst (λ o. length a.settled < length (account_settled a (Of number) (hears a.client line o)).settled) (sym id)
        (settles_some a (Of number) line k (omega (arith, at, h.all, sent))) in
        absurd (omega (arith, some, none))

    -- the front line of a queue, where damaged lines have settled nothing, if it settles nothing
    last_if_stray : (q : OneQueue Q) (x : InFlight) (rest : List InFlight) (line : List ℕ) → QueueSound width q → q.settled_by_damage ≡ 0 → q.lines ≡ x ∷ rest → heard line ≡ Some (x.number % IDS)
        → newly_settled q.account (account_heard heard width q.account (Of x.number) line) ≡ 0 → IsOfTheLast q.account x.number
    last_if_stray q x rest line h unmoved front id none =
        let a = q.account in
        let near = (subst (λ l. AllByRecursion (IsNear a.sent (length a.settled) q.settled_by_damage) l) front h.each).0 in
        let settled = stray_is_settled a x.number line h.sound near.was_sent id none (ltb x.number (length a.settled)) refl in
        let last : x.number + 1 ≡ length a.settled = omega (arith, settled, near.close, near.born, unmoved) in
        record {
          settled_last = last;
          before = last_place a.client.next (length a.client.waiting) (length a.settled) a.sent x.number h.sound.ids h.sound.all (omega (arith, h.sound.few, narrow)) last;
        }

    -- without damage strays are of the last
    pub strays_are_of_the_last : (steps : List (Step Q)) → ArePossible heard width steps → HasNoDamage steps → (x : InFlight) (rest : List InFlight) (line : List ℕ)
        → (queue heard width nothing_in_flight steps).lines ≡ x ∷ rest → heard line ≡ Some (x.number % IDS)
        → newly_settled (account_at_end heard width steps) (account_heard heard width (account_at_end heard width steps) (Of x.number) line) ≡ 0
        → IsOfTheLast (account_at_end heard width steps) x.number
    strays_are_of_the_last steps p n x rest line front id none =
        let q = queue heard width nothing_in_flight steps in
        let sound = queue_sound_steps heard width narrow steps nothing_in_flight p (slack_undamaged heard width narrow steps nothing_in_flight refl n) (queue_sound_start heard width narrow) in
        last_if_stray q x rest line sound (moved_undamaged heard width narrow steps nothing_in_flight n) front id none
