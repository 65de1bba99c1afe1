-- No line raises a doubt over a line that damages nothing: a reply that no request is outstanding for is to the request that was settled
-- last. A *stretch* is a run once it has synchronized: what is in flight then, and its moves.
use Rattle.gc_theorems.proofs.Common.{◌≡◌, inl, inr, ℕ, ◌+◌, ◌-◌, ◌%◌, ◌<◌, ◌≤◌, ◌&&◌, Bool, true, false, not, List, ◌∷◌, ◌++◌, length, nat_lt, nat_eq, Option, Some, refl, sym, ◌∙◌, ap, subst, arith, length-drop, AllByRecursion, ltb-true, ltb-false, lt-ltb, and_right, Asked, Pending, heard, KeptReply, is_impossible, by_numbers, Rising, numbers, IsComing, Ends, Numbered, Wire, UnderWay, IsClean, world_once_begun, ids_begun, numbers_begun, ArePossibleOnceBegun, Move, Comes, Foreign, moved, IsAnInstrument, RaisesNoDoubt, Stretch, raises_doubt}
use Rattle.gc_world.proofs.Ids.{place_within, place_before}
use Rattle.gc_theorems.proofs.Instruments.{exchange_of}
use Rattle.gc_theorems.proofs.InTime.{IsSoundStretch, clean_of}
use Rattle.gc_theorems.proofs.Moving.{both_all}
use Rattle.gc_theorems.proofs.BegunFaithful.{both_begun}
use Rattle.gc_theorems.proofs.Possible.{front_possible, later_possible}

-- where `total` requests were sent, `since` of them before the client's last start, `count` of them are settled, and at most seven aren't:
-- a reply to request `number`, which isn't one of those settled before the last, can be
pub none_impossible : (since count total number : ℕ) → since ≤ count → count ≤ total → total ≤ count + 7 → count ≤ number + 1 → since ≤ number → number < total
    → is_impossible ((total - since) % 8) (total - count) (Some ((number - since) % 8)) ≡ false
none_impossible since count total number begun within few rising recent sent = by_test (nat_lt number count) refl where
  -- the lemma above, by whether the request is settled
  by_test : (b : Bool) → nat_lt number count ≡ b → is_impossible ((total - since) % 8) (total - count) (Some ((number - since) % 8)) ≡ false
  by_test true e =
      let low : number < count = ltb-true number count e in
      let last = place_before since count total number recent (omega (arith, low, rising)) within few in
      ap (λ (k : ℕ). not (nat_lt k (total - count)) && not (nat_eq k 7)) last ∙ and_right (not (nat_lt 7 (total - count))) (not (nat_eq 7 7)) refl
  by_test false e =
      let high : count ≤ number = ltb-false number count e in
      let at = place_within since count total number begun high sent few in
      let waits : nat_lt (number - count) (total - count) ≡ true = lt-ltb (number - count) (total - count) (omega (arith, high, sent)) in
      ap (λ (k : ℕ). not (nat_lt k (total - count)) && not (nat_eq k 7)) at ∙ ap (λ (b : Bool). not b && not (nat_eq (number - count) 7)) waits

module _ {State : Type 0} (ends : Ends State) (Good : State → Type 0) (kept : State → Option KeptReply) (is : IsAnInstrument ends Good kept) where
  -- after a clean synchronization and possible moves the front reply raises no doubt
  none_at : (u : UnderWay State) → IsClean Good kept u → (front : List (Move State)) → ArePossibleOnceBegun 7 ends u Good kept front
      → (line : List ℕ) (n : ℕ) (rest : List (Numbered (List ℕ))) → (world_once_begun 7 ends u front).wire.down ≡ record { number = n; line = line } ∷ rest
      → raises_doubt (world_once_begun 7 ends u front).client line ≡ false
  none_at u clean front possible line n rest e =
      let a = world_once_begun 7 ends u front in
      let b = moved ends (by_numbers 7) front (numbers_begun u) in
      let c = b.client in
      let both = both_all 7 (omega arith) ends Good (exchange_of ends Good kept is) kept front (ids_begun u) (numbers_begun u) possible (both_begun ends Good kept is 7 (omega arith) u clean) in
      let same : a.wire ≡ b.wire = both.agree.wire in
      let down : b.wire.down ≡ record { number = n; line = line } ∷ rest = sym (ap (λ (w : Wire State). w.down) same) ∙ e in
      let coming = (subst (λ l. AllByRecursion (IsComing 7 ends Good c.since (length c.requests)) l) down both.sound.coming).0 in
      let rising = (subst (λ q. Rising c.count (numbers q ++ numbers b.wire.up)) down both.sound.order).0 in
      let waits : length a.client.waiting ≡ length c.requests - c.count =
      ap (λ (l : List (Pending Asked)). length l) both.agree.client.window ∙ length-drop c.count c.requests in
      let id : heard line ≡ Some ((n - c.since) % 8) = sym (is.hears line) ∙ coming.id in
      subst (λ (o : Option ℕ). is_impossible a.client.next (length a.client.waiting) o ≡ false) (sym id)
      (subst (λ (next : ℕ). is_impossible next (length a.client.waiting) (Some ((n - c.since) % 8)) ≡ false) (sym both.agree.client.next)
      (subst (λ (k : ℕ). is_impossible ((length c.requests - c.since) % 8) k (Some ((n - c.since) % 8)) ≡ false) (sym waits)
      (none_impossible c.since c.count (length c.requests) n both.sound.begun both.sound.within both.sound.few rising coming.recent coming.sent)))

  -- a sound stretch raises none
  pub none_raised : (s : Stretch State) → IsSoundStretch ends Good kept is s → RaisesNoDoubt ends s
  none_raised s sound front later line (inl e) =
      let clean = clean_of ends Good kept is s sound front later (Comes line) e in
      let before = front_possible 7 ends Good kept s.moves front (Comes line ∷ later) (ids_begun s.from) e sound.possible in
      let here = (later_possible 7 ends Good kept s.moves front (Comes line ∷ later) (ids_begun s.from) e sound.possible).0 in
      none_at s.from clean front before line here.0 here.1 here.2
  none_raised s sound front later line (inr e) =
      let here = (later_possible 7 ends Good kept s.moves front (Foreign line ∷ later) (ids_begun s.from) e sound.possible).0 in
      let c = (world_once_begun 7 ends s.from front).client in
      ap (λ (o : Option ℕ). is_impossible c.next (length c.waiting) o) here
