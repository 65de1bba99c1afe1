-- The id with which an executed request reached the instrument: its number in its stretch, modulo 8. A *stretch* is a run once it
-- has synchronized: what is in flight then, and its moves. Its requests 0 to 7 are the null procedures of the synchronization.
use Rattle.gc_theorems.proofs.Common.{◌≡◌, ℕ, ◌-◌, ◌%◌, List, ◌∷◌, length, Option, refl, sym, ◌∙◌, ap, subst, arith, AllByRecursion, Asked, KeptReply, by_numbers, IsGoing, Ends, Up_deliver, Wire, WasMadeOn, ids_begun, numbers_begun, OnLine, moved, IsAnInstrument, Stretch}
use Rattle.gc_theorems.proofs.Instruments.{exchange_of}
use Rattle.gc_theorems.proofs.InTime.{IsSoundStretch, clean_of}
use Rattle.gc_theorems.proofs.Moving.{both_all}
use Rattle.gc_theorems.proofs.BegunFaithful.{both_begun}
use Rattle.gc_theorems.proofs.BegunRising.{based_all}
use Rattle.gc_theorems.proofs.Possible.{front_possible}

module _ {State : Type 0} (ends : Ends State) (Good : State → Type 0) (kept : State → Option KeptReply) (is : IsAnInstrument ends Good kept) where
  -- a line of a sound stretch was made on executing a request that had the id of its number
  pub made_by_id : (s : Stretch State) → IsSoundStretch ends Good kept is s → (n : ℕ) (call : Asked) (line : List ℕ) → (made : WasMadeOn 7 ends s.from s.moves n call line) → made.id ≡ n % 8
  made_by_id s sound n call line made =
      let rest = OnLine Up_deliver ∷ made.later in
      let clean = clean_of ends Good kept is s sound made.front made.later (OnLine Up_deliver) made.split in
      let possible = front_possible 7 ends Good kept s.moves made.front rest (ids_begun s.from) made.split sound.possible in
      let b = moved ends (by_numbers 7) made.front (numbers_begun s.from) in
      let both = both_all 7 (omega arith) ends Good (exchange_of ends Good kept is) kept made.front (ids_begun s.from) (numbers_begun s.from) possible
      (both_begun ends Good kept is 7 (omega arith) s.from clean) in
      let up : b.wire.up ≡ record { number = n; line = record { id = made.id; call = call } } ∷ made.rest = sym (ap (λ (w : Wire State). w.up) both.agree.wire) ∙ made.reaches in
      let going = (subst (λ l. AllByRecursion (IsGoing b.client.since (length b.client.requests)) l) up both.sound.going).0 in
      let since : b.client.since ≡ 0 =
      (based_all 7 ends Good kept made.front (ids_begun s.from) (numbers_begun s.from) possible (record { since = refl; count = omega arith })).since in
      let plain : n - b.client.since ≡ n = omega (arith, since) in
      going.id ∙ ap (λ k. k % 8) plain
