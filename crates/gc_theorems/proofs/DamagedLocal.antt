-- A stretch over a line that damages is local, if damage is apart in it, and its client holds back.
use Rattle.gc_theorems.proofs.Common.{◌≡◌, ◌⊎◌, inl, inr, ℕ, ◌<◌, List, [], ◌∷◌, ◌++◌, length, map, Option, refl, sym, ◌∙◌, ap, subst, arith, length-map, slice_get_within, fresh, KeptReply, sent_by, of_sent, Ends, IsWellFormed, LacksTheWord, UnderWay, begins, nulls, nulls_settled, IsAnInstrument, AllMayHarm, AreOwnOr, IsCleanBut, KeepsItsOwnAfter, harm_begun, holding_begun, IsLocal, left_by_sync, ArePossibleIfSynchronized, HarmedStretch, HasDamageApart, IsPossibleStretch, IsSynchronizedUndamaged, at_its_end, left_if_synchronized, once_synchronized, seen_harms, synchronized, AllMaySyncHarm, OwnEighthComes, WasStruck, sync_harmed}
use Rattle.std.proofs.lemmas.List.{length-append}
use Rattle.gc_theorems.proofs.DamagedCounting.{few_by_damage}
use Rattle.gc_theorems.proofs.HoldingBack.{fresh_if_held_back, order_if_held_back}
use Rattle.gc_theorems.proofs.Lacking.{order_lacks}
use Rattle.gc_theorems.proofs.Own.{own_or_broken}
use Rattle.gc_theorems.proofs.Room.{HoldsBackFrom, SendsOnly, all_have_room}
use Rattle.gc_theorems.proofs.SeenHarms.{seen_by_steps}
use Rattle.gc_theorems.proofs.Stretch.{left_clean}
use Rattle.gc_theorems.proofs.DamagedUndamaged.{undamaged_clean}
use Rattle.gc_theorems.proofs.WellFormed.{possible_steps}

-- No steps.

-- with no steps after a synchronization, none of the client's requests was settled
own_of_none : {State : Type 0} (ends : Ends State) (u : UnderWay State) (Old : List ℕ → Type 0) → AreOwnOr 7 ends Old (harm_begun 7 ends u) []
own_of_none ends u Old = record {
  answered = λ m x line ge e out. let low : m < 8 = slice_get_within nulls_settled m x e in absurd (omega (arith, low, ge));
  late = λ m x ge e out. let low : m < 8 = slice_get_within nulls_settled m x e in absurd (omega (arith, low, ge));
  few = few_by_damage 7 ends Old (harm_begun 7 ends u) [];
  one_each = λ m n line other a b e. absurd (not_nil a.front a.step a.later a.split);
} where
  -- a list with a step isn't empty
  not_nil : {A : Type 0} (front : List A) (x : A) (later : List A) → [] ≡ front ++ x ∷ later → ⊥
  not_nil [] x later e = cc
  not_nil (y ∷ front) x later e = cc

module _ {State : Type 0} (ends : Ends State) (Good : State → Type 0) (kept : State → Option KeptReply) (is : IsAnInstrument ends Good kept) where
  -- what a stretch's synchronization leaves is clean, but for a kept reply to a request that damage made
  abbrev IsCleanStretch : HarmedStretch State → Type 0
  IsCleanStretch s = IsCleanBut (λ made. WasStruck ends s.over s.turns made) Good kept (left_by_sync ends s.over s.turns)

  -- nothing happens in a stretch that hasn't synchronized
  record IsUnsynchronized (s : HarmedStretch State) : Type 0 where
    none : s.steps ≡ []
    left : (synchronized ends s).left ≡ [] → ⊥

  -- a synchronization without damage, over lines that lack the word, is clean, or not over, by the ids that it leaves of the word
  undamaged_by : (s : HarmedStretch State) (left : List ℕ) → (synchronized ends s).left ≡ left → IsWellFormed Good s.over → AllMaySyncHarm ends Good kept s.turns (begins s.over)
      → ArePossibleIfSynchronized ends Good kept left s → IsSynchronizedUndamaged ends s → IsCleanStretch s ⊎ IsUnsynchronized s
  undamaged_by s [] e well turns steps h =
      inl (subst (λ ts. IsCleanBut (λ made. WasStruck ends s.over s.turns made) Good kept (left_by_sync ends s.over ts)) (sym h.undamaged)
      (undamaged_clean ends Good kept is s.over h.turns (λ made. WasStruck ends s.over s.turns made) well (subst (λ ts. AllMaySyncHarm ends Good kept ts (begins s.over)) h.undamaged turns) h.lacks
      (subst (λ ts. (sync_harmed ends ts (begins s.over)).left ≡ []) h.undamaged e)))
  undamaged_by s (asked ∷ rest) e well turns steps h = inr (record { none = steps; left = λ done. let both : asked ∷ rest ≡ [] = sym e ∙ done in cc })

  -- a stretch in which damage is apart is clean once it has synchronized
  clean_if_begun : (s : HarmedStretch State) → IsWellFormed Good s.over → IsPossibleStretch ends Good kept s → OwnEighthComes ends s.over s.turns ⊎ IsSynchronizedUndamaged ends s
      → IsCleanStretch s ⊎ IsUnsynchronized s
  clean_if_begun s well possible (inl own) = inl (left_clean 7 (omega arith) ends Good kept is s.over s.turns well possible.turns own)
  clean_if_begun s well possible (inr h) = undamaged_by s (synchronized ends s).left refl well possible.turns possible.steps h

  -- a stretch with a clean synchronization is local, if damage is apart after it, and its client holds back, and sends only requests after
  -- which the instrument keeps its own reply, or none
  local_if_clean : (s : HarmedStretch State) → IsPossibleStretch ends Good kept s → HoldsBackFrom fresh 1 (seen_harms s.steps) → SendsOnly (KeepsItsOwnAfter ends Good kept) fresh (seen_harms s.steps)
      → HasDamageApart ends s → IsCleanStretch s → IsLocal ends Good kept s
  local_if_clean s possible held own apart clean =
      let from = left_by_sync ends s.over s.turns in
      let steps = possible_steps ends Good kept is s possible in
      let room = all_have_room ends Good kept is s.steps (holding_begun 7 ends from) 1 (omega arith) steps apart.apart held own in
      let may = fresh_if_held_back 7 (omega arith) ends Good kept is (λ made. WasStruck ends s.over s.turns made) from clean s.steps room in
      let sent = (seen_by_steps ends Good kept is s steps).sent in
      let same : length (map of_sent (at_its_end ends s).world.wire.sent) ≡ length (map of_sent nulls ++ sent_by fresh (seen_harms s.steps)) = ap length sent in
      let mapped = length-map (at_its_end ends s).world.wire.sent of_sent in
      let joined = length-append (map of_sent nulls) (sent_by fresh (seen_harms s.steps)) in
      let eight : length (map of_sent nulls) ≡ 8 = refl in
      let order = order_if_held_back 7 (omega arith) ends Good kept is (λ made. WasStruck ends s.over s.turns made) from clean s.steps room in
      let lacks = order_lacks ends Good kept is (at_its_end ends s) order (omega (arith, same, mapped, joined, eight)) in
      record {
        fresh = may;
        own = own_or_broken 7 (omega arith) ends Good kept is (λ made. WasStruck ends s.over s.turns made) from s.steps clean may;
        lacks = λ done. subst (λ left. LacksTheWord (left_if_synchronized ends left s)) (sym done) lacks;
      }

  -- a stretch that hasn't synchronized is local
  local_if_none : (s : HarmedStretch State) → IsUnsynchronized s → IsLocal ends Good kept s
  local_if_none s h = record {
    fresh = subst (λ ms. AllMayHarm 7 ends Good kept ms (once_synchronized ends s)) (sym h.none) tt;
    own = subst (λ ms. AreOwnOr 7 ends (λ made. WasStruck ends s.over s.turns made) (once_synchronized ends s) ms) (sym h.none) (own_of_none ends (left_by_sync ends s.over s.turns) (λ made. WasStruck ends s.over s.turns made));
    lacks = λ done. absurd (h.left done);
  }

  -- a stretch in which damage is apart is local, if its client holds back, and sends only requests after which the instrument keeps its own
  -- reply, or none
  pub local_if_held_back : (s : HarmedStretch State) → IsWellFormed Good s.over → IsPossibleStretch ends Good kept s → HoldsBackFrom fresh 1 (seen_harms s.steps)
      → SendsOnly (KeepsItsOwnAfter ends Good kept) fresh (seen_harms s.steps) → HasDamageApart ends s → IsLocal ends Good kept s
  local_if_held_back s well possible held own apart = elim (clean_if_begun s well possible apart.begun) [
    | inl clean ↦ local_if_clean s possible held own apart clean
    | inr none ↦ local_if_none s none
  ]
