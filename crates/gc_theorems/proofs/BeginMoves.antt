-- A fact of the whole line, replies first, that is preserved by the four things that can happen to the line is preserved by each
-- move of a synchronization.
use Rattle.gc_theorems.proofs.Common.{◌≡◌, ℕ, inl, inr, false, List, [], ◌∷◌, ◌++◌, refl, sym, subst, append_assoc, Some, left_by, without, doubled}
use Rattle.gc_theorems.proofs.BeginIds.{IdSent, IdModel, IdMove, Ask, Reach, Pass, Come, Up_lose, Up_repeat, Down_lose, Down_repeat, Anew, asks, reaches, passes, comes, moves, moved}
use Rattle.gc_theorems.proofs.BeginLists.{lost_back, lost_front, twice_back, twice_front}

-- a fact of the ids that are left, and of the line, is preserved by a loss, a repeat, a request that is sent and a reply that
-- comes
pub record Lasts (I : List ℕ → List IdSent → Type 0) : Type 0 where
  pub lost : (left : List ℕ) (k : ℕ) (line : List IdSent) → I left line → I left (without k line)
  pub twice : (left : List ℕ) (k : ℕ) (line : List IdSent) → I left line → I left (doubled k line)
  pub asked : (id : ℕ) (later : List ℕ) (line : List IdSent) → I (id ∷ later) line → I (id ∷ later) (line ++ record { id = id; old = false } ∷ [])
  pub came : (left : List ℕ) (x : IdSent) (rest : List IdSent) → I left (x ∷ rest) → I (left_by left (Some x.id)) rest

module _ (I : List ℕ → List IdSent → Type 0) (lasts : Lasts I) where
  -- the fact `I` holds of a state
  abbrev pub Holds : IdModel → Type 0
  Holds s = I s.left (s.down ++ s.up)

  -- `Holds` is preserved if the client asks
  holds_asks : (s : IdModel) (left : List ℕ) → s.left ≡ left → Holds s → Holds (asks s left)
  holds_asks s [] e h = h
  holds_asks s (id ∷ later) e h =
      let new : IdSent = record { id = id; old = false } in
      subst (λ l. I l (s.down ++ (s.up ++ new ∷ []))) (sym e)
      (subst (λ q. I (id ∷ later) q) (append_assoc s.down s.up (new ∷ []))
      (lasts.asked id later (s.down ++ s.up) (subst (λ l. I l (s.down ++ s.up)) e h)))

  -- the front request, x, may count as the last reply: that is the same line
  as_reply : (s : IdModel) (x : IdSent) (rest : List IdSent) → s.up ≡ x ∷ rest → Holds s → I s.left ((s.down ++ x ∷ []) ++ rest)
  as_reply s x rest e h = subst (λ q. I s.left q) (sym (append_assoc s.down (x ∷ []) rest)) (subst (λ q. I s.left (s.down ++ q)) e h)

  -- `Holds` is preserved if a request reaches the instrument
  holds_reaches : (s : IdModel) (up : List IdSent) → s.up ≡ up → Holds s → Holds (reaches s up)
  holds_reaches s [] e h = h
  holds_reaches s (x ∷ rest) e h = as_reply s x rest e h

  -- `Holds` is preserved by `Pass`
  holds_passes : (s : IdModel) (up : List IdSent) → s.up ≡ up → Holds s → Holds (passes s up)
  holds_passes s [] e h = h
  holds_passes s (x ∷ rest) e h = as_reply s x rest e h

  -- `Holds` is preserved if a reply comes
  holds_comes : (s : IdModel) (down : List IdSent) → s.down ≡ down → Holds s → Holds (comes s down)
  holds_comes s [] e h = h
  holds_comes s (x ∷ rest) e h = lasts.came s.left x (rest ++ s.up) (subst (λ q. I s.left (q ++ s.up)) e h)

  -- `Holds` is preserved by each move
  pub holds_moves : (s : IdModel) (m : IdMove) → Holds s → Holds (moves s m)
  holds_moves s Ask h = holds_asks s s.left refl h
  holds_moves s Reach h = holds_reaches s s.up refl h
  holds_moves s Pass h = holds_passes s s.up refl h
  holds_moves s Come h = holds_comes s s.down refl h
  holds_moves s (Up_lose k) h =
      let lost = lost_back k s.down s.up in
      subst (λ q. I s.left q) (sym lost.1) (lasts.lost s.left lost.0 (s.down ++ s.up) h)
  holds_moves s (Up_repeat k) h =
      let twice = twice_back k s.down s.up in
      subst (λ q. I s.left q) (sym twice.1) (lasts.twice s.left twice.0 (s.down ++ s.up) h)
  holds_moves s (Down_lose k) h =
      elim (lost_front k s.down s.up) [
        | inl e ↦ subst (λ q. I s.left q) (sym e) h
        | inr e ↦ subst (λ q. I s.left q) (sym e) (lasts.lost s.left k (s.down ++ s.up) h)
      ]
  holds_moves s (Down_repeat k) h =
      elim (twice_front k s.down s.up) [
        | inl e ↦ subst (λ q. I s.left q) (sym e) h
        | inr e ↦ subst (λ q. I s.left q) (sym e) (lasts.twice s.left k (s.down ++ s.up) h)
      ]
  holds_moves s Anew h = h

  -- `Holds` is preserved by moves
  pub holds_moved : (ms : List IdMove) (s : IdModel) → Holds s → Holds (moved ms s)
  holds_moved [] s h = h
  holds_moved (m ∷ ms) s h = holds_moved ms (moves s m) (holds_moves s m h)
