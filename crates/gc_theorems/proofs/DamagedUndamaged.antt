-- A synchronization without damage, as one with damage: it is clean if the word isn't in flight when it begins. And which ids a
-- synchronization with damage leaves of the word is what the lines that it shows leave of it.
use Rattle.gc_theorems.proofs.Common.{◌≡◌, ℕ, inl, List, [], ◌∷◌, map, Option, refl, sym, ◌∙◌, ap, subst, append-nil, KeptReply, unanswered_after, heard_in, heard_append, left_append, Ends, AreTurns, IsWellFormed, LacksTheWord, SyncModel, SyncTurn, UnderWay, begins, leaves, turned, turns, IsAnInstrument, shows, IsCleanBut, left_by_sync, shown_harms, shows_harm, SyncHarm, AllMaySyncHarm, sync_harmed, sync_harms}
use Rattle.gc_theorems.proofs.BeginJoin.{begins_cleanly}
use Rattle.gc_theorems.proofs.Shown.{left_is}
use Rattle.gc_theorems.specs.DamagedSynchronizing.{Does, Damages, Strikes}

module _ {State : Type 0} (ends : Ends State) where
  -- turns without damage do what they do in the field
  pub same_turns : (ts : List (SyncTurn State)) (s : SyncModel State) → sync_harmed ends (map Does ts) s ≡ turned ends ts s
  same_turns [] s = refl
  same_turns (t ∷ ts) s = same_turns ts (turns ends s t)

  -- a step leaves of the word what the line that it shows, if it shows one, leaves of it
  left_harm : (s : SyncModel State) (t : SyncHarm State) → (sync_harms ends s t).left ≡ unanswered_after s.left (heard_in (shows_harm s t))
  left_harm s (Does turn) = left_is ends (turn ∷ []) s ∙ ap (λ l. unanswered_after s.left (heard_in l)) (append-nil (shows s turn))
  left_harm s (Damages line) = refl
  left_harm s (Strikes id call) = refl

  -- steps leave of the word what the lines that they show leave of it
  pub left_harmed : (ts : List (SyncHarm State)) (s : SyncModel State) → (sync_harmed ends ts s).left ≡ unanswered_after s.left (heard_in (shown_harms ends ts s))
  left_harmed [] s = refl
  left_harmed (t ∷ ts) s =
      left_harmed ts (sync_harms ends s t)
      ∙ ap (λ w. unanswered_after w (heard_in (shown_harms ends ts (sync_harms ends s t)))) (left_harm s t)
      ∙ sym (left_append s.left (heard_in (shows_harm s t)) (heard_in (shown_harms ends ts (sync_harms ends s t))))
      ∙ ap (λ l. unanswered_after s.left l) (sym (heard_append (shows_harm s t) (shown_harms ends ts (sync_harms ends s t))))

module _ {State : Type 0} (ends : Ends State) (Good : State → Type 0) (kept : State → Option KeptReply) (is : IsAnInstrument ends Good kept) where
  -- turns without damage that are possible with damage are possible
  are_turns : (ts : List (SyncTurn State)) (s : SyncModel State) → AllMaySyncHarm ends Good kept (map Does ts) s → AreTurns ends Good kept ts s
  are_turns [] s p = tt
  are_turns (t ∷ ts) s p = (p.0, are_turns ts (turns ends s t) p.1)

  -- a synchronization without damage, over lines that lack the word, is clean once it has synchronized
  pub undamaged_clean : (u : UnderWay State) (ts : List (SyncTurn State)) (D : List ℕ → Type 0) → IsWellFormed Good u → AllMaySyncHarm ends Good kept (map Does ts) (begins u) → LacksTheWord u
      → (sync_harmed ends (map Does ts) (begins u)).left ≡ [] → IsCleanBut D Good kept (left_by_sync ends u (map Does ts))
  undamaged_clean u ts D well p lacks done =
      let same = same_turns ends ts (begins u) in
      let c = (begins_cleanly ends Good kept is u ts well (are_turns ts (begins u) p) lacks (ap (λ (s : SyncModel State). s.left) (sym same) ∙ done)).clean in
      subst (λ (s : SyncModel State). IsCleanBut D Good kept (leaves s)) (sym same) (record { good = c.good; up = c.up; down = c.down; keeps = λ k e. inl (c.keeps k e) })
