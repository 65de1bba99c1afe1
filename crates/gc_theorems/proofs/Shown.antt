-- The turns of a synchronization leave of the word the same ids as the lines that these turns show to the station. The *word*
-- is the list of the ids of a synchronization's null procedures; a reply that answers one takes its id off.
use Rattle.gc_theorems.proofs.Common.{◌≡◌, ℕ, List, [], ◌∷◌, refl, sym, ◌∙◌, ap, unanswered_after, heard_in, heard_append, left_append, Ends, SyncModel, SyncTurn, Asks, Reaches, comes, reaches, asks, turned, turns, first_heard, shown, shows}
use Rattle.gc_theorems.specs.Begin.{InFlight, Comes}

module _ {State : Type 0} (ends : Ends State) where
  -- a null procedure that is sent changes nothing in what is left of the word
  left_asks : (s : SyncModel State) (word : List ℕ) → (asks s word).left ≡ s.left
  left_asks s [] = refl
  left_asks s (asked ∷ rest) = refl

  -- the front reply that comes, if there is one, leaves of the word what its line leaves
  left_comes : (s : SyncModel State) (q : List (InFlight (List ℕ))) → (comes s q).left ≡ unanswered_after s.left (heard_in (first_heard q))
  left_comes s [] = refl
  left_comes s (x ∷ rest) = refl

  -- a request that reaches the instrument changes nothing in what is left of the word
  pub left_reaches : (s : SyncModel State) (q : List _) → (reaches ends s q).left ≡ s.left
  left_reaches s [] = refl
  left_reaches s (x ∷ rest) = refl

  -- a turn leaves of the word what the line that it shows to the station, if it shows one, leaves of it
  left_turn : (s : SyncModel State) (t : SyncTurn State) → (turns ends s t).left ≡ unanswered_after s.left (heard_in (shows s t))
  left_turn s Asks = left_asks s s.left
  left_turn s Comes = left_comes s s.down
  left_turn s Reaches = left_reaches s s.up
  left_turn s other = refl

  -- turns leave of the word what the lines that they show to the station leave of it
  pub left_is : (ts : List (SyncTurn State)) (s : SyncModel State) → (turned ends ts s).left ≡ unanswered_after s.left (heard_in (shown ends ts s))
  left_is [] s = refl
  left_is (t ∷ ts) s =
      left_is ts (turns ends s t)
      ∙ ap (λ w. unanswered_after w (heard_in (shown ends ts (turns ends s t)))) (left_turn s t)
      ∙ sym (left_append s.left (heard_in (shows s t)) (heard_in (shown ends ts (turns ends s t))))
      ∙ ap (λ l. unanswered_after s.left l) (sym (heard_append (shows s t) (shown ends ts (turns ends s t))))
