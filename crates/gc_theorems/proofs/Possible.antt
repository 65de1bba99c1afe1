-- Moves that are possible, cut in two: the front is possible, and so are the later moves, in the world that the front leaves.
use Rattle.gc_theorems.proofs.Common.{◌≡◌, ℕ, List, [], ◌∷◌, ◌++◌, Option, refl, subst, Asked, ById, KeptReply, by_ids, Ends, Rule, World, Move, moves, moved, ArePossible}

module _ {Client State : Type 0} (ends : Ends State) (rule : Rule Client) where
  -- two lists of moves, one after the other, leave the world that the second makes of what the first leaves
  pub moved_append : (front later : List (Move State)) (w : World Client State) → moved ends rule (front ++ later) w ≡ moved ends rule later (moved ends rule front w)
  moved_append [] later w = refl
  moved_append (m ∷ front) later w = moved_append front later (moves ends rule w m)

module _ {State : Type 0} (width : ℕ) (ends : Ends State) (Good : State → Type 0) (kept : State → Option KeptReply) where
  -- where possible moves are a front and later ones, the front is possible
  pub front_possible : (ms front later : List (Move State)) (w : World (ById Asked) State) → ms ≡ front ++ later → ArePossible ends Good kept (by_ids width ends) ms w
      → ArePossible ends Good kept (by_ids width ends) front w
  front_possible ms front later w e p = of_both front w (subst (λ xs. ArePossible ends Good kept (by_ids width ends) xs w) e p) where
    -- the lemma above, for the front and the later moves in one list
    of_both : (front : List (Move State)) (w : World (ById Asked) State) → ArePossible ends Good kept (by_ids width ends) (front ++ later) w
        → ArePossible ends Good kept (by_ids width ends) front w
    of_both [] w h = tt
    of_both (m ∷ front) w h = (h.0, of_both front (moves ends (by_ids width ends) w m) h.1)

  -- where possible moves are a front and later ones, the later ones are possible in the world that the front leaves
  pub later_possible : (ms front later : List (Move State)) (w : World (ById Asked) State) → ms ≡ front ++ later → ArePossible ends Good kept (by_ids width ends) ms w
      → ArePossible ends Good kept (by_ids width ends) later (moved ends (by_ids width ends) front w)
  later_possible ms front later w e p = of_both front w (subst (λ xs. ArePossible ends Good kept (by_ids width ends) xs w) e p) where
    -- the lemma above, for the front and the later moves in one list
    of_both : (front : List (Move State)) (w : World (ById Asked) State) → ArePossible ends Good kept (by_ids width ends) (front ++ later) w
        → ArePossible ends Good kept (by_ids width ends) later (moved ends (by_ids width ends) front w)
    of_both [] w h = h
    of_both (m ∷ front) w h = of_both front (moves ends (by_ids width ends) w m) h.1
