-- What a station's client settles is what the world's client settles: over any moves, its course has the requests, the
-- settlements and the client of the world (`SameAs`).
use Rattle.gc_theorems.proofs.Common.{◌≡◌, ℕ, List, [], ◌∷◌, ◌++◌, map, Option, Some, None, refl, sym, ◌∙◌, ap, subst, map-append, Asked, asked_line, Course, course, sent_on, settled_on, begun, ById, Sending, sends, hears, heard, hears_line, KeptReply, by_ids, ids_open, of_sent, Numbered, Ends, Step, World, requested, with_settled, down_delivered, happens, ReadsByGrammar, Move, Sends, Tells, Comes, Foreign, OnLine, Joins, IsLineStep, moved, ArePossible, seen}
use Rattle.std.proofs.lemmas.List.{append-nil}
use Rattle.gc_theorems.proofs.LineSteps.{same_over_line}

module _ {State : Type 0} (width : ℕ) (ends : Ends State) (same_heard : ReadsByGrammar ends) (Good : State → Type 0) (kept : State → Option KeptReply) where
  -- the course of a client and the world have the same requests, settlements and client
  pub record SameAs (x : Course Asked) (w : World (ById Asked) State) : Type 0 where
    pub sent : x.sent ≡ map of_sent w.wire.sent
    pub settled : x.settlements ≡ w.wire.settled
    pub client : x.client ≡ w.client

  -- `SameAs` is preserved if a request is sent, or refused
  same_option : (x : Course Asked) (w : World (ById Asked) State) (target : ℕ) (call : Asked) (o : Option (Sending (ById Asked))) → SameAs x w
      → SameAs (sent_on x target call o) (requested w target call o)
  same_option x w target call None h = record { sent = h.sent; settled = h.settled; client = h.client }
  same_option x w target call (Some s) h =
      let last : map of_sent (w.wire.sent ++ record { target = target; call = call; line = asked_line (Some s.id) call } ∷ []) ≡ map of_sent w.wire.sent
      ++ record { target = target; call = call } ∷ [] = map-append of_sent w.wire.sent _ in
      record { sent = ap (λ l. l ++ record { target = target; call = call } ∷ []) h.sent ∙ sym last; settled = h.settled; client = refl }

  -- `SameAs` is preserved if the rule of the client decides on a send
  same_send : (x : Course Asked) (w : World (ById Asked) State) (target : ℕ) (call : Asked) (deadline : ℕ) → SameAs x w
      → SameAs (sent_on x target call (sends width x.client target call deadline)) (requested w target call (sends width w.client target call deadline))
  same_send x w target call deadline h =
      subst (λ c. SameAs (sent_on x target call (sends width c target call deadline)) (requested w target call (sends width w.client target call deadline))) (sym h.client)
      (same_option x w target call (sends width w.client target call deadline) h)

  -- `SameAs` is preserved by a reply that is heard
  same_reply : (x : Course Asked) (w : World (ById Asked) State) (line : List ℕ) (rest : List (Numbered (List ℕ))) → SameAs x w
      → SameAs (settled_on x (hears_line x.client line)) (with_settled (record w.wire { down = rest }) (hears w.client line (ends.heard line)))
  same_reply x w line rest h =
      subst (λ o. SameAs (settled_on x (hears_line x.client line)) (with_settled (record w.wire { down = rest }) (hears w.client line o))) (sym (same_heard line))
      (subst (λ c. SameAs (settled_on x (hears_line c line)) (with_settled (record w.wire { down = rest }) (hears_line w.client line))) (sym h.client)
      (record { sent = h.sent; settled = ap (λ l. l ++ (hears_line w.client line).settlements) h.settled; client = refl }))

  -- `SameAs` is preserved by the front reply
  same_comes : (x : Course Asked) (w : World (ById Asked) State) (line : List ℕ) (n : ℕ) (rest : List (Numbered (List ℕ)))
      → w.wire.down ≡ record { number = n; line = line } ∷ rest → SameAs x w
      → SameAs (settled_on x (hears_line x.client line)) (down_delivered (by_ids width ends) w w.wire.down)
  same_comes x w line n rest e h =
      subst (λ q. SameAs (settled_on x (hears_line x.client line)) (down_delivered (by_ids width ends) w q)) (sym e) (same_reply x w line rest h)

  -- `SameAs` is preserved by a line without an id
  same_foreign : (x : Course Asked) (w : World (ById Asked) State) (line : List ℕ) → heard line ≡ None → SameAs x w → SameAs (settled_on x (hears_line x.client line)) w
  same_foreign x w line e h =
      subst (λ o. SameAs (settled_on x (hears x.client line o)) w) (sym e) (record { sent = h.sent; settled = append-nil x.settlements ∙ h.settled; client = h.client })

  -- `SameAs` is preserved by a step of the line
  same_line : (x : Course Asked) (w : World (ById Asked) State) (step : Step) → IsLineStep step → SameAs x w → SameAs x (happens ends (by_ids width ends) w step)
  same_line x w step p h =
      let after = same_over_line ends (by_ids width ends) w step p in
      record { sent = h.sent ∙ ap (map of_sent) (sym after.sent); settled = h.settled ∙ sym after.settled; client = h.client ∙ sym after.client }

  -- `SameAs` is preserved by possible moves: the course takes the steps that the client sees of them
  pub same_all : (ms : List (Move State)) (x : Course Asked) (w : World (ById Asked) State) → ArePossible ends Good kept (by_ids width ends) ms w → SameAs x w
      → SameAs (course width x (seen ms)) (moved ends (by_ids width ends) ms w)
  same_all [] x w p h = h
  same_all (Sends target call deadline ∷ ms) x w p h = same_all ms _ _ p.1 (same_send x w target call deadline h)
  same_all (Tells now ∷ ms) x w p h = same_all ms _ _ p.1 (record { sent = h.sent; settled = h.settled; client = ap (λ c. (by_ids width ends).expire c now) h.client })
  same_all (Comes line ∷ ms) x w p h = same_all ms _ _ p.1 (same_comes x w line p.0.0 p.0.1 p.0.2 h)
  same_all (Foreign line ∷ ms) x w p h = same_all ms _ _ p.1 (same_foreign x w line p.0 h)
  same_all (OnLine step ∷ ms) x w p h = same_all ms x _ p.1 (same_line x w step p.0 h)
  same_all (Joins line ∷ ms) x w p h = absurd p.0
  same_all (m ∷ ms) x w p h = same_all ms x _ p.1 (record { sent = h.sent; settled = h.settled; client = h.client })

  -- `SameAs` holds at the start
  pub same_open : (state : State) → SameAs begun (ids_open state)
  same_open state = record { sent = refl; settled = refl; client = refl }
