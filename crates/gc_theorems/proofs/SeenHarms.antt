-- What the client of a stretch with damage sent and settled is what a station's client does by the steps that it sees.
use Rattle.gc_theorems.proofs.Common.{◌≡◌, ℕ, List, [], ◌∷◌, ◌++◌, map, Option, refl, sym, ◌∙◌, ap, subst, Asked, Course, course, course_after, settled_on, ById, fresh, hears, hears_line, KeptReply, course_client, client_after, course_sent, course_settled, sent_by, settled_by, of_sent, Ends, World, with_settled, nulls, nulls_settled, IsAnInstrument, Harm, Does, Damages, Strikes, Harmed, harmed, harms, HarmedStretch, ArePossibleHarms, IsPossibleHarm, at_its_end, once_synchronized, seen_at, seen_harms}
use Rattle.gc_client.specs.Prelude.{Step}
use Rattle.gc_theorems.proofs.Seen.{SameAs, same_all}

-- a course over two lists of steps is the one over the second, from the one over the first on
pub course_append : (width : ℕ) (x : Course Asked) (first later : List (Step Asked)) → course width x (first ++ later) ≡ course width (course width x first) later
course_append width x [] later = refl
course_append width x (s ∷ first) later = course_append width (course_after width x s) first later

-- the course in which the eight null procedures were sent and settled, and whose client is new
abbrev pub after_nulls : Course Asked
after_nulls = record { sent = map of_sent nulls; settlements = nulls_settled; client = fresh }

module _ {State : Type 0} (width : ℕ) (ends : Ends State) (Good : State → Type 0) (kept : State → Option KeptReply) (is : IsAnInstrument ends Good kept) where
  -- the course has the requests, the settlements and the client of the world
  abbrev pub Same : Course Asked → World (ById Asked) State → Type 0
  Same x w = SameAs width ends is.hears Good kept x w

  -- that stays so if a damaged line comes
  same_damaged : (x : Course Asked) (w : World (ById Asked) State) (line : List ℕ) → Same x w → Same (settled_on x (hears_line x.client line)) (with_settled w.wire (hears w.client line (ends.heard line)))
  same_damaged x w line h =
      subst (λ o. Same (settled_on x (hears_line x.client line)) (with_settled w.wire (hears w.client line o))) (sym (is.hears line))
      (subst (λ c. Same (settled_on x (hears_line c line)) (with_settled w.wire (hears_line w.client line))) (sym h.client)
      (record { sent = h.sent; settled = ap (λ l. l ++ (hears_line w.client line).settlements) h.settled; client = refl }))

  -- it stays so by a step, with damage
  pub same_harm : (m : Harm State) (x : Course Asked) (h : Harmed State) → IsPossibleHarm ends Good kept h m → Same x h.world → Same (course width x (seen_at m)) (harms width ends h m).world
  same_harm (Does move) x h p s = same_all width ends is.hears Good kept (move ∷ []) x h.world (p, tt) s
  same_harm (Damages line) x h p s = same_damaged x h.world line s
  same_harm (Strikes id call) x h p s = record { sent = s.sent; settled = s.settled; client = s.client }

module _ {State : Type 0} (ends : Ends State) (Good : State → Type 0) (kept : State → Option KeptReply) (is : IsAnInstrument ends Good kept) where
  -- it stays so by these steps
  same_harms : (ms : List (Harm State)) (x : Course Asked) (h : Harmed State) → ArePossibleHarms ends Good kept ms h → Same 7 ends Good kept is x h.world
      → Same 7 ends Good kept is (course 7 x (seen_harms ms)) (harmed 7 ends ms h).world
  same_harms [] x h p s = s
  same_harms (m ∷ ms) x h p s =
      subst (λ y. Same 7 ends Good kept is y (harmed 7 ends ms (harms 7 ends h m)).world) (sym (course_append 7 x (seen_at m) (seen_harms ms)))
      (same_harms ms (course 7 x (seen_at m)) (harms 7 ends h m) p.1 (same_harm 7 ends Good kept is m x h p.0 s))

  -- a step leaves the client that takes what it sees of the step
  pub client_stays_seen : (m : Harm State) (h : Harmed State) → IsPossibleHarm ends Good kept h m → client_after h.world.client (seen_at m) ≡ (harms 7 ends h m).world.client
  client_stays_seen m h p =
      let x : Course Asked = record { sent = map of_sent h.world.wire.sent; settlements = h.world.wire.settled; client = h.world.client } in
      sym (course_client (seen_at m) x) ∙ (same_harm 7 ends Good kept is m x h p (record { sent = refl; settled = refl; client = refl })).client

  -- what the client of a stretch sent and settled, by its steps
  pub record IsSeenBy (steps : List (Step Asked)) (s : HarmedStretch State) : Type 0 where
    pub settled : (at_its_end ends s).world.wire.settled ≡ nulls_settled ++ settled_by fresh steps
    pub sent : map of_sent (at_its_end ends s).world.wire.sent ≡ map of_sent nulls ++ sent_by fresh steps
    pub client : (at_its_end ends s).world.client ≡ client_after fresh steps

  -- a possible stretch is seen by its client's steps
  pub seen_by_steps : (s : HarmedStretch State) → ArePossibleHarms ends Good kept s.steps (once_synchronized ends s) → IsSeenBy (seen_harms s.steps) s
  seen_by_steps s p =
      let one = same_harms s.steps after_nulls (once_synchronized ends s) p (record { sent = refl; settled = refl; client = refl }) in
      record {
        settled = sym one.settled ∙ course_settled (seen_harms s.steps) after_nulls;
        sent = sym one.sent ∙ course_sent (seen_harms s.steps) after_nulls;
        client = sym one.client ∙ course_client (seen_harms s.steps) after_nulls;
      }
