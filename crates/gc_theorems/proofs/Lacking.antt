-- A stretch in which damage is apart, and whose station holds back, doesn't leave the word in flight: the ids in flight are those of the last
-- eight requests, which rise.
use Rattle.gc_theorems.proofs.Common.{◌≡◌, ℕ, ◌+◌, ◌-◌, ◌%◌, ◌<◌, ◌≤◌, List, [], ◌∷◌, ◌++◌, length, map, Option, refl, sym, ◌∙◌, arith, ap₂, filter_map, cons_option, AllByRecursion, map-append, all_append, every_weaker as all_on, heard, KeptReply, Rising, numbers, each_number, Ends, Numbered, Request, Sent, LacksTheWord, HasRisingIds, under_way_on, IsAnInstrument, Harmed}
use Rattle.gc_theorems.proofs.BegunRising.{rising_lack_the_word}
use Rattle.gc_theorems.proofs.HoldingBack.{HasOrder}
use Rattle.gc_theorems.proofs.Well.{IsDown, IsUp}
use Rattle.gc_theorems.proofs.WithoutDamage.{any_line, any_made, any_row}

-- numbers that never fall, each of which is at least low - 1
rising_from : (low : ℕ) (ns : List ℕ) → AllByRecursion (λ n. low ≤ n + 1) ns → Rising 0 ns → Rising low ns
rising_from low [] a h = tt
rising_from low (n ∷ ns) a h = (a.0, h.1)

-- the ids of requests in flight are their numbers modulo 8
ids_up : (sent : List Sent) (xs : List (Numbered Request)) → AllByRecursion (IsUp any_made any_line any_row sent) xs → map (λ x. x.id) (map (λ x. x.line) xs) ≡ map (λ n. n % 8) (numbers xs)
ids_up sent [] h = refl
ids_up sent (x ∷ xs) h = ap₂ (λ i ids. i ∷ ids) h.0.id (ids_up sent xs h.1)

module _ {State : Type 0} (ends : Ends State) (Good : State → Type 0) (kept : State → Option KeptReply) (is : IsAnInstrument ends Good kept) where
  -- the ids of replies in flight are their numbers modulo 8
  ids_down : (sent : List Sent) (xs : List (Numbered (List ℕ))) → AllByRecursion (IsDown any_made any_line any_row ends.heard sent) xs
      → filter_map heard (map (λ x. x.line) xs) ≡ map (λ n. n % 8) (numbers xs)
  ids_down sent [] h = refl
  ids_down sent (x ∷ xs) h = ap₂ (λ o ids. cons_option o ids) (sym (is.hears x.line) ∙ h.0.id) (ids_down sent xs h.1)

  -- where the world has order (`HasOrder`), and the null procedures were sent, the ids in flight rise
  rising_ids : (h : Harmed State) → HasOrder 7 (omega arith) ends Good kept is h → 8 ≤ length h.world.wire.sent → HasRisingIds (under_way_on h.world.wire)
  rising_ids h o many =
      let w = h.world.wire in
      let sent = length w.sent in
      let low = sent - 7 in
      let above : AllByRecursion (λ n. low ≤ n + 1) (numbers w.down ++ numbers w.up) =
      all_append (λ n. low ≤ n + 1) (numbers w.down) (numbers w.up)
      (each_number (λ n. low ≤ n + 1) w.down (all_on (IsDown any_made any_line any_row ends.heard w.sent) (λ x. low ≤ x.number + 1) w.down (λ x d. omega (arith, d.near)) o.well.down))
      (each_number (λ n. low ≤ n + 1) w.up (all_on (IsUp any_made any_line any_row w.sent) (λ x. low ≤ x.number + 1) w.up (λ x u. omega (arith, u.near)) o.well.up)) in
      record {
        low = low;
        numbers = numbers w.down ++ numbers w.up;
        some = omega (arith, many);
        rising = rising_from low (numbers w.down ++ numbers w.up) above o.order;
        few =
            all_append (λ n. n < low + 7) (numbers w.down) (numbers w.up)
            (each_number (λ n. n < low + 7) w.down (all_on (IsDown any_made any_line any_row ends.heard w.sent) (λ x. x.number < low + 7) w.down (λ x d. omega (arith, d.was_sent, many)) o.well.down))
            (each_number (λ n. n < low + 7) w.up (all_on (IsUp any_made any_line any_row w.sent) (λ x. x.number < low + 7) w.up (λ x u. omega (arith, u.was_sent, many)) o.well.up));
        ids = ap₂ (λ xs ys. xs ++ ys) (ids_down w.sent w.down o.well.down) (ids_up w.sent w.up o.well.up) ∙ sym (map-append (λ n. n % 8) (numbers w.down) (numbers w.up));
      }

  -- so the word isn't in flight
  pub order_lacks : (h : Harmed State) → HasOrder 7 (omega arith) ends Good kept is h → 8 ≤ length h.world.wire.sent → LacksTheWord (under_way_on h.world.wire)
  order_lacks h o many = rising_lack_the_word (under_way_on h.world.wire) (rising_ids h o many)
