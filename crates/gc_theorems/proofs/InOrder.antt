-- Requests are executed in the order of sending, whatever is damaged: the numbers of those in flight never fall from front to back, and no
-- later one is below one that has reached the instrument.
use Rattle.gc_theorems.proofs.Common.{◌≡◌, inl, inr, ℕ, ◌+◌, ◌<◌, ◌≤◌, Bool, true, false, List, [], ◌∷◌, ◌++◌, length, Option, Some, None, refl, sym, ◌∙◌, ap, subst, arith, append-nil, ltb, length_push, Asked, asked_line, ById, Sending, sends, by_ids, Rising, numbers, rising_lower, rising_without, rising_doubled, rising_moved, cons_head, cuts_on, one_front_begins_other, Numbered, Request, Sent, Ends, World, Wire, Step, Send, Up_deliver, Up_lose, Up_repeat, Down_deliver, Down_lose, Down_repeat, Expire, Restart_client, Restart_instrument, Nothing, without, doubled, with_up, with_down, started, up_delivered, down_delivered, requested, client_restarted, instrument_restarted, happens, UnderWay, of_eighth, Move, Sends, Tells, Comes, Foreign, OnLine, Anew, Changes, Joins, moves, wire_joined, Harm, Does, Damages, Strikes, Harmed, harms, harmed, harm_begun, WasMadeAmid}
use Rattle.std.proofs.lemmas.List.{length-append}

-- where ns and then n never fall, they still don't with a number k behind that isn't below n
rising_behind : (low n k : ℕ) (ns : List ℕ) → n ≤ k → Rising low (ns ++ n ∷ []) → Rising low (ns ++ n ∷ k ∷ [])
rising_behind low n k [] le h = (h.0, (omega (arith, le), tt))
rising_behind low n k (m ∷ ns) le h = (h.0, rising_behind (m + 1) n k ns le h.1)

-- the numbers of lines of the eighth null procedure, and 8, never fall
rising_eighth : (low : ℕ) (xs : List Request) → low ≤ 8 → Rising low (numbers (of_eighth xs) ++ 8 ∷ [])
rising_eighth low [] le = (omega (arith, le), tt)
rising_eighth low (x ∷ xs) le = (omega (arith, le), rising_eighth 8 xs (omega arith))

module _ {State : Type 0} (low : ℕ) where
  -- the numbers of the requests in flight, and that of the next one, never fall
  abbrev Rises : Wire State → Type 0
  Rises w = Rising low (numbers w.up ++ length w.sent ∷ [])

  -- it stays so with this queue of requests, if that never falls, either, or (`b` is false) without it
  rises_with_up : (v : Wire State) (up : List (Numbered Request)) (b : Bool) → Rising low (numbers up ++ length v.sent ∷ []) → Rises v → Rises (with_up v up b)
  rises_with_up v up true g h = g
  rises_with_up v up false g h = h

  -- it stays so with this queue of replies, or without it
  rises_with_down : (v : Wire State) (down : List (Numbered (List ℕ))) (b : Bool) → Rises v → Rises (with_down v down b)
  rises_with_down v down true h = h
  rises_with_down v down false h = h

  -- it stays so when the front request, if there is one, reaches the instrument
  rises_up : (ends : Ends State) (v : Wire State) (q : List (Numbered Request)) → v.up ≡ q → Rises v → Rises (up_delivered ends v q)
  rises_up ends v [] e h = h
  rises_up ends v (x ∷ rest) e h =
      let g : Rising low (numbers (x ∷ rest) ++ length v.sent ∷ []) = subst (λ (l : List (Numbered Request)). Rising low (numbers l ++ length v.sent ∷ [])) e h in
      rising_lower low (x.number + 1) (numbers rest ++ length v.sent ∷ []) g.0 g.1

  -- it stays so when the first two requests reach it as one line
  rises_joined : (v : Wire State) (q : List (Numbered Request)) (line : List ℕ) → v.up ≡ q → Rises v → Rises (wire_joined v q line)
  rises_joined v [] line e h = h
  rises_joined v (x ∷ []) line e h = h
  rises_joined v (x ∷ y ∷ rest) line e h =
      let g : Rising low (numbers (x ∷ y ∷ rest) ++ length v.sent ∷ []) = subst (λ (l : List (Numbered Request)). Rising low (numbers l ++ length v.sent ∷ [])) e h in
      rising_lower low (y.number + 1) (numbers rest ++ length v.sent ∷ []) (omega (arith, g.0, g.1.0)) g.1.1

  module _ (width : ℕ) (ends : Ends State) where
    -- it stays so when a request is sent, or refused
    rises_sent : (w : World (ById Asked) State) (target : ℕ) (call : Asked) (o : Option (Sending (ById Asked))) → Rises w.wire → Rises (requested w target call o).wire
    rises_sent w target call None h = h
    rises_sent w target call (Some x) h =
        let v = w.wire in
        let r : Sent = record { target = target; call = call; line = asked_line (Some x.id) call } in
        let n = length_push v.sent r in
        rising_moved low (length v.sent) (record { id = x.id; call = call }) v.up (length (v.sent ++ r ∷ []) ∷ [])
        (rising_behind low (length v.sent) (length (v.sent ++ r ∷ [])) (numbers v.up) (omega (arith, n)) h)

    -- it stays so when the front reply, if there is one, comes
    rises_down : (w : World (ById Asked) State) (q : List (Numbered (List ℕ))) → Rises w.wire → Rises (down_delivered (by_ids width ends) w q).wire
    rises_down w [] h = h
    rises_down w (x ∷ rest) h = h

    -- it stays so when the client starts again
    rises_client : (w : World (ById Asked) State) (up : List (Numbered Request)) (down : List (Numbered (List ℕ))) → Rises w.wire → Rises (client_restarted ends (by_ids width ends) w up down).wire
    rises_client w [] [] h = by_case ends.joint where
      -- with the instrument (`b`), or alone
      by_case : (b : Bool) → Rises (started ends w.wire b)
      by_case true = h
      by_case false = h
    rises_client w [] (y ∷ down) h = h
    rises_client w (x ∷ up) down h = h

    -- it stays so when the instrument starts again
    rises_instrument : (v : Wire State) (up : List (Numbered Request)) (down : List (Numbered (List ℕ))) → Rises v → Rises (instrument_restarted ends v up down)
    rises_instrument v [] [] h = h
    rises_instrument v [] (y ∷ down) h = h
    rises_instrument v (x ∷ up) down h = h

    -- it stays so at a step of the world
    rises_line : (w : World (ById Asked) State) (step : Step) → Rises w.wire → Rises (happens ends (by_ids width ends) w step).wire
    rises_line w (Send target call deadline) h = rises_sent w target call (sends width w.client target call deadline) h
    rises_line w Up_deliver h = rises_up ends w.wire w.wire.up refl h
    rises_line w (Up_lose i) h = rises_with_up w.wire (without i w.wire.up) (ltb i (length w.wire.up)) (rising_without low i w.wire.up (length w.wire.sent ∷ []) h) h
    rises_line w (Up_repeat i) h = rises_with_up w.wire (doubled i w.wire.up) (ltb i (length w.wire.up)) (rising_doubled low i w.wire.up (length w.wire.sent ∷ []) h) h
    rises_line w Down_deliver h = rises_down w w.wire.down h
    rises_line w (Down_lose i) h = rises_with_down w.wire (without i w.wire.down) (ltb i (length w.wire.down)) h
    rises_line w (Down_repeat i) h = rises_with_down w.wire (doubled i w.wire.down) (ltb i (length w.wire.down)) h
    rises_line w (Expire now) h = h
    rises_line w Restart_client h = rises_client w w.wire.up w.wire.down h
    rises_line w Restart_instrument h = rises_instrument w.wire w.wire.up w.wire.down h
    rises_line w Nothing h = h

    -- it stays so at a move
    rises_move : (w : World (ById Asked) State) (move : Move State) → Rises w.wire → Rises (moves ends (by_ids width ends) w move).wire
    rises_move w (Sends target call deadline) h = rises_sent w target call (sends width w.client target call deadline) h
    rises_move w (Tells now) h = h
    rises_move w (Comes line) h = rises_down w w.wire.down h
    rises_move w (Foreign line) h = h
    rises_move w (OnLine step) h = rises_line w step h
    rises_move w Anew h = h
    rises_move w (Changes state) h = h
    rises_move w (Joins line) h = rises_joined w.wire w.wire.up line refl h

    -- it stays so at a step, with damage
    rises_harm : (g : Harmed State) (m : Harm State) → Rises g.world.wire → Rises (harms width ends g m).world.wire
    rises_harm g (Does move) h = rises_move g.world move h
    rises_harm g (Damages line) h = h
    rises_harm g (Strikes id call) h = h

    -- it stays so at these steps
    rises_all : (ms : List (Harm State)) (g : Harmed State) → Rises g.world.wire → Rises (harmed width ends ms g).world.wire
    rises_all [] g h = h
    rises_all (m ∷ ms) g h = rises_all ms (harms width ends g m) (rises_harm g m h)

module _ {State : Type 0} (width : ℕ) (ends : Ends State) where
  -- what steps in a row do
  harmed_append : (front later : List (Harm State)) (h : Harmed State) → harmed width ends (front ++ later) h ≡ harmed width ends later (harmed width ends front h)
  harmed_append [] later h = refl
  harmed_append (m ∷ front) later h = harmed_append front later (harms width ends h m)

  -- once the front request reached the instrument, no number in flight is below its own
  rises_delivered : (low : ℕ) (g : Harmed State) (x : Numbered Request) (rest : List (Numbered Request)) → g.world.wire.up ≡ x ∷ rest → Rises low g.world.wire
      → Rises (x.number + 1) (harms width ends g (Does (OnLine Up_deliver))).world.wire
  rises_delivered low g x rest e h =
      subst (λ l. Rises (x.number + 1) (up_delivered ends g.world.wire l)) (sym e)
      (subst (λ (l : List (Numbered Request)). Rising low (numbers l ++ length g.world.wire.sent ∷ [])) e h).1

  module _ (start : Harmed State) (ms : List (Harm State)) (m n : ℕ) (call_m call_n : Asked) (line_m line_n : List ℕ) (rises : Rises 0 start.world.wire) (less : m < n)
      (f : WasMadeAmid width ends start ms m call_m line_m) (h : WasMadeAmid width ends start ms n call_n line_n) where
    -- where no number in flight is below `low` - 1, that of the front request isn't
    front_number : (low : ℕ) (w : Wire State) (x : Numbered Request) (rest : List (Numbered Request)) → w.up ≡ x ∷ rest → Rises low w → low ≤ x.number + 1
    front_number low w x rest e r = (subst (λ (l : List (Numbered Request)). Rising low (numbers l ++ length w.sent ∷ [])) e r).0

    -- the two requests don't reach the instrument at one step
    not_at_once : f.front ≡ h.front → ⊥
    not_at_once e =
        let x : Numbered Request = record { number = m; line = record { id = f.id; call = call_m } } in
        let y : Numbered Request = record { number = n; line = record { id = h.id; call = call_n } } in
        let up : x ∷ f.rest ≡ y ∷ h.rest = sym f.reaches ∙ ap (λ l. (harmed width ends l start).world.wire.up) e ∙ h.reaches in
        let same : m ≡ n = ap (λ (z : Numbered Request). z.number) (cons_head x y f.rest h.rest up) in
        omega (arith, same, less)

    -- the later one doesn't reach it first
    not_first : (between : List (Harm State)) → f.front ≡ h.front ++ Does (OnLine Up_deliver) ∷ between → ⊥
    not_first between e =
        let g = harmed width ends h.front start in
        let r = rises_delivered 0 g (record { number = n; line = record { id = h.id; call = call_n } }) h.rest h.reaches (rises_all 0 width ends h.front start rises) in
        let there = rises_all (n + 1) width ends between (harms width ends g (Does (OnLine Up_deliver))) r in
        let same : harmed width ends f.front start ≡ harmed width ends between (harms width ends g (Does (OnLine Up_deliver))) =
        ap (λ l. harmed width ends l start) e ∙ harmed_append h.front (Does (OnLine Up_deliver) ∷ between) start in
        let low = front_number (n + 1) (harmed width ends f.front start).world.wire (record { number = m; line = record { id = f.id; call = call_m } }) f.rest f.reaches
        (subst (λ (k : Harmed State). Rises (n + 1) k.world.wire) (sym same) there) in
        omega (arith, low, less)

    -- of two lines that were made on executing requests m and n, of which m was sent first, that of m was made first
    pub made_in_order : (between : List (Harm State)) × (h.front ≡ f.front ++ Does (OnLine Up_deliver) ∷ between)
    made_in_order = elim (one_front_begins_other f.front (Does (OnLine Up_deliver) ∷ f.later) h.front (Does (OnLine Up_deliver) ∷ h.later) (sym f.split ∙ h.split)) [
      | inl more ↦ later more.0 more.1
      | inr more ↦ absurd (earlier more.0 more.1)
    ] where
      -- if the later front has these steps more
      later : (more : List (Harm State)) → h.front ≡ f.front ++ more → (between : List (Harm State)) × (h.front ≡ f.front ++ Does (OnLine Up_deliver) ∷ between)
      later [] e = absurd (not_at_once (sym (e ∙ append-nil f.front)))
      later (s ∷ more) e =
          let size : length h.front ≡ length f.front + length (s ∷ more) = ap length e ∙ length-append f.front (s ∷ more) in
          let cut = cuts_on f.front h.front f.later h.later (Does (OnLine Up_deliver)) (Does (OnLine Up_deliver)) (sym f.split ∙ h.split) (omega (arith, size)) in
          (cut.between, cut.goes_on)

      -- it doesn't have fewer
      earlier : (more : List (Harm State)) → f.front ≡ h.front ++ more → ⊥
      earlier [] e = not_at_once (e ∙ append-nil h.front)
      earlier (s ∷ more) e =
          let size : length f.front ≡ length h.front + length (s ∷ more) = ap length e ∙ length-append h.front (s ∷ more) in
          let cut = cuts_on h.front f.front h.later f.later (Does (OnLine Up_deliver)) (Does (OnLine Up_deliver)) (sym h.split ∙ f.split) (omega (arith, size)) in
          not_first cut.between cut.goes_on

  -- at the end of a synchronization the numbers in flight never fall
  pub rises_begun : (u : UnderWay State) → Rises 0 (harm_begun width ends u).world.wire
  rises_begun u = rising_eighth 0 u.up (omega arith)
