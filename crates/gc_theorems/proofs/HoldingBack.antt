-- Holding back in the field: each send is fresh, if no two lines in a row that settle something are damaged.
use Rattle.gc_theorems.proofs.Common.{◌≡◌, ℕ, ◌+◌, ◌-◌, ◌%◌, ◌<◌, ◌≤◌, ◌⊎◌, inl, inr, Bool, true, false, List, [], ◌∷◌, ◌++◌, length, Option, Some, refl, sym, ◌∙◌, ap, subst, arith, eqb, ltb, AllByRecursion, length_push, ltb-true, ltb-false, true≢false, same_Some, all_append, every_weaker as all_on, Asked, asked_line, hears, place, send_unless_full, KeptReply, by_ids, Rising, numbers, Numbered, Request, Sent, Ends, Step, Send, Up_deliver, Up_lose, Up_repeat, Down_deliver, Down_lose, Down_repeat, Expire, Restart_client, Restart_instrument, Nothing, without, doubled, up_delivered, with_up, with_down, on_wire, requested, down_delivered, each_number, each_without, each_doubled, rising_each, rising_lower, rising_tail, rising_without, rising_doubled, rising_without_behind, rising_doubled_behind, rising_moved, rising_push, Move, Sends, Tells, Comes, Foreign, OnLine, Anew, Changes, Joins, IsLineStep, UnderWay, IsClean, IsAnInstrument, Harm, Does, Damages, Strikes, Harmed, last_by_step, harms, harmed, harm_begun, AllowsSend, IsCleanBut, IsFreshIfSent, MayDo, MayHarm, AllMayHarm, no_line, IsFreshAndOwn, Holding, ended, last_if, undamaged_if, holding_moves, holding_harms, holding_begun, HasRoomIfSent, MayDoApart, MayHarmApart, AllMayHarmApart}
use Rattle.gc_theorems.proofs.BegunFaithful.{each_of_eighth}
use Rattle.gc_theorems.proofs.Well.{IsUp, IsDown, Well, KnownOf, fresh_place, well_begun, well_harm}
use Rattle.gc_theorems.proofs.Own.{own_or_damaged}
use Rattle.gc_theorems.proofs.WithoutDamage.{any_line, any_made, any_row, count_by, rising_eighth, rising_front}
use Rattle.gc_theorems.proofs.Rarely.{each_both, rising_back}

-- Numbers.

-- the count of settled requests is past request y by at most what the last settlement ended, and not at all if that was by an undamaged
-- line
pub record IsClose (count last : ℕ) (undamaged : Bool) (y : ℕ) : Type 0 where
  pub close : count ≤ y + 1 + last
  pub closest : undamaged ≡ true → count ≤ y + 1

-- it stays so once an undamaged line of request `number` came, which isn't after y
close_came : (count after last number : ℕ) (undamaged some : Bool) (y : ℕ) → ltb 0 (after - count) ≡ some → (after ≡ count) ⊎ (after ≡ number + 1) → count ≤ after → number ≤ y
    → IsClose count last undamaged y → IsClose after (last_if some (after - count) last) (undamaged_if some true undamaged) y
close_came count after last number undamaged true y e (inl same) le n h = let more : 0 < after - count = ltb-true _ _ e in absurd (omega (arith, more, same))
close_came count after last number undamaged true y e (inr one) le n h = record { close = omega (arith, one, n); closest = λ t. omega (arith, one, n) }
close_came count after last number undamaged false y e o le n h =
    let none : after - count ≤ 0 = ltb-false _ _ e in
    let same : after ≡ count = omega (arith, none, le) in
    record { close = omega (arith, same, h.close); closest = λ t. let c = h.closest t in omega (arith, same, c) }

-- it stays so once a damaged line came that settled nothing, or before which an undamaged one had settled last
close_damaged : (count after last : ℕ) (undamaged some : Bool) (y : ℕ) → ltb 0 (after - count) ≡ some → (after - count ≡ 0) ⊎ (undamaged ≡ true) → count ≤ after
    → IsClose count last undamaged y → IsClose after (last_if some (after - count) last) (undamaged_if some false undamaged) y
close_damaged count after last undamaged true y e (inl none) le h = let more : 0 < after - count = ltb-true _ _ e in absurd (omega (arith, more, none))
close_damaged count after last undamaged true y e (inr t) le h = let c = h.closest t in record { close = omega (arith, c, le); closest = λ f. absurd (true≢false (sym f)) }
close_damaged count after last undamaged false y e o le h =
    let none : after - count ≤ 0 = ltb-false _ _ e in
    let same : after ≡ count = omega (arith, none, le) in
    record { close = omega (arith, same, h.close); closest = λ t. let c = h.closest t in omega (arith, same, c) }

-- the invariant: numbers never fall; the request handed last is between the replies and the requests in flight; and the count is close
-- to each line in flight, and to that request
pub record InOrder {State : Type 0} (h : Harmed State) (last : ℕ) (undamaged : Bool) : Type 0 where
  pub n : ℕ
  pub is_last : h.last ≡ Some n
  pub was_sent : n < length h.world.wire.sent
  pub order : Rising 0 (numbers h.world.wire.down ++ numbers h.world.wire.up)
  pub below : AllByRecursion (λ x. x.number ≤ n) h.world.wire.down
  pub above : AllByRecursion (λ x. n ≤ x.number) h.world.wire.up
  pub close : IsClose (length h.world.wire.settled) last undamaged n
  pub close_up : AllByRecursion (λ x. IsClose (length h.world.wire.settled) last undamaged x.number) h.world.wire.up
  pub close_down : AllByRecursion (λ x. IsClose (length h.world.wire.settled) last undamaged x.number) h.world.wire.down

module _ {State : Type 0} (width : ℕ) (narrow : width ≤ 7) (ends : Ends State) (Good : State → Type 0) (kept : State → Option KeptReply) (is : IsAnInstrument ends Good kept) where
  -- the invariant of `Own`, where nothing is said of what was made
  abbrev pub AnyWell : Harmed State → Type 0
  AnyWell h = Well any_made any_line any_row width narrow ends Good kept is h

  -- a send for which there is room is fresh
  fresh_if_room : (r : Holding State) (target : ℕ) (call : Asked) (deadline : ℕ) (full : Bool) → eqb (length r.harmed.world.client.waiting) width ≡ full
      → HasRoomIfSent width ends Good kept r call (send_unless_full r.harmed.world.client target call deadline full) → AnyWell r.harmed → InOrder r.harmed r.last r.undamaged
      → IsFreshIfSent width ends Good kept r.harmed call (send_unless_full r.harmed.world.client target call deadline full)
  fresh_if_room r target call deadline true e p w o = tt
  fresh_if_room r target call deadline false e p w o =
      let v = r.harmed.world.wire in
      let room = p.1 in
      let allows : (y : ℕ) → IsClose (length v.settled) r.last r.undamaged y → AllowsSend (length v.sent) y = λ y close. omega (arith, w.all, room, close.close) in
      record {
        own = p.0;
        up = all_on (λ x. IsClose (length v.settled) r.last r.undamaged x.number) (λ x. AllowsSend (length v.sent) x.number) v.up (λ x. allows x.number) o.close_up;
        down = all_on (λ x. IsClose (length v.settled) r.last r.undamaged x.number) (λ x. AllowsSend (length v.sent) x.number) v.down (λ x. allows x.number) o.close_down;
        keeps = λ reply n e l.
            let same : o.n ≡ n = same_Some _ _ (sym o.is_last ∙ l) in
            subst (λ n. AllowsSend (length v.sent) n) same (allows o.n o.close);
      }

  -- order is kept by a send
  order_sent : (h : Harmed State) (last : ℕ) (undamaged : Bool) (target : ℕ) (call : Asked) (deadline : ℕ) (full : Bool) → AnyWell h → InOrder h last undamaged
      → InOrder (record { world = requested h.world target call (send_unless_full h.world.client target call deadline full); last = h.last }) last undamaged
  order_sent h last undamaged target call deadline true w o =
      record { n = o.n; is_last = o.is_last; was_sent = o.was_sent; order = o.order; below = o.below; above = o.above; close = o.close; close_up = o.close_up; close_down = o.close_down }
  order_sent h last undamaged target call deadline false w o =
      let v = h.world.wire in
      let r : Sent = record { target = target; call = call; line = asked_line (Some h.world.client.next) call } in
      let size : length (v.sent ++ r ∷ []) ≡ length v.sent + 1 = length_push v.sent r in
      let m = length v.sent in
      let new : IsClose (length v.settled) last undamaged m = record { close = omega (arith, w.all); closest = λ t. omega (arith, w.all) } in
      record {
        n = o.n;
        is_last = o.is_last;
        was_sent = omega (arith, o.was_sent, size);
        order =
            rising_push 0 m _ (numbers v.down) v.up (omega arith)
            (all_append (λ n. n < m) (numbers v.down) (numbers v.up)
            (each_number (λ n. n < m) v.down (all_on (IsDown any_made any_line any_row ends.heard v.sent) (λ x. x.number < m) v.down (λ x d. d.was_sent) w.down))
            (each_number (λ n. n < m) v.up (all_on (IsUp any_made any_line any_row v.sent) (λ x. x.number < m) v.up (λ x u. u.was_sent) w.up))) o.order;
        below = o.below;
        above = all_append (λ x. o.n ≤ x.number) v.up _ o.above (omega (arith, o.was_sent), tt);
        close = o.close;
        close_up = all_append (λ x. IsClose (length v.settled) last undamaged x.number) v.up _ o.close_up (new, tt);
        close_down = o.close_down;
      }

  -- it is kept if the front request reaches the instrument
  order_reached : (h : Harmed State) (last : ℕ) (undamaged : Bool) (q : List (Numbered Request)) → h.world.wire.up ≡ q → AnyWell h → InOrder h last undamaged
      → InOrder (record { world = on_wire h.world (up_delivered ends h.world.wire q); last = last_by_step h.last Up_deliver q }) last undamaged
  order_reached h last undamaged [] e w o =
      record { n = o.n; is_last = o.is_last; was_sent = o.was_sent; order = o.order; below = o.below; above = o.above; close = o.close; close_up = o.close_up; close_down = o.close_down }
  order_reached h last undamaged (x ∷ rest) e w o =
      let v = h.world.wire in
      let u = subst (λ q. AllByRecursion (IsUp any_made any_line any_row v.sent) q) e w.up in
      let a = subst (λ q. AllByRecursion (λ x. o.n ≤ x.number) q) e o.above in
      let c = subst (λ q. AllByRecursion (λ x. IsClose (length v.settled) last undamaged x.number) q) e o.close_up in
      let order = subst (λ q. Rising 0 (numbers v.down ++ numbers q)) e o.order in
      let tail = rising_tail 0 x.number (numbers v.down) (numbers rest) order in
      record {
        n = x.number;
        is_last = refl;
        was_sent = u.0.was_sent;
        order = rising_moved 0 x.number _ v.down (numbers rest) order;
        below = all_append (λ y. y.number ≤ x.number) v.down _ (all_on (λ y. y.number ≤ o.n) (λ y. y.number ≤ x.number) v.down (λ y le. omega (arith, le, a.0)) o.below) (omega arith, tt);
        above = all_on (λ y. x.number + 1 ≤ y.number + 1) (λ y. x.number ≤ y.number) rest (λ y le. omega (arith, le)) (rising_each (x.number + 1) rest tail.1);
        close = c.0;
        close_up = c.1;
        close_down = all_append (λ x. IsClose (length v.settled) last undamaged x.number) v.down _ o.close_down (c.0, tt);
      }

  -- what a line settles: none or some, and no fewer are settled then
  grows : (h : Harmed State) (line : List ℕ) → length h.world.wire.settled ≤ length (h.world.wire.settled ++ (hears h.world.client line (ends.heard line)).settlements)
  grows h line = elim (count_by width narrow ends Good kept is h line (ends.heard line)) [
    | inl same ↦ omega (arith, same)
    | inr more ↦ omega (arith, more.3)
  ]

  -- it is kept if no reply is in flight
  order_none : (h : Harmed State) (last : ℕ) (undamaged some : Bool) → ltb 0 (length h.world.wire.settled - length h.world.wire.settled) ≡ some → InOrder h last undamaged
      → InOrder h (last_if some (length h.world.wire.settled - length h.world.wire.settled) last) (undamaged_if some true undamaged)
  order_none h last undamaged true e o = let more : 0 < length h.world.wire.settled - length h.world.wire.settled = ltb-true _ _ e in absurd (omega (arith, more))
  order_none h last undamaged false e o = o

  -- it is kept if the front reply comes
  order_came : (h : Harmed State) (last : ℕ) (undamaged : Bool) (q : List (Numbered (List ℕ))) → h.world.wire.down ≡ q → AnyWell h → InOrder h last undamaged
      → InOrder (record { world = down_delivered (by_ids width ends) h.world q; last = h.last })
      (last_if (ltb 0 (length (down_delivered (by_ids width ends) h.world q).wire.settled - length h.world.wire.settled)) (length (down_delivered (by_ids width ends) h.world q).wire.settled - length h.world.wire.settled) last)
      (undamaged_if (ltb 0 (length (down_delivered (by_ids width ends) h.world q).wire.settled - length h.world.wire.settled)) true undamaged)
  order_came h last undamaged [] e w o =
      let p = order_none h last undamaged (ltb 0 (length h.world.wire.settled - length h.world.wire.settled)) refl o in
      record { n = p.n; is_last = p.is_last; was_sent = p.was_sent; order = p.order; below = p.below; above = p.above; close = p.close; close_up = p.close_up; close_down = p.close_down }
  order_came h last undamaged (x ∷ rest) e w o =
      let v = h.world.wire in
      let c = h.world.client in
      let d = subst (λ q. AllByRecursion (IsDown any_made any_line any_row ends.heard v.sent) q) e w.down in
      let b = subst (λ q. AllByRecursion (λ x. x.number ≤ o.n) q) e o.below in
      let cd = subst (λ q. AllByRecursion (λ x. IsClose (length v.settled) last undamaged x.number) q) e o.close_down in
      let order = subst (λ q. Rising 0 (numbers q ++ numbers v.up)) e o.order in
      let count = length (v.settled ++ (hears c x.line (ends.heard x.line)).settlements) in
      let after : (count ≡ length v.settled) ⊎ (count ≡ x.number + 1) = elim (count_by width narrow ends Good kept is h x.line (ends.heard x.line)) [
        | inl same ↦ inl same
        | inr more ↦
            let same : more.0 ≡ x.number % 8 = same_Some _ _ (sym more.1 ∙ d.0.id) in
            let at : length v.settled + place c.next (length c.waiting) more.0 ≡ x.number =
            fresh_place c.next (length c.waiting) (length v.settled) (length v.sent) x.number (place c.next (length c.waiting) more.0)
            w.ids w.all (omega (arith, w.few, narrow)) d.0.was_sent d.0.near (ap (place c.next (length c.waiting)) same) more.2 in
            inr (omega (arith, more.3, at))
      ] in
      let some = ltb 0 (count - length v.settled) in
      let still : (y : ℕ) → x.number ≤ y → IsClose (length v.settled) last undamaged y → IsClose count (last_if some (count - length v.settled) last) (undamaged_if some true undamaged) y =
      λ y le g. close_came (length v.settled) count last x.number undamaged some y refl after (grows h x.line) le g in
      record {
        n = o.n;
        is_last = o.is_last;
        was_sent = o.was_sent;
        order = rising_lower 0 (x.number + 1) (numbers rest ++ numbers v.up) (omega arith) order.1;
        below = b.1;
        above = o.above;
        close = still o.n b.0 o.close;
        close_up =
            each_both (λ y. x.number + 1 ≤ y.number + 1) (λ y. IsClose (length v.settled) last undamaged y.number) (λ y. IsClose count (last_if some (count - length v.settled) last) (undamaged_if some true undamaged) y.number)
            (λ y le g. still y.number (omega (arith, le)) g) v.up (rising_back (x.number + 1) rest v.up order.1) o.close_up;
        close_down =
            each_both (λ y. x.number + 1 ≤ y.number + 1) (λ y. IsClose (length v.settled) last undamaged y.number) (λ y. IsClose count (last_if some (count - length v.settled) last) (undamaged_if some true undamaged) y.number)
            (λ y le g. still y.number (omega (arith, le)) g) rest (rising_front (x.number + 1) rest v.up order.1) cd.1;
      }

  -- it is kept if a damaged line comes that settles nothing, or before which an undamaged one had settled last
  order_damaged : (r : Holding State) (line : List ℕ) → (ended r.harmed (harms width ends r.harmed (Damages line)) ≡ 0) ⊎ (r.undamaged ≡ true) → AnyWell r.harmed → InOrder r.harmed r.last r.undamaged
      → InOrder (holding_harms width ends r (Damages line)).harmed (holding_harms width ends r (Damages line)).last (holding_harms width ends r (Damages line)).undamaged
  order_damaged r line p w o =
      let v = r.harmed.world.wire in
      let count = length (v.settled ++ (hears r.harmed.world.client line (ends.heard line)).settlements) in
      let some = ltb 0 (count - length v.settled) in
      let still : (y : ℕ) → IsClose (length v.settled) r.last r.undamaged y → IsClose count (last_if some (count - length v.settled) r.last) (undamaged_if some false r.undamaged) y =
      λ y g. close_damaged (length v.settled) count r.last r.undamaged some y refl p (grows r.harmed line) g in
      record {
        n = o.n;
        is_last = o.is_last;
        was_sent = o.was_sent;
        order = o.order;
        below = o.below;
        above = o.above;
        close = still o.n o.close;
        close_up = all_on (λ x. IsClose (length v.settled) r.last r.undamaged x.number) (λ x. IsClose count (last_if some (count - length v.settled) r.last) (undamaged_if some false r.undamaged) x.number) v.up (λ x g. still x.number g) o.close_up;
        close_down = all_on (λ x. IsClose (length v.settled) r.last r.undamaged x.number) (λ x. IsClose count (last_if some (count - length v.settled) r.last) (undamaged_if some false r.undamaged) x.number) v.down (λ x g. still x.number g) o.close_down;
      }

  -- it is kept by other queues
  order_up : (h : Harmed State) (last : ℕ) (undamaged : Bool) (up : List (Numbered Request)) (b : Bool) → (o : InOrder h last undamaged) → Rising 0 (numbers h.world.wire.down ++ numbers up)
      → AllByRecursion (λ x. o.n ≤ x.number) up → AllByRecursion (λ x. IsClose (length h.world.wire.settled) last undamaged x.number) up → InOrder (record { world = on_wire h.world (with_up h.world.wire up b); last = h.last }) last undamaged
  order_up h last undamaged up false o r a c =
      record { n = o.n; is_last = o.is_last; was_sent = o.was_sent; order = o.order; below = o.below; above = o.above; close = o.close; close_up = o.close_up; close_down = o.close_down }
  order_up h last undamaged up true o r a c =
      record { n = o.n; is_last = o.is_last; was_sent = o.was_sent; order = r; below = o.below; above = a; close = o.close; close_up = c; close_down = o.close_down }

  -- order is kept by another downward queue, if that is possible (`b`)
  order_down : (h : Harmed State) (last : ℕ) (undamaged : Bool) (down : List (Numbered (List ℕ))) (b : Bool) → (o : InOrder h last undamaged) → Rising 0 (numbers down ++ numbers h.world.wire.up)
      → AllByRecursion (λ x. x.number ≤ o.n) down → AllByRecursion (λ x. IsClose (length h.world.wire.settled) last undamaged x.number) down → InOrder (record { world = on_wire h.world (with_down h.world.wire down b); last = h.last }) last undamaged
  order_down h last undamaged down false o r a c =
      record { n = o.n; is_last = o.is_last; was_sent = o.was_sent; order = o.order; below = o.below; above = o.above; close = o.close; close_up = o.close_up; close_down = o.close_down }
  order_down h last undamaged down true o r a c =
      record { n = o.n; is_last = o.is_last; was_sent = o.was_sent; order = r; below = a; above = o.above; close = o.close; close_up = o.close_up; close_down = c }

  -- it is kept by a step of the line
  order_step : (h : Harmed State) (last : ℕ) (undamaged : Bool) (step : Step) → IsLineStep step → AnyWell h → InOrder h last undamaged → InOrder (harms width ends h (Does (OnLine step))) last undamaged
  order_step h last undamaged (Send target call deadline) p w o = absurd p
  order_step h last undamaged Up_deliver p w o = order_reached h last undamaged h.world.wire.up refl w o
  order_step h last undamaged (Up_lose j) p w o =
      order_up h last undamaged (without j h.world.wire.up) (ltb j (length h.world.wire.up)) o (rising_without_behind 0 j (numbers h.world.wire.down) h.world.wire.up o.order) (each_without _ j h.world.wire.up o.above) (each_without _ j h.world.wire.up o.close_up)
  order_step h last undamaged (Up_repeat j) p w o =
      order_up h last undamaged (doubled j h.world.wire.up) (ltb j (length h.world.wire.up)) o (rising_doubled_behind 0 j (numbers h.world.wire.down) h.world.wire.up o.order) (each_doubled _ j h.world.wire.up o.above) (each_doubled _ j h.world.wire.up o.close_up)
  order_step h last undamaged Down_deliver p w o = absurd p
  order_step h last undamaged (Down_lose j) p w o =
      order_down h last undamaged (without j h.world.wire.down) (ltb j (length h.world.wire.down)) o (rising_without 0 j h.world.wire.down (numbers h.world.wire.up) o.order) (each_without _ j h.world.wire.down o.below) (each_without _ j h.world.wire.down o.close_down)
  order_step h last undamaged (Down_repeat j) p w o =
      order_down h last undamaged (doubled j h.world.wire.down) (ltb j (length h.world.wire.down)) o (rising_doubled 0 j h.world.wire.down (numbers h.world.wire.up) o.order) (each_doubled _ j h.world.wire.down o.below) (each_doubled _ j h.world.wire.down o.close_down)
  order_step h last undamaged (Expire now) p w o = absurd p
  order_step h last undamaged Restart_client p w o = absurd p
  order_step h last undamaged Restart_instrument p w o = absurd p
  order_step h last undamaged Nothing p w o =
      record { n = o.n; is_last = o.is_last; was_sent = o.was_sent; order = o.order; below = o.below; above = o.above; close = o.close; close_up = o.close_up; close_down = o.close_down }

  -- it is kept by a move
  order_move : (r : Holding State) (m : Move State) → MayDoApart width ends Good kept r m → AnyWell r.harmed → InOrder r.harmed r.last r.undamaged
      → InOrder (holding_moves width ends r m).harmed (holding_moves width ends r m).last (holding_moves width ends r m).undamaged
  order_move r (Sends target call deadline) p w o = order_sent r.harmed r.last r.undamaged target call deadline (eqb (length r.harmed.world.client.waiting) width) w o
  order_move r (Tells now) p w o =
      record { n = o.n; is_last = o.is_last; was_sent = o.was_sent; order = o.order; below = o.below; above = o.above; close = o.close; close_up = o.close_up; close_down = o.close_down }
  order_move r (Comes line) p w o = order_came r.harmed r.last r.undamaged r.harmed.world.wire.down refl w o
  order_move r (Foreign line) p w o = o
  order_move r (OnLine step) p w o = order_step r.harmed r.last r.undamaged step p w o
  order_move r Anew p w o =
      record { n = o.n; is_last = o.is_last; was_sent = o.was_sent; order = o.order; below = o.below; above = o.above; close = o.close; close_up = o.close_up; close_down = o.close_down }
  order_move r (Changes state) p w o =
      record { n = o.n; is_last = o.is_last; was_sent = o.was_sent; order = o.order; below = o.below; above = o.above; close = o.close; close_up = o.close_up; close_down = o.close_down }
  order_move r (Joins line) p w o = absurd p

  -- a move is possible, and fresh if it is a send
  may_do : (r : Holding State) (m : Move State) → MayDoApart width ends Good kept r m → AnyWell r.harmed → InOrder r.harmed r.last r.undamaged → MayDo width ends Good kept r.harmed m
  may_do r (Sends target call deadline) p w o = fresh_if_room r target call deadline (eqb (length r.harmed.world.client.waiting) width) refl p w o
  may_do r (Tells now) p w o = p
  may_do r (Comes line) p w o = p
  may_do r (Foreign line) p w o = p
  may_do r (OnLine step) p w o = p
  may_do r Anew p w o = p
  may_do r (Changes state) p w o = p
  may_do r (Joins line) p w o = p

  -- a step, and what it keeps
  may_harm : (r : Holding State) (m : Harm State) → MayHarmApart width ends Good kept r m → AnyWell r.harmed → InOrder r.harmed r.last r.undamaged → MayHarm width ends Good kept r.harmed m
  may_harm r (Does move) p w o = may_do r move p w o
  may_harm r (Damages line) p w o = tt
  may_harm r (Strikes id call) p w o = p

  -- a step keeps order
  order_harm : (r : Holding State) (m : Harm State) → MayHarmApart width ends Good kept r m → AnyWell r.harmed → InOrder r.harmed r.last r.undamaged
      → InOrder (holding_harms width ends r m).harmed (holding_harms width ends r m).last (holding_harms width ends r m).undamaged
  order_harm r (Does move) p w o = order_move r move p w o
  order_harm r (Damages line) p w o = order_damaged r line p w o
  order_harm r (Strikes id call) p w o =
      record { n = o.n; is_last = o.is_last; was_sent = o.was_sent; order = o.order; below = o.below; above = o.above; close = o.close; close_up = o.close_up; close_down = o.close_down }

  -- what a move does to the world
  moved_same : (r : Holding State) (m : Move State) → (holding_moves width ends r m).harmed ≡ harms width ends r.harmed (Does m)
  moved_same r (Sends target call deadline) = refl
  moved_same r (Tells now) = refl
  moved_same r (Comes line) = refl
  moved_same r (Foreign line) = refl
  moved_same r (OnLine step) = refl
  moved_same r Anew = refl
  moved_same r (Changes state) = refl
  moved_same r (Joins line) = refl

  -- what a step does to the world
  pub harmed_same : (r : Holding State) (m : Harm State) → (holding_harms width ends r m).harmed ≡ harms width ends r.harmed m
  harmed_same r (Does move) = moved_same r move
  harmed_same r (Damages line) = refl
  harmed_same r (Strikes id call) = refl

  -- nothing has to be known of a step
  nothing_told : (h : Harmed State) (m : Harm State) → KnownOf any_made any_line any_row width narrow ends Good kept is h m
  nothing_told h m = record { made = λ same x rest e id yes. tt; came = λ line n same le size. tt; again = λ like line n rest same down broken le size. tt; struck = λ id call same. tt }

  -- all these steps are fresh
  all_fresh : (ms : List (Harm State)) (r : Holding State) → AllMayHarmApart width ends Good kept ms r → AnyWell r.harmed → InOrder r.harmed r.last r.undamaged → AllMayHarm width ends Good kept ms r.harmed
  all_fresh [] r p w o = tt
  all_fresh (m ∷ ms) r p w o =
      let may = may_harm r m p.0 w o in
      let same = harmed_same r m in
      let next : AnyWell (holding_harms width ends r m).harmed = subst AnyWell (sym same) (well_harm any_made any_line any_row width narrow ends Good kept is r.harmed m may (nothing_told r.harmed m) w) in
      (may, subst (λ h. AllMayHarm width ends Good kept ms h) same (all_fresh ms (holding_harms width ends r m) p.1 next (order_harm r m p.0 w o)))

  -- the invariant of `Own` holds, and numbers never fall
  pub record HasOrder (h : Harmed State) : Type 0 where
    pub well : AnyWell h
    pub order : Rising 0 (numbers h.world.wire.down ++ numbers h.world.wire.up)

  -- so it is after all these steps
  order_all : (ms : List (Harm State)) (r : Holding State) → AllMayHarmApart width ends Good kept ms r → AnyWell r.harmed → InOrder r.harmed r.last r.undamaged → HasOrder (harmed width ends ms r.harmed)
  order_all [] r p w o = record { well = w; order = o.order }
  order_all (m ∷ ms) r p w o =
      let may = may_harm r m p.0 w o in
      let same = harmed_same r m in
      let next : AnyWell (holding_harms width ends r m).harmed = subst AnyWell (sym same) (well_harm any_made any_line any_row width narrow ends Good kept is r.harmed m may (nothing_told r.harmed m) w) in
      subst (λ h. HasOrder (harmed width ends ms h)) same (order_all ms (holding_harms width ends r m) p.1 next (order_harm r m p.0 w o))

  -- after a synchronization
  order_begun : (u : UnderWay State) → InOrder (harm_begun width ends u) 0 true
  order_begun u =
      let seven : IsClose 8 0 true 7 = record { close = omega arith; closest = λ t. omega arith } in
      record {
        n = 7;
        is_last = refl;
        was_sent = omega arith;
        order = rising_lower 0 8 _ (omega arith) (rising_eighth u.down u.up);
        below = each_of_eighth (λ x. x.number ≤ 7) (λ line. Unit {0}) (λ x e. omega arith) u.down (each_any u.down);
        above = each_of_eighth (λ x. 7 ≤ x.number) (λ x. Unit {0}) (λ x e. omega arith) u.up (each_any u.up);
        close = seven;
        close_up = each_of_eighth (λ x. IsClose 8 0 true x.number) (λ x. Unit {0}) (λ x e. seven) u.up (each_any u.up);
        close_down = each_of_eighth (λ x. IsClose 8 0 true x.number) (λ x. Unit {0}) (λ x e. seven) u.down (each_any u.down);
      }
    where
      -- of each element nothing is said
      each_any : {A : Type 0} (xs : List A) → AllByRecursion (λ x. Unit {0}) xs
      each_any [] = tt
      each_any (x ∷ xs) = (tt, each_any xs)

  -- holding back keeps each send fresh, after a synchronization that is clean but for a kept reply that is damaged
  pub fresh_if_held_back : (D : List ℕ → Type 0) (u : UnderWay State) → IsCleanBut D Good kept u → (ms : List (Harm State)) → AllMayHarmApart width ends Good kept ms (holding_begun width ends u)
      → AllMayHarm width ends Good kept ms (harm_begun width ends u)
  fresh_if_held_back D u clean ms p =
      let w = well_begun any_made any_line any_row width narrow ends Good kept is u (record { good = clean.good; up = clean.up; down = clean.down; keeps = λ k e. inr tt }) in
      all_fresh ms (holding_begun width ends u) p w (order_begun u)

  -- holding back keeps order, after such a synchronization
  pub order_if_held_back : (D : List ℕ → Type 0) (u : UnderWay State) → IsCleanBut D Good kept u → (ms : List (Harm State)) → AllMayHarmApart width ends Good kept ms (holding_begun width ends u)
      → HasOrder (harmed width ends ms (harm_begun width ends u))
  order_if_held_back D u clean ms p =
      let w = well_begun any_made any_line any_row width narrow ends Good kept is u (record { good = clean.good; up = clean.up; down = clean.down; keeps = λ k e. inr tt }) in
      order_all ms (holding_begun width ends u) p w (order_begun u)

  -- holding back keeps damage local
  pub held_back_is_local_in_field : (u : UnderWay State) → IsClean Good kept u → (ms : List (Harm State)) → AllMayHarmApart width ends Good kept ms (holding_begun width ends u) → IsFreshAndOwn width ends Good kept u ms
  held_back_is_local_in_field u clean ms p =
      let may = fresh_if_held_back no_line u (record { good = clean.good; up = clean.up; down = clean.down; keeps = λ k e. inl (clean.keeps k e) }) ms p in
      record { fresh = may; own = own_or_damaged width narrow ends Good kept is u clean ms may }
