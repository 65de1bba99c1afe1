-- Without damage each send is fresh: the line keeps order, and what was handed to the instrument is not before what is settled.
use Rattle.gc_theorems.proofs.Common.{◌≡◌, ℕ, ◌+◌, ◌%◌, ◌<◌, ◌≤◌, ◌⊎◌, inl, inr, Bool, true, false, List, [], ◌∷◌, ◌++◌, length, map, Option, Some, None, refl, sym, ◌∙◌, ap, subst, arith, length-append, ltb, eqb, append_assoc, AllByRecursion, length_push, ltb-true, eqb-false, same_Some, all_append, cons_tail, every_weaker as all_on, Asked, asked_line, is_of_table, hears, place, send_unless_full, settle, settles_at, length-settle, KeptReply, by_ids, Rising, numbers, Numbered, Request, Sent, Ends, Step, Send, Up_deliver, Up_lose, Up_repeat, Down_deliver, Down_lose, Down_repeat, Expire, Restart_client, Restart_instrument, Nothing, without, doubled, up_delivered, with_up, with_down, on_wire, requested, down_delivered, each_number, each_without, each_doubled, rising_each, rising_lower, rising_tail, rising_without, rising_doubled, rising_without_behind, rising_doubled_behind, rising_moved, rising_push, Move, Sends, Tells, Comes, Foreign, OnLine, Anew, Changes, Joins, IsLineStep, IsPossible, ArePossible, AsksTheTable, UnderWay, IsClean, ArePossibleOnceBegun, of_eighth, IsAnInstrument, Harm, Does, Damages, Strikes, Harmed, last_by_step, harms, harm_begun, AllowsSend, IsFreshIfSent, MayDo, AllMayHarm}
use Rattle.gc_theorems.proofs.BegunFaithful.{each_of_eighth}
use Rattle.gc_theorems.specs.WithoutDamage.{IsOwnWithoutDamage}
use Rattle.gc_theorems.proofs.Well.{IsUp, IsDown, Well, KnownOf, fresh_place, well_begun, well_move}
use Rattle.gc_theorems.proofs.Own.{own_or_damaged}

-- any line may have been made for any request: for what is said here it doesn't matter
abbrev pub any_made : ℕ → Asked → List ℕ → Type 0
any_made n call line = Unit {0}

-- any line may be damaged
abbrev pub any_line : List ℕ → Type 0
any_line line = Unit {0}

-- any request may have been settled by a damaged line
abbrev pub any_row : ℕ → List ℕ → Type 0
any_row n line = Unit {0}

-- the numbers of lines that all have number 7 never fall, from 7 on
pub rising_eighth : {A B : Type 0} (xs : List A) (ys : List B) → Rising 8 (numbers (of_eighth xs) ++ numbers (of_eighth ys))
rising_eighth [] [] = tt
rising_eighth {A = A} {B = B} [] (y ∷ ys) = (omega arith, rising_eighth {A = A} {B = B} [] ys)
rising_eighth (x ∷ xs) ys = (omega arith, rising_eighth xs ys)

-- what is in order of a world: the instrument was handed request n last; no reply in flight is to a later one, and no request in
-- flight is before it; what is settled isn't past it; and numbers never fall
pub record InOrder {State : Type 0} (h : Harmed State) : Type 0 where
  pub n : ℕ
  pub is_last : h.last ≡ Some n
  pub was_sent : n < length h.world.wire.sent
  pub order : Rising (length h.world.wire.settled) (numbers h.world.wire.down ++ numbers h.world.wire.up)
  pub below : AllByRecursion (λ x. x.number ≤ n) h.world.wire.down
  pub above : AllByRecursion (λ x. n ≤ x.number) h.world.wire.up
  pub counted : length h.world.wire.settled ≤ n + 1

-- where `Rising low` holds of the numbers of two queues, each of the first is at least low - 1
pub rising_front : {A B : Type 0} (low : ℕ) (xs : List (Numbered A)) (ys : List (Numbered B)) → Rising low (numbers xs ++ numbers ys) → AllByRecursion (λ x. low ≤ x.number + 1) xs
rising_front low [] ys h = tt
rising_front low (x ∷ xs) ys h = (h.0, all_on (λ z. x.number + 1 ≤ z.number + 1) (λ z. low ≤ z.number + 1) xs (λ z k. omega (arith, k, h.0)) (rising_front (x.number + 1) xs ys h.1))

module _ {State : Type 0} (width : ℕ) (narrow : width ≤ 7) (ends : Ends State) (Good : State → Type 0) (kept : State → Option KeptReply) (is : IsAnInstrument ends Good kept) where
  -- the invariant of `Own`, where nothing is said of what was made
  abbrev AnyWell : Harmed State → Type 0
  AnyWell h = Well any_made any_line any_row width narrow ends Good kept is h

  -- a line in flight whose number isn't before what is settled allows a send that isn't refused
  allows_send : (h : Harmed State) (n : ℕ) → AnyWell h → (length h.world.client.waiting ≡ width → ⊥) → length h.world.wire.settled ≤ n + 1 → AllowsSend (length h.world.wire.sent) n
  allows_send h n w ne le = omega (arith, w.all, w.few, ne, narrow, le)

  -- a send is fresh, if it is for a call of the table
  fresh_if_sent : (h : Harmed State) (target : ℕ) (call : Asked) (deadline : ℕ) (full : Bool) → eqb (length h.world.client.waiting) width ≡ full → is_of_table call ≡ true → AnyWell h → InOrder h
      → IsFreshIfSent width ends Good kept h call (send_unless_full h.world.client target call deadline full)
  fresh_if_sent h target call deadline true e t w o = tt
  fresh_if_sent h target call deadline false e t w o =
      let v = h.world.wire in
      let ne : (length h.world.client.waiting ≡ width) → ⊥ = eqb-false _ _ e in
      record {
        own = inl t;
        up = all_on (λ x. o.n ≤ x.number) (λ x. AllowsSend (length v.sent) x.number) v.up (λ x le. allows_send h x.number w ne (omega (arith, le, o.counted))) o.above;
        down =
            all_on (λ x. length v.settled ≤ x.number + 1) (λ x. AllowsSend (length v.sent) x.number) v.down (λ x le. allows_send h x.number w ne le)
            (rising_front (length v.settled) v.down v.up o.order);
        keeps = λ k n e l.
            let same : o.n ≡ n = same_Some _ _ (sym o.is_last ∙ l) in
            allows_send h n w ne (omega (arith, o.counted, same));
      }

  -- Order.

  -- it is kept by a send
  order_sent : (h : Harmed State) (target : ℕ) (call : Asked) (deadline : ℕ) (full : Bool) → AnyWell h → InOrder h
      → InOrder (record { world = requested h.world target call (send_unless_full h.world.client target call deadline full); last = h.last })
  order_sent h target call deadline true w o = record { n = o.n; is_last = o.is_last; was_sent = o.was_sent; order = o.order; below = o.below; above = o.above; counted = o.counted }
  order_sent h target call deadline false w o =
      let v = h.world.wire in
      let r : Sent = record { target = target; call = call; line = asked_line (Some h.world.client.next) call } in
      let size : length (v.sent ++ r ∷ []) ≡ length v.sent + 1 = length_push v.sent r in
      record {
        n = o.n;
        is_last = o.is_last;
        was_sent = omega (arith, o.was_sent, size);
        order =
            rising_push (length v.settled) (length v.sent) _ (numbers v.down) v.up (omega (arith, w.all))
            (all_append (λ n. n < length v.sent) (numbers v.down) (numbers v.up)
            (each_number (λ n. n < length v.sent) v.down (all_on (IsDown any_made any_line any_row ends.heard v.sent) (λ x. x.number < length v.sent) v.down (λ x d. d.was_sent) w.down))
            (each_number (λ n. n < length v.sent) v.up (all_on (IsUp any_made any_line any_row v.sent) (λ x. x.number < length v.sent) v.up (λ x u. u.was_sent) w.up))) o.order;
        below = o.below;
        above = all_append (λ x. o.n ≤ x.number) v.up _ o.above (omega (arith, o.was_sent), tt);
        counted = o.counted;
      }

  -- it is kept if the front request reaches the instrument
  order_reached : (h : Harmed State) (q : List (Numbered Request)) → h.world.wire.up ≡ q → AnyWell h → InOrder h
      → InOrder (record { world = on_wire h.world (up_delivered ends h.world.wire q); last = last_by_step h.last Up_deliver q })
  order_reached h [] e w o = record { n = o.n; is_last = o.is_last; was_sent = o.was_sent; order = o.order; below = o.below; above = o.above; counted = o.counted }
  order_reached h (x ∷ rest) e w o =
      let v = h.world.wire in
      let u = subst (λ q. AllByRecursion (IsUp any_made any_line any_row v.sent) q) e w.up in
      let a = subst (λ q. AllByRecursion (λ x. o.n ≤ x.number) q) e o.above in
      let order = subst (λ q. Rising (length v.settled) (numbers v.down ++ numbers q)) e o.order in
      let tail = rising_tail (length v.settled) x.number (numbers v.down) (numbers rest) order in
      record {
        n = x.number;
        is_last = refl;
        was_sent = u.0.was_sent;
        order = rising_moved (length v.settled) x.number _ v.down (numbers rest) order;
        below = all_append (λ y. y.number ≤ x.number) v.down _ (all_on (λ y. y.number ≤ o.n) (λ y. y.number ≤ x.number) v.down (λ y le. omega (arith, le, a.0)) o.below) (omega arith, tt);
        above = all_on (λ y. x.number + 1 ≤ y.number + 1) (λ y. x.number ≤ y.number) rest (λ y le. omega (arith, le)) (rising_each (x.number + 1) rest tail.1);
        counted = omega (arith, o.counted, a.0);
      }

  -- the count of settled requests once a line settled through place k (`b` true), or nothing
  count_at : (h : Harmed State) (line : List ℕ) (k : ℕ) (b : Bool) → ltb k (length h.world.client.waiting) ≡ b
      → (length (h.world.wire.settled ++ (settles_at h.world.client line k b).settlements) ≡ length h.world.wire.settled)
      ⊎ ((k < length h.world.client.waiting) × (length (h.world.wire.settled ++ (settles_at h.world.client line k b).settlements) ≡ length h.world.wire.settled + k + 1))
  count_at h line k false e = inl (length-append h.world.wire.settled [] ∙ omega arith)
  count_at h line k true e =
      let below : k < length h.world.client.waiting = ltb-true _ _ e in
      let n = length-append h.world.wire.settled (settle k line h.world.client.waiting) in
      let n2 = length-settle k line h.world.client.waiting below in
      inr (below, omega (arith, n, n2))

  -- the same of a line with this id, or without one
  pub count_by : (h : Harmed State) (line : List ℕ) (o : Option ℕ)
      → (length (h.world.wire.settled ++ (hears h.world.client line o).settlements) ≡ length h.world.wire.settled)
      ⊎ ((id : ℕ) × (o ≡ Some id) × (place h.world.client.next (length h.world.client.waiting) id < length h.world.client.waiting)
      × (length (h.world.wire.settled ++ (hears h.world.client line o).settlements) ≡ length h.world.wire.settled + place h.world.client.next (length h.world.client.waiting) id + 1))
  count_by h line None = inl (length-append h.world.wire.settled [] ∙ omega arith)
  count_by h line (Some id) =
      elim (count_at h line (place h.world.client.next (length h.world.client.waiting) id) (ltb (place h.world.client.next (length h.world.client.waiting) id) (length h.world.client.waiting)) refl) [
        | inl same ↦ inl same
        | inr more ↦ inr (id, refl, more.0, more.1)
      ]

  -- it is kept if the front reply comes
  order_came : (h : Harmed State) (q : List (Numbered (List ℕ))) → h.world.wire.down ≡ q → AnyWell h → InOrder h
      → InOrder (record { world = down_delivered (by_ids width ends) h.world q; last = h.last })
  order_came h [] e w o = record { n = o.n; is_last = o.is_last; was_sent = o.was_sent; order = o.order; below = o.below; above = o.above; counted = o.counted }
  order_came h (x ∷ rest) e w o =
      let v = h.world.wire in
      let c = h.world.client in
      let d = subst (λ q. AllByRecursion (IsDown any_made any_line any_row ends.heard v.sent) q) e w.down in
      let b = subst (λ q. AllByRecursion (λ x. x.number ≤ o.n) q) e o.below in
      let order = subst (λ q. Rising (length v.settled) (numbers q ++ numbers v.up)) e o.order in
      let count = length (v.settled ++ (hears c x.line (ends.heard x.line)).settlements) in
      let after : (count ≡ length v.settled) ⊎ (count ≡ x.number + 1) = elim (count_by h x.line (ends.heard x.line)) [
        | inl same ↦ inl same
        | inr more ↦
            let same : more.0 ≡ x.number % 8 = same_Some _ _ (sym more.1 ∙ d.0.id) in
            let at : length v.settled + place c.next (length c.waiting) more.0 ≡ x.number =
            fresh_place c.next (length c.waiting) (length v.settled) (length v.sent) x.number (place c.next (length c.waiting) more.0)
            w.ids w.all (omega (arith, w.few, narrow)) d.0.was_sent d.0.near (ap (place c.next (length c.waiting)) same) more.2 in
            inr (omega (arith, more.3, at))
      ] in
      record {
        n = o.n;
        is_last = o.is_last;
        was_sent = o.was_sent;
        order = elim after [
          | inl same ↦ rising_lower count (x.number + 1) (numbers rest ++ numbers v.up) (omega (arith, same, order.0)) order.1
          | inr one ↦ rising_lower count (x.number + 1) (numbers rest ++ numbers v.up) (omega (arith, one)) order.1
        ];
        below = b.1;
        above = o.above;
        counted = elim after [
          | inl same ↦ omega (arith, same, o.counted)
          | inr one ↦ omega (arith, one, b.0)
        ];
      }

  -- it is kept by another upward or downward queue
  order_up : (h : Harmed State) (up : List (Numbered Request)) (b : Bool) → Rising (length h.world.wire.settled) (numbers h.world.wire.down ++ numbers up)
      → (n : ℕ) → h.last ≡ Some n → AllByRecursion (λ x. n ≤ x.number) up → InOrder h → InOrder (record { world = on_wire h.world (with_up h.world.wire up b); last = h.last })
  order_up h up false r n l a o = record { n = o.n; is_last = o.is_last; was_sent = o.was_sent; order = o.order; below = o.below; above = o.above; counted = o.counted }
  order_up h up true r n l a o =
      let same : n ≡ o.n = same_Some _ _ (sym l ∙ o.is_last) in
      record { n = o.n; is_last = o.is_last; was_sent = o.was_sent; order = r; below = o.below; above = subst (λ n. AllByRecursion (λ x. n ≤ x.number) up) same a; counted = o.counted }

  -- order is kept by another downward queue, if that is possible (`b`)
  order_down : (h : Harmed State) (down : List (Numbered (List ℕ))) (b : Bool) → Rising (length h.world.wire.settled) (numbers down ++ numbers h.world.wire.up)
      → (n : ℕ) → h.last ≡ Some n → AllByRecursion (λ x. x.number ≤ n) down → InOrder h → InOrder (record { world = on_wire h.world (with_down h.world.wire down b); last = h.last })
  order_down h down false r n l a o = record { n = o.n; is_last = o.is_last; was_sent = o.was_sent; order = o.order; below = o.below; above = o.above; counted = o.counted }
  order_down h down true r n l a o =
      let same : n ≡ o.n = same_Some _ _ (sym l ∙ o.is_last) in
      record { n = o.n; is_last = o.is_last; was_sent = o.was_sent; order = r; below = subst (λ n. AllByRecursion (λ x. x.number ≤ n) down) same a; above = o.above; counted = o.counted }

  -- it is kept by a step of the line
  order_step : (h : Harmed State) (step : Step) → IsLineStep step → AnyWell h → InOrder h → InOrder (harms width ends h (Does (OnLine step)))
  order_step h (Send target call deadline) p w o = absurd p
  order_step h Up_deliver p w o = order_reached h h.world.wire.up refl w o
  order_step h (Up_lose k) p w o =
      order_up h (without k h.world.wire.up) (ltb k (length h.world.wire.up)) (rising_without_behind (length h.world.wire.settled) k (numbers h.world.wire.down) h.world.wire.up o.order) o.n o.is_last (each_without _ k h.world.wire.up o.above) o
  order_step h (Up_repeat k) p w o =
      order_up h (doubled k h.world.wire.up) (ltb k (length h.world.wire.up)) (rising_doubled_behind (length h.world.wire.settled) k (numbers h.world.wire.down) h.world.wire.up o.order) o.n o.is_last (each_doubled _ k h.world.wire.up o.above) o
  order_step h Down_deliver p w o = absurd p
  order_step h (Down_lose k) p w o =
      order_down h (without k h.world.wire.down) (ltb k (length h.world.wire.down)) (rising_without (length h.world.wire.settled) k h.world.wire.down (numbers h.world.wire.up) o.order) o.n o.is_last (each_without _ k h.world.wire.down o.below) o
  order_step h (Down_repeat k) p w o =
      order_down h (doubled k h.world.wire.down) (ltb k (length h.world.wire.down)) (rising_doubled (length h.world.wire.settled) k h.world.wire.down (numbers h.world.wire.up) o.order) o.n o.is_last (each_doubled _ k h.world.wire.down o.below) o
  order_step h (Expire now) p w o = absurd p
  order_step h Restart_client p w o = absurd p
  order_step h Restart_instrument p w o = absurd p
  order_step h Nothing p w o = record { n = o.n; is_last = o.is_last; was_sent = o.was_sent; order = o.order; below = o.below; above = o.above; counted = o.counted }

  -- it is kept by a move of the field
  order_move : (h : Harmed State) (m : Move State) → IsPossible Good kept h.world m → AnyWell h → InOrder h → InOrder (harms width ends h (Does m))
  order_move h (Sends target call deadline) p w o = order_sent h target call deadline (eqb (length h.world.client.waiting) width) w o
  order_move h (Tells now) p w o = record { n = o.n; is_last = o.is_last; was_sent = o.was_sent; order = o.order; below = o.below; above = o.above; counted = o.counted }
  order_move h (Comes line) p w o = order_came h h.world.wire.down refl w o
  order_move h (Foreign line) p w o = o
  order_move h (OnLine step) p w o = order_step h step p w o
  order_move h Anew p w o = record { n = o.n; is_last = o.is_last; was_sent = o.was_sent; order = o.order; below = o.below; above = o.above; counted = o.counted }
  order_move h (Changes state) p w o = record { n = o.n; is_last = o.is_last; was_sent = o.was_sent; order = o.order; below = o.below; above = o.above; counted = o.counted }
  order_move h (Joins line) p w o = absurd p

  -- a move that is possible in the field, and asks for a call of the table if it sends, is possible as a step with damage
  may_do : (h : Harmed State) (m : Move State) (ms : List (Move State)) → IsPossible Good kept h.world m → AsksTheTable (m ∷ ms) → AnyWell h → InOrder h → MayDo width ends Good kept h m
  may_do h (Sends target call deadline) ms p t w o = fresh_if_sent h target call deadline (eqb (length h.world.client.waiting) width) refl t.0 w o
  may_do h (Tells now) ms p t w o = p
  may_do h (Comes line) ms p t w o = p
  may_do h (Foreign line) ms p t w o = p
  may_do h (OnLine step) ms p t w o = p
  may_do h Anew ms p t w o = p
  may_do h (Changes state) ms p t w o = p
  may_do h (Joins line) ms p t w o = p

  -- what is asked for by the moves after the first
  table_tail : (m : Move State) (ms : List (Move State)) → AsksTheTable (m ∷ ms) → AsksTheTable ms
  table_tail (Sends target call deadline) ms t = t.1
  table_tail (Tells now) ms t = t
  table_tail (Comes line) ms t = t
  table_tail (Foreign line) ms t = t
  table_tail (OnLine step) ms t = t
  table_tail Anew ms t = t
  table_tail (Changes state) ms t = t
  table_tail (Joins line) ms t = t

  -- nothing has to be known of a step
  nothing_told : (h : Harmed State) (m : Harm State) → KnownOf any_made any_line any_row width narrow ends Good kept is h m
  nothing_told h m = record { made = λ same x rest e id yes. tt; came = λ line n same le size. tt; again = λ like line n rest same down broken le size. tt; struck = λ id call same. tt }

  -- moves that are possible in the field, with calls of the table alone, are possible as steps with damage
  all_may : (ms : List (Move State)) (h : Harmed State) → ArePossible ends Good kept (by_ids width ends) ms h.world → AsksTheTable ms → AnyWell h → InOrder h
      → AllMayHarm width ends Good kept (map Does ms) h
  all_may [] h p t w o = tt
  all_may (m ∷ ms) h p t w o =
      let may = may_do h m ms p.0 t w o in (
        may,
        all_may ms (harms width ends h (Does m)) p.1 (table_tail m ms t)
            (well_move any_made any_line any_row width narrow ends Good kept is h m may (nothing_told h (Does m)) w) (order_move h m p.0 w o),
      )

  -- after a clean synchronization a world is in order
  order_begun : (u : UnderWay State) → IsClean Good kept u → InOrder (harm_begun width ends u)
  order_begun u clean = record {
    n = 7;
    is_last = refl;
    was_sent = omega arith;
    order = rising_eighth u.down u.up;
    below = each_of_eighth (λ x. x.number ≤ 7) (λ line. Unit {0}) (λ x e. omega arith) u.down (each_any u.down);
    above = each_of_eighth (λ x. 7 ≤ x.number) (λ x. Unit {0}) (λ x e. omega arith) u.up (each_any u.up);
    counted = omega arith;
  } where
    -- of each element nothing is said
    each_any : {A : Type 0} (xs : List A) → AllByRecursion (λ x. Unit {0}) xs
    each_any [] = tt
    each_any (x ∷ xs) = (tt, each_any xs)

  -- moves of the field have no damage
  no_damage : (ms : List (Move State)) (front later : List (Harm State)) (line : List ℕ) → map Does ms ≡ front ++ Damages line ∷ later → ⊥
  no_damage [] [] later line e = cc
  no_damage [] (x ∷ front) later line e = cc
  no_damage (m ∷ ms) [] later line e = cc
  no_damage (m ∷ ms) (x ∷ front) later line e = no_damage ms front later line (cons_tail (Does m) x (map Does ms) (front ++ Damages line ∷ later) e)

  -- nor requests that damage made
  no_strike : (ms : List (Move State)) (front later : List (Harm State)) (id : ℕ) (call : Asked) → map Does ms ≡ front ++ Strikes id call ∷ later → ⊥
  no_strike [] [] later id call e = cc
  no_strike [] (x ∷ front) later id call e = cc
  no_strike (m ∷ ms) [] later id call e = cc
  no_strike (m ∷ ms) (x ∷ front) later id call e = no_strike ms front later id call (cons_tail (Does m) x (map Does ms) (front ++ Strikes id call ∷ later) e)

  -- without damage each answer is own
  pub own_without_damage : (u : UnderWay State) → IsClean Good kept u → (ms : List (Move State)) → ArePossibleOnceBegun width ends u Good kept ms → AsksTheTable ms → IsOwnWithoutDamage width ends Good kept u ms
  own_without_damage u clean ms p t =
      let may = all_may ms (harm_begun width ends u) p t (well_begun any_made any_line any_row width narrow ends Good kept is u (record { good = clean.good; up = clean.up; down = clean.down; keeps = λ k e. inl (clean.keeps k e) })) (order_begun u clean) in
      record {
        fresh = may;
        own = λ m s line ge e out. elim ((own_or_damaged width narrow ends Good kept is u clean (map Does ms) may).answered m s line ge e out) [
          | inl own ↦ own
          | inr damaged ↦ absurd (elim damaged.damaged [
            | inl came ↦ no_damage ms damaged.front damaged.later line (damaged.split ∙ ap (λ k. damaged.front ++ k ∷ damaged.later) came)
            | inr again ↦ elim again.made [
              | inl struck ↦ no_strike ms struck.front (struck.later ++ damaged.step ∷ damaged.later) struck.id struck.call
                  (damaged.split ∙ ap (λ l. l ++ damaged.step ∷ damaged.later) struck.split
                  ∙ append_assoc struck.front (Strikes struck.id struck.call ∷ struck.later) (damaged.step ∷ damaged.later))
              | inr old ↦ old
            ]
          ])
        ];
      }
