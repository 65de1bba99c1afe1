-- Rare damage in the field: if few damaged lines come while a line of any one request is in flight or kept, each send is fresh.
use Rattle.gc_theorems.proofs.Common.{◌≡◌, ℕ, suc, ◌+◌, ◌-◌, ◌*◌, ◌%◌, ◌<◌, ◌≤◌, ◌⊎◌, inl, inr, Bool, true, false, List, [], ◌∷◌, ◌++◌, length, Option, Some, if◌then◌else◌, refl, sym, ◌∙◌, ap, subst, arith, eqb, ltb, AllByRecursion, mul-le-mul_right, suc-mul, length_push, eq-eqb, ne_eqb, eqb-false, same_Some, all_append, every_weaker as all_on, Asked, asked_line, hears, place, send_unless_full, KeptReply, by_ids, Rising, numbers, Numbered, Request, Sent, Ends, Step, Send, Up_deliver, Up_lose, Up_repeat, Down_deliver, Down_lose, Down_repeat, Expire, Restart_client, Restart_instrument, Nothing, without, doubled, up_delivered, with_up, with_down, on_wire, requested, down_delivered, each_number, each_without, each_doubled, rising_each, rising_lower, rising_tail, rising_without, rising_doubled, rising_without_behind, rising_doubled_behind, rising_moved, rising_push, Move, Sends, Tells, Comes, Foreign, OnLine, Anew, Changes, Joins, IsLineStep, UnderWay, IsClean, IsAnInstrument, Harm, Does, Damages, Strikes, Harmed, last_by_step, harms, harm_begun, AllowsSend, IsFreshIfSent, MayDo, MayHarm, AllMayHarm, Tally, noted, seen_sent, seen_by, tally_harms, tally_begun, IsRareIfSent, MayDoRarely, MayHarmRarely, AllMayHarmRarely, IsFreshAndOwn}
use Rattle.gc_theorems.proofs.BegunFaithful.{each_of_eighth}
use Rattle.gc_theorems.proofs.Well.{IsUp, IsDown, Well, KnownOf, fresh_place, well_begun, well_harm}
use Rattle.gc_theorems.proofs.Own.{own_or_damaged}
use Rattle.gc_theorems.proofs.WithoutDamage.{any_line, any_made, any_row, count_by, rising_eighth, rising_front}

-- Numbers.

-- one more times `width`
one_more_times : (n width : ℕ) → (n + 1) * width ≡ n * width + width
one_more_times n width = let e : n + 1 ≡ suc n = omega arith in ap (λ i. i * width) e ∙ suc-mul n width

-- the count of settled requests is past request y by at most the width for each damaged line that came since it was sent
pub record IsClose (width count came : ℕ) (seen : ℕ → ℕ) (y : ℕ) : Type 0 where
  pub before : seen y ≤ came
  pub close : count ≤ y + 1 + (came - seen y) * width

-- it stays so if a damaged line comes, which settles at most as many as the window is wide
close_damaged : (width count after came : ℕ) (seen : ℕ → ℕ) (y : ℕ) → after ≤ count + width → IsClose width count came seen y → IsClose width after (came + 1) seen y
close_damaged width count after came seen y le h =
    let e : came + 1 - seen y ≡ came - seen y + 1 = omega (arith, h.before) in
    let times : (came + 1 - seen y) * width ≡ (came - seen y) * width + width = ap (λ i. i * width) e ∙ one_more_times (came - seen y) width in
    record { before = omega (arith, h.before); close = omega (arith, h.close, times, le) }

-- where few damaged lines came since, a line allows a send that isn't refused
close_bears : (width k count waiting sent came : ℕ) (seen : ℕ → ℕ) (y : ℕ) → (k + 1) * width ≤ 7 → count + waiting ≡ sent → waiting < width → came ≤ seen y + k → IsClose width count came seen y → AllowsSend sent y
close_bears width k count waiting sent came seen y narrow all room few h =
    let less : came - seen y ≤ k = omega (arith, few) in
    let times : (came - seen y) * width ≤ k * width = mul-le-mul_right width less in
    let one = one_more_times k width in
    omega (arith, h.close, times, one, narrow, all, room)

-- the width is at most seven
narrow_anyhow : (width k : ℕ) → (k + 1) * width ≤ 7 → width ≤ 7
narrow_anyhow width k narrow = let one = one_more_times k width in omega (arith, one, narrow)

-- what is noted last
noted_same : (f : ℕ → ℕ) (n v : ℕ) → noted f n v n ≡ v
noted_same f n v = ap (λ b. if b then v else f n) (eq-eqb n n refl)

-- what is noted of an earlier one stays
noted_other : (f : ℕ → ℕ) (n v i : ℕ) → i < n → noted f n v i ≡ f i
noted_other f n v i lt = ap (λ b. if b then v else f i) (ne_eqb i n (λ e. omega (arith, lt, e)))

-- what was close stays so once a later request is noted
close_noted : (width count came n : ℕ) (seen : ℕ → ℕ) (y : ℕ) → y < n → IsClose width count came seen y → IsClose width count came (noted seen n came) y
close_noted width count came n seen y lt h =
    let e = noted_other seen n came y lt in
    record { before = subst (λ s. s ≤ came) (sym e) h.before; close = subst (λ s. count ≤ y + 1 + (came - s) * width) (sym e) h.close }

-- the invariant: numbers never fall; the request handed last is between the replies and the requests in flight; and the count is close
-- to each line in flight, and to that request
pub record InOrder {State : Type 0} (width : ℕ) (h : Harmed State) (came : ℕ) (seen : ℕ → ℕ) : Type 0 where
  pub n : ℕ
  pub is_last : h.last ≡ Some n
  pub was_sent : n < length h.world.wire.sent
  pub order : Rising 0 (numbers h.world.wire.down ++ numbers h.world.wire.up)
  pub below : AllByRecursion (λ x. x.number ≤ n) h.world.wire.down
  pub above : AllByRecursion (λ x. n ≤ x.number) h.world.wire.up
  pub close : IsClose width (length h.world.wire.settled) came seen n
  pub close_up : AllByRecursion (λ x. IsClose width (length h.world.wire.settled) came seen x.number) h.world.wire.up
  pub close_down : AllByRecursion (λ x. IsClose width (length h.world.wire.settled) came seen x.number) h.world.wire.down

-- what follows for each element from two things that hold of it
pub each_both : {A : Type 0} (P Q R : A → Type 0) → ((x : A) → P x → Q x → R x) → (xs : List A) → AllByRecursion P xs → AllByRecursion Q xs → AllByRecursion R xs
each_both P Q R f [] h g = tt
each_both P Q R f (x ∷ xs) h g = (f x h.0 g.0, each_both P Q R f xs h.1 g.1)

-- the numbers of the second of two queues, too, are at least low - 1
pub rising_back : {A B : Type 0} (low : ℕ) (xs : List (Numbered A)) (ys : List (Numbered B)) → Rising low (numbers xs ++ numbers ys) → AllByRecursion (λ y. low ≤ y.number + 1) ys
rising_back low [] ys h = rising_each low ys h
rising_back low (x ∷ xs) ys h = all_on (λ z. x.number + 1 ≤ z.number + 1) (λ z. low ≤ z.number + 1) ys (λ z k. omega (arith, k, h.0)) (rising_back (x.number + 1) xs ys h.1)

module _ {State : Type 0} (width k : ℕ) (narrow : (k + 1) * width ≤ 7) (ends : Ends State) (Good : State → Type 0) (kept : State → Option KeptReply) (is : IsAnInstrument ends Good kept) where
  -- the invariant of `Own`, where nothing is said of what was made
  abbrev AnyWell : Harmed State → Type 0
  AnyWell h = Well any_made any_line any_row width (narrow_anyhow width k narrow) ends Good kept is h

  -- a send is fresh if damage was rare
  fresh_if_rare : (r : Tally State) (target : ℕ) (call : Asked) (deadline : ℕ) (full : Bool) → eqb (length r.harmed.world.client.waiting) width ≡ full
      → IsRareIfSent width ends k Good kept r call (send_unless_full r.harmed.world.client target call deadline full) → AnyWell r.harmed → InOrder width r.harmed r.came r.seen
      → IsFreshIfSent width ends Good kept r.harmed call (send_unless_full r.harmed.world.client target call deadline full)
  fresh_if_rare r target call deadline true e p w o = tt
  fresh_if_rare r target call deadline false e p w o =
      let v = r.harmed.world.wire in
      let c = r.harmed.world.client in
      let ne : (length c.waiting ≡ width) → ⊥ = eqb-false _ _ e in
      let room : length c.waiting < width = omega (arith, ne, w.few) in
      let allows : (y : ℕ) → r.came ≤ r.seen y + k → IsClose width (length v.settled) r.came r.seen y → AllowsSend (length v.sent) y =
      λ y few close. close_bears width k (length v.settled) (length c.waiting) (length v.sent) r.came r.seen y narrow w.all room few close in
      record {
        own = p.own;
        up = each_both (λ x. r.came ≤ r.seen x.number + k) (λ x. IsClose width (length v.settled) r.came r.seen x.number) (λ x. AllowsSend (length v.sent) x.number) (λ x. allows x.number) v.up p.up o.close_up;
        down = each_both (λ x. r.came ≤ r.seen x.number + k) (λ x. IsClose width (length v.settled) r.came r.seen x.number) (λ x. AllowsSend (length v.sent) x.number) (λ x. allows x.number) v.down p.down o.close_down;
        keeps = λ reply n e l.
            let same : o.n ≡ n = same_Some _ _ (sym o.is_last ∙ l) in
            subst (λ n. AllowsSend (length v.sent) n) same (allows o.n (p.keeps reply o.n e o.is_last) o.close);
      }

  -- order is kept by a send
  order_sent : (h : Harmed State) (came : ℕ) (seen : ℕ → ℕ) (target : ℕ) (call : Asked) (deadline : ℕ) (full : Bool) → AnyWell h → InOrder width h came seen
      → InOrder width (record { world = requested h.world target call (send_unless_full h.world.client target call deadline full); last = h.last }) came
      (seen_sent width ends (record { harmed = h; came = came; seen = seen }) (send_unless_full h.world.client target call deadline full))
  order_sent h came seen target call deadline true w o =
      record { n = o.n; is_last = o.is_last; was_sent = o.was_sent; order = o.order; below = o.below; above = o.above; close = o.close; close_up = o.close_up; close_down = o.close_down }
  order_sent h came seen target call deadline false w o =
      let v = h.world.wire in
      let r : Sent = record { target = target; call = call; line = asked_line (Some h.world.client.next) call } in
      let size : length (v.sent ++ r ∷ []) ≡ length v.sent + 1 = length_push v.sent r in
      let m = length v.sent in
      let more : (y : ℕ) → y < m → IsClose width (length v.settled) came seen y → IsClose width (length v.settled) came (noted seen m came) y =
      λ y lt c. close_noted width (length v.settled) came m seen y lt c in
      let same = noted_same seen m came in
      let new : IsClose width (length v.settled) came (noted seen m came) m = record {
        before = omega (arith, same);
        close = subst (λ s. length v.settled ≤ m + 1 + (came - s) * width) (sym same) (omega (arith, w.all));
      } in
      record {
        n = o.n;
        is_last = o.is_last;
        was_sent = omega (arith, o.was_sent, size);
        order =
            rising_push 0 m _ (numbers v.down) v.up (omega arith)
            (all_append (λ n. n < m) (numbers v.down) (numbers v.up)
            (each_number (λ n. n < m) v.down (all_on (IsDown any_made any_line any_row ends.heard v.sent) (λ x. x.number < m) v.down (λ x d. d.was_sent) w.down))
            (each_number (λ n. n < m) v.up (all_on (IsUp any_made any_line any_row v.sent) (λ x. x.number < m) v.up (λ x u. u.was_sent) w.up))) o.order;
        below = o.below;
        above = all_append (λ x. o.n ≤ x.number) v.up _ o.above (omega (arith, o.was_sent), tt);
        close = more o.n o.was_sent o.close;
        close_up =
            all_append (λ x. IsClose width (length v.settled) came (noted seen m came) x.number) v.up _
            (each_both (IsUp any_made any_line any_row v.sent) (λ x. IsClose width (length v.settled) came seen x.number) (λ x. IsClose width (length v.settled) came (noted seen m came) x.number) (λ x u c. more x.number u.was_sent c) v.up w.up o.close_up)
            (new, tt);
        close_down = each_both (IsDown any_made any_line any_row ends.heard v.sent) (λ x. IsClose width (length v.settled) came seen x.number) (λ x. IsClose width (length v.settled) came (noted seen m came) x.number) (λ x d c. more x.number d.was_sent c) v.down w.down o.close_down;
      }

  -- it is kept if the front request reaches the instrument
  order_reached : (h : Harmed State) (came : ℕ) (seen : ℕ → ℕ) (q : List (Numbered Request)) → h.world.wire.up ≡ q → AnyWell h → InOrder width h came seen
      → InOrder width (record { world = on_wire h.world (up_delivered ends h.world.wire q); last = last_by_step h.last Up_deliver q }) came seen
  order_reached h came seen [] e w o =
      record { n = o.n; is_last = o.is_last; was_sent = o.was_sent; order = o.order; below = o.below; above = o.above; close = o.close; close_up = o.close_up; close_down = o.close_down }
  order_reached h came seen (x ∷ rest) e w o =
      let v = h.world.wire in
      let u = subst (λ q. AllByRecursion (IsUp any_made any_line any_row v.sent) q) e w.up in
      let a = subst (λ q. AllByRecursion (λ x. o.n ≤ x.number) q) e o.above in
      let c = subst (λ q. AllByRecursion (λ x. IsClose width (length v.settled) came seen x.number) q) e o.close_up in
      let order = subst (λ q. Rising 0 (numbers v.down ++ numbers q)) e o.order in
      let tail = rising_tail 0 x.number (numbers v.down) (numbers rest) order in
      record {
        n = x.number;
        is_last = refl;
        was_sent = u.0.was_sent;
        order = rising_moved 0 x.number _ v.down (numbers rest) order;
        below = all_append (λ y. y.number ≤ x.number) v.down _ (all_on (λ y. y.number ≤ o.n) (λ y. y.number ≤ x.number) v.down (λ y le. omega (arith, le, a.0)) o.below) (omega arith, tt);
        above = all_on (λ y. x.number + 1 ≤ y.number + 1) (λ y. x.number ≤ y.number) rest (λ y le. omega (arith, le)) (rising_each (x.number + 1) rest tail.1);
        close = c.0;
        close_up = c.1;
        close_down = all_append (λ x. IsClose width (length v.settled) came seen x.number) v.down _ o.close_down (c.0, tt);
      }

  -- it is kept if the front reply comes
  order_came : (h : Harmed State) (came : ℕ) (seen : ℕ → ℕ) (q : List (Numbered (List ℕ))) → h.world.wire.down ≡ q → AnyWell h → InOrder width h came seen
      → InOrder width (record { world = down_delivered (by_ids width ends) h.world q; last = h.last }) came seen
  order_came h came seen [] e w o =
      record { n = o.n; is_last = o.is_last; was_sent = o.was_sent; order = o.order; below = o.below; above = o.above; close = o.close; close_up = o.close_up; close_down = o.close_down }
  order_came h came seen (x ∷ rest) e w o =
      let v = h.world.wire in
      let c = h.world.client in
      let d = subst (λ q. AllByRecursion (IsDown any_made any_line any_row ends.heard v.sent) q) e w.down in
      let b = subst (λ q. AllByRecursion (λ x. x.number ≤ o.n) q) e o.below in
      let cd = subst (λ q. AllByRecursion (λ x. IsClose width (length v.settled) came seen x.number) q) e o.close_down in
      let order = subst (λ q. Rising 0 (numbers q ++ numbers v.up)) e o.order in
      let count = length (v.settled ++ (hears c x.line (ends.heard x.line)).settlements) in
      let after : (count ≡ length v.settled) ⊎ (count ≡ x.number + 1) = elim (count_by width (narrow_anyhow width k narrow) ends Good kept is h x.line (ends.heard x.line)) [
        | inl same ↦ inl same
        | inr more ↦
            let same : more.0 ≡ x.number % 8 = same_Some _ _ (sym more.1 ∙ d.0.id) in
            let at : length v.settled + place c.next (length c.waiting) more.0 ≡ x.number =
            fresh_place c.next (length c.waiting) (length v.settled) (length v.sent) x.number (place c.next (length c.waiting) more.0)
            w.ids w.all (let n7 = narrow_anyhow width k narrow in omega (arith, w.few, n7)) d.0.was_sent d.0.near (ap (place c.next (length c.waiting)) same) more.2 in
            inr (omega (arith, more.3, at))
      ] in
      let still : (y : ℕ) → x.number ≤ y → IsClose width (length v.settled) came seen y → IsClose width count came seen y =
      λ y le g. record {
        before = g.before;
        close = elim after [
          | inl same ↦ omega (arith, same, g.close)
          | inr one ↦ omega (arith, one, le)
        ];
      } in
      record {
        n = o.n;
        is_last = o.is_last;
        was_sent = o.was_sent;
        order = rising_lower 0 (x.number + 1) (numbers rest ++ numbers v.up) (omega arith) order.1;
        below = b.1;
        above = o.above;
        close = still o.n b.0 o.close;
        close_up =
            each_both (λ y. x.number + 1 ≤ y.number + 1) (λ y. IsClose width (length v.settled) came seen y.number) (λ y. IsClose width count came seen y.number)
            (λ y le g. still y.number (omega (arith, le)) g) v.up (rising_back (x.number + 1) rest v.up order.1) o.close_up;
        close_down =
            each_both (λ y. x.number + 1 ≤ y.number + 1) (λ y. IsClose width (length v.settled) came seen y.number) (λ y. IsClose width count came seen y.number)
            (λ y le g. still y.number (omega (arith, le)) g) rest (rising_front (x.number + 1) rest v.up order.1) cd.1;
      }

  -- it is kept if a damaged line comes
  order_damaged : (h : Harmed State) (came : ℕ) (seen : ℕ → ℕ) (line : List ℕ) → AnyWell h → InOrder width h came seen → InOrder width (harms width ends h (Damages line)) (came + 1) seen
  order_damaged h came seen line w o =
      let v = h.world.wire in
      let count = length (v.settled ++ (hears h.world.client line (ends.heard line)).settlements) in
      let grows : count ≤ length v.settled + width = elim (count_by width (narrow_anyhow width k narrow) ends Good kept is h line (ends.heard line)) [
        | inl same ↦ omega (arith, same)
        | inr more ↦ omega (arith, more.3, more.2, w.few)
      ] in
      let still : (y : ℕ) → IsClose width (length v.settled) came seen y → IsClose width count (came + 1) seen y =
      λ y g. close_damaged width (length v.settled) count came seen y grows g in
      record {
        n = o.n;
        is_last = o.is_last;
        was_sent = o.was_sent;
        order = o.order;
        below = o.below;
        above = o.above;
        close = still o.n o.close;
        close_up = all_on (λ x. IsClose width (length v.settled) came seen x.number) (λ x. IsClose width count (came + 1) seen x.number) v.up (λ x g. still x.number g) o.close_up;
        close_down = all_on (λ x. IsClose width (length v.settled) came seen x.number) (λ x. IsClose width count (came + 1) seen x.number) v.down (λ x g. still x.number g) o.close_down;
      }

  -- it is kept by other queues
  order_up : (h : Harmed State) (came : ℕ) (seen : ℕ → ℕ) (up : List (Numbered Request)) (b : Bool) → (o : InOrder width h came seen) → Rising 0 (numbers h.world.wire.down ++ numbers up)
      → AllByRecursion (λ x. o.n ≤ x.number) up → AllByRecursion (λ x. IsClose width (length h.world.wire.settled) came seen x.number) up → InOrder width (record { world = on_wire h.world (with_up h.world.wire up b); last = h.last }) came seen
  order_up h came seen up false o r a c =
      record { n = o.n; is_last = o.is_last; was_sent = o.was_sent; order = o.order; below = o.below; above = o.above; close = o.close; close_up = o.close_up; close_down = o.close_down }
  order_up h came seen up true o r a c =
      record { n = o.n; is_last = o.is_last; was_sent = o.was_sent; order = r; below = o.below; above = a; close = o.close; close_up = c; close_down = o.close_down }

  -- order is kept by another downward queue, if that is possible (`b`)
  order_down : (h : Harmed State) (came : ℕ) (seen : ℕ → ℕ) (down : List (Numbered (List ℕ))) (b : Bool) → (o : InOrder width h came seen) → Rising 0 (numbers down ++ numbers h.world.wire.up)
      → AllByRecursion (λ x. x.number ≤ o.n) down → AllByRecursion (λ x. IsClose width (length h.world.wire.settled) came seen x.number) down → InOrder width (record { world = on_wire h.world (with_down h.world.wire down b); last = h.last }) came seen
  order_down h came seen down false o r a c =
      record { n = o.n; is_last = o.is_last; was_sent = o.was_sent; order = o.order; below = o.below; above = o.above; close = o.close; close_up = o.close_up; close_down = o.close_down }
  order_down h came seen down true o r a c =
      record { n = o.n; is_last = o.is_last; was_sent = o.was_sent; order = r; below = a; above = o.above; close = o.close; close_up = o.close_up; close_down = c }

  -- it is kept by a step of the line
  order_step : (h : Harmed State) (came : ℕ) (seen : ℕ → ℕ) (step : Step) → IsLineStep step → AnyWell h → InOrder width h came seen → InOrder width (harms width ends h (Does (OnLine step))) came seen
  order_step h came seen (Send target call deadline) p w o = absurd p
  order_step h came seen Up_deliver p w o = order_reached h came seen h.world.wire.up refl w o
  order_step h came seen (Up_lose j) p w o =
      order_up h came seen (without j h.world.wire.up) (ltb j (length h.world.wire.up)) o (rising_without_behind 0 j (numbers h.world.wire.down) h.world.wire.up o.order) (each_without _ j h.world.wire.up o.above) (each_without _ j h.world.wire.up o.close_up)
  order_step h came seen (Up_repeat j) p w o =
      order_up h came seen (doubled j h.world.wire.up) (ltb j (length h.world.wire.up)) o (rising_doubled_behind 0 j (numbers h.world.wire.down) h.world.wire.up o.order) (each_doubled _ j h.world.wire.up o.above) (each_doubled _ j h.world.wire.up o.close_up)
  order_step h came seen Down_deliver p w o = absurd p
  order_step h came seen (Down_lose j) p w o =
      order_down h came seen (without j h.world.wire.down) (ltb j (length h.world.wire.down)) o (rising_without 0 j h.world.wire.down (numbers h.world.wire.up) o.order) (each_without _ j h.world.wire.down o.below) (each_without _ j h.world.wire.down o.close_down)
  order_step h came seen (Down_repeat j) p w o =
      order_down h came seen (doubled j h.world.wire.down) (ltb j (length h.world.wire.down)) o (rising_doubled 0 j h.world.wire.down (numbers h.world.wire.up) o.order) (each_doubled _ j h.world.wire.down o.below) (each_doubled _ j h.world.wire.down o.close_down)
  order_step h came seen (Expire now) p w o = absurd p
  order_step h came seen Restart_client p w o = absurd p
  order_step h came seen Restart_instrument p w o = absurd p
  order_step h came seen Nothing p w o =
      record { n = o.n; is_last = o.is_last; was_sent = o.was_sent; order = o.order; below = o.below; above = o.above; close = o.close; close_up = o.close_up; close_down = o.close_down }

  -- it is kept by a move
  order_move : (r : Tally State) (m : Move State) → MayDoRarely width ends k Good kept r m → AnyWell r.harmed → InOrder width r.harmed r.came r.seen
      → InOrder width (harms width ends r.harmed (Does m)) r.came (seen_by width ends r m)
  order_move r (Sends target call deadline) p w o = order_sent r.harmed r.came r.seen target call deadline (eqb (length r.harmed.world.client.waiting) width) w o
  order_move r (Tells now) p w o =
      record { n = o.n; is_last = o.is_last; was_sent = o.was_sent; order = o.order; below = o.below; above = o.above; close = o.close; close_up = o.close_up; close_down = o.close_down }
  order_move r (Comes line) p w o = order_came r.harmed r.came r.seen r.harmed.world.wire.down refl w o
  order_move r (Foreign line) p w o = o
  order_move r (OnLine step) p w o = order_step r.harmed r.came r.seen step p w o
  order_move r Anew p w o =
      record { n = o.n; is_last = o.is_last; was_sent = o.was_sent; order = o.order; below = o.below; above = o.above; close = o.close; close_up = o.close_up; close_down = o.close_down }
  order_move r (Changes state) p w o =
      record { n = o.n; is_last = o.is_last; was_sent = o.was_sent; order = o.order; below = o.below; above = o.above; close = o.close; close_up = o.close_up; close_down = o.close_down }
  order_move r (Joins line) p w o = absurd p

  -- a move at which damage was rare is fresh
  may_do : (r : Tally State) (m : Move State) → MayDoRarely width ends k Good kept r m → AnyWell r.harmed → InOrder width r.harmed r.came r.seen → MayDo width ends Good kept r.harmed m
  may_do r (Sends target call deadline) p w o = fresh_if_rare r target call deadline (eqb (length r.harmed.world.client.waiting) width) refl p w o
  may_do r (Tells now) p w o = p
  may_do r (Comes line) p w o = p
  may_do r (Foreign line) p w o = p
  may_do r (OnLine step) p w o = p
  may_do r Anew p w o = p
  may_do r (Changes state) p w o = p
  may_do r (Joins line) p w o = p

  -- a step, and what it keeps
  may_harm : (r : Tally State) (m : Harm State) → MayHarmRarely width ends k Good kept r m → AnyWell r.harmed → InOrder width r.harmed r.came r.seen → MayHarm width ends Good kept r.harmed m
  may_harm r (Does move) p w o = may_do r move p w o
  may_harm r (Damages line) p w o = tt
  may_harm r (Strikes id call) p w o = p

  -- a step keeps order
  order_harm : (r : Tally State) (m : Harm State) → MayHarmRarely width ends k Good kept r m → AnyWell r.harmed → InOrder width r.harmed r.came r.seen
      → InOrder width (tally_harms width ends r m).harmed (tally_harms width ends r m).came (tally_harms width ends r m).seen
  order_harm r (Does move) p w o = order_move r move p w o
  order_harm r (Damages line) p w o = order_damaged r.harmed r.came r.seen line w o
  order_harm r (Strikes id call) p w o =
      record { n = o.n; is_last = o.is_last; was_sent = o.was_sent; order = o.order; below = o.below; above = o.above; close = o.close; close_up = o.close_up; close_down = o.close_down }

  -- what a step does to the world
  harmed_same : (r : Tally State) (m : Harm State) → (tally_harms width ends r m).harmed ≡ harms width ends r.harmed m
  harmed_same r (Does move) = refl
  harmed_same r (Damages line) = refl
  harmed_same r (Strikes id call) = refl

  -- nothing has to be known of a step
  nothing_told : (h : Harmed State) (m : Harm State) → KnownOf any_made any_line any_row width (narrow_anyhow width k narrow) ends Good kept is h m
  nothing_told h m = record { made = λ same x rest e id yes. tt; came = λ line n same le size. tt; again = λ like line n rest same down broken le size. tt; struck = λ id call same. tt }

  -- steps with rare damage are fresh
  all_fresh : (ms : List (Harm State)) (r : Tally State) → AllMayHarmRarely width ends k Good kept ms r → AnyWell r.harmed → InOrder width r.harmed r.came r.seen → AllMayHarm width ends Good kept ms r.harmed
  all_fresh [] r p w o = tt
  all_fresh (m ∷ ms) r p w o =
      let may = may_harm r m p.0 w o in
      let same = harmed_same r m in
      let next : AnyWell (tally_harms width ends r m).harmed = subst AnyWell (sym same) (well_harm any_made any_line any_row width (narrow_anyhow width k narrow) ends Good kept is r.harmed m may (nothing_told r.harmed m) w) in
      (may, subst (λ h. AllMayHarm width ends Good kept ms h) same (all_fresh ms (tally_harms width ends r m) p.1 next (order_harm r m p.0 w o)))

  -- after a clean synchronization
  order_begun : (u : UnderWay State) → IsClean Good kept u → InOrder width (harm_begun width ends u) 0 (λ n. 0)
  order_begun u clean =
      let seven : IsClose width 8 0 (λ n. 0) 7 = record { before = omega arith; close = omega arith } in
      record {
        n = 7;
        is_last = refl;
        was_sent = omega arith;
        order = rising_lower 0 8 _ (omega arith) (rising_eighth u.down u.up);
        below = each_of_eighth (λ x. x.number ≤ 7) (λ line. Unit {0}) (λ x e. omega arith) u.down (each_any u.down);
        above = each_of_eighth (λ x. 7 ≤ x.number) (λ x. Unit {0}) (λ x e. omega arith) u.up (each_any u.up);
        close = seven;
        close_up = each_of_eighth (λ x. IsClose width 8 0 (λ n. 0) x.number) (λ x. Unit {0}) (λ x e. seven) u.up (each_any u.up);
        close_down = each_of_eighth (λ x. IsClose width 8 0 (λ n. 0) x.number) (λ x. Unit {0}) (λ x e. seven) u.down (each_any u.down);
      }
    where
      -- of each element nothing is said
      each_any : {A : Type 0} (xs : List A) → AllByRecursion (λ x. Unit {0}) xs
      each_any [] = tt
      each_any (x ∷ xs) = (tt, each_any xs)

  -- rare damage is local in the field
  pub rare_is_local_in_field : (u : UnderWay State) → IsClean Good kept u → (ms : List (Harm State)) → AllMayHarmRarely width ends k Good kept ms (tally_begun width ends u) → IsFreshAndOwn width ends Good kept u ms
  rare_is_local_in_field u clean ms p =
      let w = well_begun any_made any_line any_row width (narrow_anyhow width k narrow) ends Good kept is u (record { good = clean.good; up = clean.up; down = clean.down; keeps = λ k e. inl (clean.keeps k e) }) in
      let may = all_fresh ms (tally_begun width ends u) p w (order_begun u clean) in
      record { fresh = may; own = own_or_damaged width (narrow_anyhow width k narrow) ends Good kept is u clean ms may }
