-- If the client holds back, damage is local as long as no two lines in a row that settle something are damaged.
use Rattle.gc_theorems.proofs.Common.{◌≡◌, ℕ, ◌+◌, ◌-◌, ◌<◌, ◌≤◌, ◌⊎◌, inl, inr, Bool, true, false, List, [], ◌∷◌, length, Option, refl, sym, subst, arith, ltb, eqb, AllByRecursion, every_append, ltb-true, ltb-false, true≢false, WINDOW, send_unless_full, IsFresh, Of, Damaged, account_heard, InFlight, OneQueue, Deliver, Damage, Lose, Repeat, IsOfFront, next_line, queue_after, queue_delivered, queue_sent}
use Rattle.std.specs.Prelude.{if◌then◌else◌}
use Rattle.gc_theorems.specs.OneQueue.{Step, Send, Expire, IsPossible}
use Rattle.gc_theorems.specs.ClientHoldingBack.{Holding, AreApart, IsApart, IsHeldBack, after_line, holding, holding_after, holding_nothing, outstanding, settles, with_line, with_queue}
use Rattle.gc_theorems.proofs.ClientLocal.{Sound, local_if_sound, sound_damaged, sound_expired, sound_fresh, sound_opened, sound_sent}
use Rattle.gc_theorems.proofs.Orders.{Ordered, each_both, each_doubled, each_weaker, each_without, ordered_doubled, ordered_each, ordered_lower, ordered_push, ordered_without}
use Rattle.gc_theorems.proofs.ClientCounting.{count_fresh, count_grows}

-- what holds of a line in flight: at most eight requests were sent from its own one on; the count of settled requests is past its own one by
-- at most what the last line settled, and not at all if that line was undamaged
pub record IsBehind (sent count last : ℕ) (undamaged : Bool) (x : InFlight) : Type 0 where
  pub was_sent : x.number < sent
  pub near : sent ≤ x.number + 8
  pub close : count ≤ x.number + 1 + last
  pub closest : undamaged ≡ true → count ≤ x.number + 1

-- what is stored of the last line that settled something, once a line came that settled so many: if it settled none (`any`), as before
abbrev stored : {A : Type 0} → (any : Bool) → (now before : A) → A
stored true now before = now
stored false now before = before

-- once an undamaged line came, by which the count stays, or becomes one more than its number, it holds of the lines after it
after_undamaged : (sent count after last number : ℕ) (undamaged any : Bool) → ltb 0 (after - count) ≡ any → (after ≡ count) ⊎ (after ≡ number + 1) → count ≤ after → (x : InFlight)
    → number ≤ x.number → IsBehind sent count last undamaged x → IsBehind sent after (stored any (after - count) last) (stored any true undamaged) x
after_undamaged sent count after last number undamaged true e (inl same) le x n b = let more : 0 < after - count = ltb-true _ _ e in absurd (omega (arith, more, same))
after_undamaged sent count after last number undamaged true e (inr one) le x n b =
    record { was_sent = b.was_sent; near = b.near; close = omega (arith, one, n); closest = λ t. omega (arith, one, n) }
after_undamaged sent count after last number undamaged false e o le x n b =
    let none : after - count ≤ 0 = ltb-false _ _ e in
    let same : after ≡ count = omega (arith, none, le) in
    record { was_sent = b.was_sent; near = b.near; close = omega (arith, same, b.close); closest = λ t. let c = b.closest t in omega (arith, same, c) }

-- once a damaged line came that settled nothing, or before which an undamaged one had settled something last
after_damaged : (sent count after last : ℕ) (undamaged any : Bool) → ltb 0 (after - count) ≡ any → (after - count ≡ 0) ⊎ (undamaged ≡ true) → count ≤ after → (x : InFlight)
    → IsBehind sent count last undamaged x → IsBehind sent after (stored any (after - count) last) (stored any false undamaged) x
after_damaged sent count after last undamaged true e (inl none) le x b = let more : 0 < after - count = ltb-true _ _ e in absurd (omega (arith, more, none))
after_damaged sent count after last undamaged true e (inr t) le x b =
    let c = b.closest t in
    record { was_sent = b.was_sent; near = b.near; close = omega (arith, c, le); closest = λ t. absurd (true≢false (sym t)) }
after_damaged sent count after last undamaged false e o le x b =
    let none : after - count ≤ 0 = ltb-false _ _ e in
    let same : after ≡ count = omega (arith, none, le) in
    record { was_sent = b.was_sent; near = b.near; close = omega (arith, same, b.close); closest = λ t. let c = b.closest t in omega (arith, same, c) }

-- no line settles more than the window is wide
small_after : (width count after last : ℕ) (any : Bool) → after ≤ count + width → last ≤ width → stored any (after - count) last ≤ width
small_after width count after last true grows le = omega (arith, grows)
small_after width count after last false grows le = le

module _ {Q : Type 0} where
  -- The invariant, over plain variables: a queue, and what its client stores.
  pub record SoundWith (width : ℕ) (q : OneQueue Q) (last : ℕ) (undamaged : Bool) : Type 0 where
    pub sound : Sound width q.account
    pub order : Ordered 0 q.lines
    pub each : AllByRecursion (IsBehind q.account.sent (length q.account.settled) last undamaged) q.lines
    pub small : last ≤ width

  -- the same of a client that holds back
  abbrev HoldingSound : (width : ℕ) → Holding Q → Type 0
  HoldingSound width h = SoundWith width h.queue h.last h.undamaged

  -- once a line came, what is stored is as `stored` says
  line_sound : (width : ℕ) (h : Holding Q) (undamaged : Bool) (after : OneQueue Q) (any : Bool)
      → SoundWith width after (stored any (settles h after) h.last) (stored any undamaged h.undamaged) → HoldingSound width (with_line h undamaged after any)
  line_sound width h undamaged after true s = s
  line_sound width h undamaged after false s = s

  module _ (heard : List ℕ → Option ℕ) (width : ℕ) (narrow : width ≤ WINDOW) where
    -- a send for which there is room keeps it, whether the window is full or not
    sent_with_room : (h : Holding Q) (target : ℕ) (call : Q) (deadline : ℕ) (full : Bool) → eqb (length h.queue.account.client.waiting) width ≡ full
        → length h.queue.account.client.waiting + h.last < WINDOW → HoldingSound width h
        → HoldingSound width (with_queue h (queue_sent h.queue (send_unless_full h.queue.account.client target call deadline full)))
    sent_with_room h target call deadline true e room s = s
    sent_with_room h target call deadline false e room s =
        let q = h.queue in
        let a = q.account in
        let y : InFlight = next_line a q.settled_by_damage in
        record {
          sound = sound_sent width a target call deadline false e s.sound;
          order = ordered_push 0 y q.lines (omega arith) (each_weaker _ (λ x. x.number < a.sent) (λ x b. b.was_sent) q.lines s.each) s.order;
          each =
              every_append (IsBehind (a.sent + 1) (length a.settled) h.last h.undamaged) q.lines (y ∷ [])
              (each_weaker (IsBehind a.sent (length a.settled) h.last h.undamaged) (IsBehind (a.sent + 1) (length a.settled) h.last h.undamaged)
              (λ x b. record {
                was_sent = omega (arith, b.was_sent);
                near = omega (arith, room, b.close, s.sound.all);
                close = b.close;
                closest = b.closest;
              }) q.lines s.each)
              (record { was_sent = omega arith; near = omega arith; close = omega (arith, s.sound.all); closest = λ t. omega (arith, s.sound.all) }, tt);
          small = s.small;
        }

    -- a send keeps it, whether there is room for it (`room`) or not
    holding_sound_sent : (h : Holding Q) (room : Bool) (target : ℕ) (call : Q) (deadline : ℕ) → ltb (outstanding h.queue + h.last) WINDOW ≡ room
        → HoldingSound width h → HoldingSound width (if room then with_queue h (queue_after heard width h.queue (Send target call deadline)) else h)
    holding_sound_sent h false target call deadline e s = s
    holding_sound_sent h true target call deadline e s =
        sent_with_room h target call deadline (eqb (length h.queue.account.client.waiting) width) refl (ltb-true _ _ e) s

    -- a line that doesn't come keeps it
    nothing_delivered : (h : Holding Q) (any : Bool) → ltb 0 (settles h h.queue) ≡ any → HoldingSound width h → HoldingSound width (with_line h true h.queue any)
    nothing_delivered h true e s = let more : 0 < settles h h.queue = ltb-true _ _ e in absurd (omega (arith, more))
    nothing_delivered h false e s = s

    -- the front line keeps it
    holding_sound_delivered : (h : Holding Q) (lines : List InFlight) (line : List ℕ) → h.queue.lines ≡ lines → IsOfFront heard lines line → HoldingSound width h
        → HoldingSound width (with_line h true (queue_delivered heard width h.queue lines line) (ltb 0 (settles h (queue_delivered heard width h.queue lines line))))
    holding_sound_delivered h [] line e p s = nothing_delivered h (ltb 0 (settles h h.queue)) refl s
    holding_sound_delivered h (x ∷ rest) line e p s =
        let a = h.queue.account in
        let each = subst (λ l. AllByRecursion (IsBehind a.sent (length a.settled) h.last h.undamaged) l) e s.each in
        let order = subst (λ l. Ordered 0 l) e s.order in
        let fresh : IsFresh heard a.sent x.number line = record { was_sent = each.0.was_sent; id = p; near = each.0.near } in
        let count = length (account_heard heard width a (Of x.number) line).settled in
        let after = count_fresh heard width narrow a x.number line fresh s.sound in
        let grows = count_grows heard width narrow a (Of x.number) line s.sound in
        line_sound width h true (queue_delivered heard width h.queue (x ∷ rest) line) (ltb 0 (count - length a.settled))
        (record {
          sound = sound_fresh heard width narrow a x.number line fresh s.sound;
          order = ordered_lower 0 x.number rest order.0 order.1;
          each =
              each_both (λ y. x.number ≤ y.number) (IsBehind a.sent (length a.settled) h.last h.undamaged) _
              (λ y le b. after_undamaged a.sent (length a.settled) count h.last x.number h.undamaged (ltb 0 (count - length a.settled)) refl after grows.0 y le b)
              rest (ordered_each x.number rest order.1) each.1;
          small = small_after width (length a.settled) count h.last (ltb 0 (count - length a.settled)) grows.1 s.small;
        })

    -- a damaged line keeps it that settles nothing, or before which an undamaged one had settled something last
    holding_sound_damaged : (h : Holding Q) (line : List ℕ) → IsApart heard width h (Damage line) → HoldingSound width h
        → HoldingSound width (after_line heard width h false (Damage line))
    holding_sound_damaged h line p s =
        let a = h.queue.account in
        let count = length (account_heard heard width a Damaged line).settled in
        let grows = count_grows heard width narrow a Damaged line s.sound in
        line_sound width h false (queue_after heard width h.queue (Damage line)) (ltb 0 (count - length a.settled))
        (record {
          sound = sound_damaged heard width narrow a line s.sound;
          order = s.order;
          each =
              each_weaker (IsBehind a.sent (length a.settled) h.last h.undamaged) _
              (λ y b. after_damaged a.sent (length a.settled) count h.last h.undamaged (ltb 0 (count - length a.settled)) refl p grows.0 y b) h.queue.lines s.each;
          small = small_after width (length a.settled) count h.last (ltb 0 (count - length a.settled)) grows.1 s.small;
        })

    -- each step keeps it
    holding_sound_after : (h : Holding Q) (s : Step Q) → IsPossible heard width h.queue s → IsApart heard width h s → HoldingSound width h → HoldingSound width (holding_after heard width h s)
    holding_sound_after h (Send target call deadline) p b s = holding_sound_sent h (ltb (outstanding h.queue + h.last) WINDOW) target call deadline refl s
    holding_sound_after h (Expire now) p b s = record { sound = sound_expired width h.queue.account now s.sound; order = s.order; each = s.each; small = s.small }
    holding_sound_after h (Deliver line) p b s = holding_sound_delivered h h.queue.lines line refl p s
    holding_sound_after h (Damage line) p b s = holding_sound_damaged h line b s
    holding_sound_after h (Lose k) p b s = record { sound = s.sound; order = ordered_without 0 k h.queue.lines s.order; each = each_without _ k h.queue.lines s.each; small = s.small }
    holding_sound_after h (Repeat k) p b s = record { sound = s.sound; order = ordered_doubled 0 k h.queue.lines s.order; each = each_doubled _ k h.queue.lines s.each; small = s.small }

    -- steps keep it
    holding_sound_steps : (steps : List (Step Q)) (h : Holding Q) → AreApart heard width h steps → HoldingSound width h → HoldingSound width (holding heard width h steps)
    holding_sound_steps [] h p s = s
    holding_sound_steps (x ∷ steps) h p s = holding_sound_steps steps (holding_after heard width h x) p.2 (holding_sound_after h x p.0 p.1 s)

    -- holding back keeps damage local
    pub held_back_is_local : (steps : List (Step Q)) → AreApart heard width holding_nothing steps → IsHeldBack width (holding heard width holding_nothing steps)
    held_back_is_local steps p =
        let s = holding_sound_steps steps holding_nothing p (record { sound = sound_opened width; order = tt; each = tt; small = omega arith }) in
        record { local = local_if_sound width _ s.sound; goes_on = λ six none. omega (arith, six, none, s.small) }
