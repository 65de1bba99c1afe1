-- Damage is local if the lines in flight have slack at each send: then each line that comes is fresh.
use Rattle.gc_theorems.proofs.Common.{◌≡◌, ℕ, ◌+◌, ◌<◌, ◌≤◌, inl, inr, Bool, true, false, List, [], ◌∷◌, length, Option, refl, subst, arith, eqb, IfSome, AllByRecursion, every_append, eqb-false, WINDOW, send_unless_full, IsFresh, Of, Damaged, account_heard, InFlight, OneQueue, Deliver, Damage, Lose, Repeat, Throughout, IsOfFront, account_at_end, next_line, nothing_in_flight, queue, queue_after, queue_damaged, queue_delivered, queue_sent, HasSlack, IfSent, HaveSlack}
use Rattle.gc_theorems.specs.Damage.{IsLocal}
use Rattle.gc_theorems.specs.OneQueue.{Step, Send, Expire, IsPossible, ArePossible}
use Rattle.gc_theorems.proofs.ClientLocal.{Sound, local_if_sound, sound_damaged, sound_expired, sound_fresh, sound_opened, sound_sent}
use Rattle.gc_theorems.proofs.Orders.{Ordered, each_both, each_doubled, each_weaker, each_without, ordered_doubled, ordered_each, ordered_lower, ordered_push, ordered_without}
use Rattle.gc_theorems.proofs.ClientCounting.{count_fresh, count_grows}

-- what holds of a line in flight, where so many requests were sent and settled, and damaged lines settled `by_damage`: at most eight requests
-- were sent from its own one on; and the count of settled ones is past its own one by at most what damaged lines settled since that was
-- sent
pub record IsNear (sent count by_damage : ℕ) (x : InFlight) : Type 0 where
  pub was_sent : x.number < sent
  pub near : sent ≤ x.number + 8
  pub close : count + x.settled_by_damage ≤ x.number + 1 + by_damage
  pub born : x.settled_by_damage ≤ by_damage

module _ {Q : Type 0} where
  -- The invariant of a queue.
  pub record QueueSound (width : ℕ) (q : OneQueue Q) : Type 0 where
    pub sound : Sound width q.account
    pub order : Ordered 0 q.lines
    pub each : AllByRecursion (IsNear q.account.sent (length q.account.settled) q.settled_by_damage) q.lines

  module _ (heard : List ℕ → Option ℕ) (width : ℕ) (narrow : width ≤ WINDOW) where
    -- a send keeps it, if each line in flight has slack for it
    pub queue_sound_sent : (q : OneQueue Q) (target : ℕ) (call : Q) (deadline : ℕ) (full : Bool) → eqb (length q.account.client.waiting) width ≡ full
        → IfSome (send_unless_full q.account.client target call deadline full) (λ _. AllByRecursion (HasSlack width q) q.lines)
        → QueueSound width q → QueueSound width (queue_sent q (send_unless_full q.account.client target call deadline full))
    queue_sound_sent q target call deadline true e b h = h
    queue_sound_sent q target call deadline false e b h =
        let a = q.account in
        let ne : (length a.client.waiting ≡ width) → ⊥ = eqb-false _ _ e in
        let room : a.sent + 1 ≤ length a.settled + width = omega (arith, ne, h.sound.few, h.sound.all) in
        let y : InFlight = next_line a q.settled_by_damage in
        record {
          sound = sound_sent width a target call deadline false e h.sound;
          order = ordered_push 0 y q.lines (omega arith) (each_weaker _ (λ x. x.number < a.sent) (λ x g. g.was_sent) q.lines h.each) h.order;
          each =
              every_append (IsNear (a.sent + 1) (length a.settled) q.settled_by_damage) q.lines (y ∷ [])
              (each_both (IsNear a.sent (length a.settled) q.settled_by_damage) (HasSlack width q) (IsNear (a.sent + 1) (length a.settled) q.settled_by_damage)
              (λ x g slack. record {
                was_sent = omega (arith, g.was_sent);
                near = omega (arith, room, g.close, slack);
                close = g.close;
                born = g.born;
              }) q.lines h.each b)
              (record { was_sent = omega arith; near = omega arith; close = omega (arith, h.sound.all); born = omega arith }, tt);
        }

    -- the front line keeps it
    pub queue_sound_delivered : (q : OneQueue Q) (lines : List InFlight) (line : List ℕ) → q.lines ≡ lines → IsOfFront heard lines line → QueueSound width q
        → QueueSound width (queue_delivered heard width q lines line)
    queue_sound_delivered q [] line e p h = h
    queue_sound_delivered q (x ∷ rest) line e p h =
        let a = q.account in
        let each = subst (λ l. AllByRecursion (IsNear a.sent (length a.settled) q.settled_by_damage) l) e h.each in
        let order = subst (λ l. Ordered 0 l) e h.order in
        let fresh : IsFresh heard a.sent x.number line = record { was_sent = each.0.was_sent; id = p; near = each.0.near } in
        let count = length (account_heard heard width a (Of x.number) line).settled in
        let after = count_fresh heard width narrow a x.number line fresh h.sound in
        record {
          sound = sound_fresh heard width narrow a x.number line fresh h.sound;
          order = ordered_lower 0 x.number rest order.0 order.1;
          each =
              each_both (λ y. x.number ≤ y.number) (IsNear a.sent (length a.settled) q.settled_by_damage) (IsNear a.sent count q.settled_by_damage)
              (λ y le g. record {
                was_sent = g.was_sent;
                near = g.near;
                close = elim after [
                  | inl same ↦ omega (arith, same, g.close)
                  | inr one ↦ omega (arith, one, le, g.born)
                ];
                born = g.born;
              }) rest (ordered_each x.number rest order.1) each.1;
        }

    -- a damaged line keeps it
    pub queue_sound_damaged : (q : OneQueue Q) (line : List ℕ) → QueueSound width q → QueueSound width (queue_damaged q (account_heard heard width q.account Damaged line))
    queue_sound_damaged q line h =
        let a = q.account in
        let grows = count_grows heard width narrow a Damaged line h.sound in
        record {
          sound = sound_damaged heard width narrow a line h.sound;
          order = h.order;
          each =
              each_weaker (IsNear a.sent (length a.settled) q.settled_by_damage) _
              (λ x g. record { was_sent = g.was_sent; near = g.near; close = omega (arith, g.close, grows.0); born = omega (arith, g.born) }) q.lines h.each;
        }

    -- each step keeps it
    pub queue_sound_after : (q : OneQueue Q) (s : Step Q) → IsPossible heard width q s → IfSent width (HasSlack width) q s → QueueSound width q → QueueSound width (queue_after heard width q s)
    queue_sound_after q (Send target call deadline) p b h = queue_sound_sent q target call deadline (eqb (length q.account.client.waiting) width) refl b h
    queue_sound_after q (Expire now) p b h = record { sound = sound_expired width q.account now h.sound; order = h.order; each = h.each }
    queue_sound_after q (Deliver line) p b h = queue_sound_delivered q q.lines line refl p h
    queue_sound_after q (Damage line) p b h = queue_sound_damaged q line h
    queue_sound_after q (Lose k) p b h = record { sound = h.sound; order = ordered_without 0 k q.lines h.order; each = each_without _ k q.lines h.each }
    queue_sound_after q (Repeat k) p b h = record { sound = h.sound; order = ordered_doubled 0 k q.lines h.order; each = each_doubled _ k q.lines h.each }

    -- steps keep it
    pub queue_sound_steps : (steps : List (Step Q)) (q : OneQueue Q) → Throughout heard width (IsPossible heard width) q steps → Throughout heard width (IfSent width (HasSlack width)) q steps
        → QueueSound width q → QueueSound width (queue heard width q steps)
    queue_sound_steps [] q p b h = h
    queue_sound_steps (s ∷ steps) q p b h = queue_sound_steps steps (queue_after heard width q s) p.1 b.1 (queue_sound_after q s p.0 b.0 h)

    -- it holds at the start
    pub queue_sound_start : QueueSound width nothing_in_flight
    queue_sound_start = record { sound = sound_opened width; order = tt; each = tt }

    -- damage is local if the lines have slack at each send
    pub local_with_slack : (steps : List (Step Q)) → ArePossible heard width steps → HaveSlack heard width steps → IsLocal (account_at_end heard width steps)
    local_with_slack steps p b = local_if_sound width _ (queue_sound_steps steps nothing_in_flight p b queue_sound_start).sound
