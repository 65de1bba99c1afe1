-- Over both queues damage is local if the lines have slack at each send: the whole lines are one queue.
use Rattle.gc_theorems.proofs.Common.{◌≡◌, ℕ, zero, suc, ◌≤◌, Bool, true, false, List, [], ◌∷◌, ◌++◌, length, Option, Some, None, refl, sym, ◌∙◌, ap, subst, arith, append_assoc, eqb, IfSome, AllByRecursion, WINDOW, send_unless_full, InFlight, OneQueue, next_line, queue_sent, HasSlack}
use Rattle.std.specs.Prelude.{if◌then◌else◌}
use Rattle.gc_theorems.specs.Damage.{IsLocal}
use Rattle.gc_theorems.specs.OneQueue.{without, doubled}
use Rattle.gc_theorems.specs.TwoQueues.{Mark, Whole, Noise, TwoQueues, Act, Send, Expire, Deliver, Execute, Answer_again, Restart, Up_lose, Up_repeat, Up_noise, Down_lose, Down_repeat, Down_noise, IsPossibleWithSlack, ArePossibleWithSlack, IsOfFrontReply, acted, as_one, as_queue, empty_line, line_after, line_answered, line_delivered, line_executed, line_sent, whole_in, with_noise}
use Rattle.gc_theorems.proofs.ClientLocal.{local_if_sound, sound_expired}
use Rattle.gc_theorems.proofs.Orders.{Ordered, ordered_lower}
use Rattle.gc_theorems.proofs.Slack.{QueueSound, queue_sound_damaged, queue_sound_delivered, queue_sound_sent, queue_sound_start}

-- Lists of whole lines.

-- the whole lines of two queues
whole_append : (ms ns : List Mark) → whole_in (ms ++ ns) ≡ whole_in ms ++ whole_in ns
whole_append [] ns = refl
whole_append (Whole x ∷ ms) ns = ap (λ l. x ∷ l) (whole_append ms ns)
whole_append (Noise ∷ ms) ns = whole_append ms ns

-- noise adds no whole line
whole_with_noise : (k : ℕ) (ms : List Mark) → whole_in (with_noise k ms) ≡ whole_in ms
whole_with_noise zero [] = refl
whole_with_noise (suc k) [] = refl
whole_with_noise zero (m ∷ ms) = refl
whole_with_noise (suc k) (Whole x ∷ ms) = ap (λ l. x ∷ l) (whole_with_noise k ms)
whole_with_noise (suc k) (Noise ∷ ms) = whole_with_noise k ms

-- ys is what is left of xs once some lines were lost and some repeated: it is in order if xs is, and what holds of each line of xs
-- holds of each of ys
record Thins (xs ys : List InFlight) : Type 1 where
  order : (low : ℕ) → Ordered low xs → Ordered low ys
  each : (P : InFlight → Type 0) → AllByRecursion P xs → AllByRecursion P ys

-- equal lists
thins_same : (xs ys : List InFlight) → ys ≡ xs → Thins xs ys
thins_same xs ys e = record { order = λ low h. subst (λ l. Ordered low l) (sym e) h; each = λ P h. subst (λ l. AllByRecursion P l) (sym e) h }

-- one after the other
thins_both : (xs ys zs : List InFlight) → Thins xs ys → Thins ys zs → Thins xs zs
thins_both xs ys zs f g = record { order = λ low h. g.order low (f.order low h); each = λ P h. g.each P (f.each P h) }

-- the first element stays
thins_cons : (x : InFlight) (xs ys : List InFlight) → Thins xs ys → Thins (x ∷ xs) (x ∷ ys)
thins_cons x xs ys f = record { order = λ low h. (h.0, f.order x.number h.1); each = λ P h. (h.0, f.each P h.1) }

-- the first element is lost
thins_tail : (x : InFlight) (xs : List InFlight) → Thins (x ∷ xs) xs
thins_tail x xs = record { order = λ low h. ordered_lower low x.number xs h.0 h.1; each = λ P h. h.1 }

-- the first element is repeated
thins_twice : (x : InFlight) (xs : List InFlight) → Thins (x ∷ xs) (x ∷ x ∷ xs)
thins_twice x xs = record { order = λ low h. (h.0, (omega arith, h.1)); each = λ P h. (h.0, (h.0, h.1)) }

-- what is before stays
thins_behind : (xs ys zs : List InFlight) → Thins ys zs → Thins (xs ++ ys) (xs ++ zs)
thins_behind [] ys zs f = f
thins_behind (x ∷ xs) ys zs f = thins_cons x (xs ++ ys) (xs ++ zs) (thins_behind xs ys zs f)

-- the elements of a list before others are lost
thins_front : (xs ys : List InFlight) → Thins (xs ++ ys) ys
thins_front [] ys = thins_same ys ys refl
thins_front (x ∷ xs) ys = thins_both (x ∷ (xs ++ ys)) (xs ++ ys) ys (thins_tail x (xs ++ ys)) (thins_front xs ys)

-- line k of a queue is lost
thins_without : (k : ℕ) (ms : List Mark) (ys : List InFlight) → Thins (whole_in ms ++ ys) (whole_in (without k ms) ++ ys)
thins_without zero [] ys = thins_same ys ys refl
thins_without (suc k) [] ys = thins_same ys ys refl
thins_without zero (Whole x ∷ ms) ys = thins_tail x (whole_in ms ++ ys)
thins_without zero (Noise ∷ ms) ys = thins_same _ _ refl
thins_without (suc k) (Whole x ∷ ms) ys = thins_cons x _ _ (thins_without k ms ys)
thins_without (suc k) (Noise ∷ ms) ys = thins_without k ms ys

-- line k of a queue is repeated
thins_doubled : (k : ℕ) (ms : List Mark) (ys : List InFlight) → Thins (whole_in ms ++ ys) (whole_in (doubled k ms) ++ ys)
thins_doubled zero [] ys = thins_same ys ys refl
thins_doubled (suc k) [] ys = thins_same ys ys refl
thins_doubled zero (Whole x ∷ ms) ys = thins_twice x (whole_in ms ++ ys)
thins_doubled zero (Noise ∷ ms) ys = thins_same _ _ refl
thins_doubled (suc k) (Whole x ∷ ms) ys = thins_cons x _ _ (thins_doubled k ms ys)
thins_doubled (suc k) (Noise ∷ ms) ys = thins_doubled k ms ys

-- the same of a queue that is last, if a line is lost
thins_without_last : (k : ℕ) (ms : List Mark) → Thins (whole_in ms) (whole_in (without k ms))
thins_without_last zero [] = thins_same [] [] refl
thins_without_last (suc k) [] = thins_same [] [] refl
thins_without_last zero (Whole x ∷ ms) = thins_tail x (whole_in ms)
thins_without_last zero (Noise ∷ ms) = thins_same _ _ refl
thins_without_last (suc k) (Whole x ∷ ms) = thins_cons x _ _ (thins_without_last k ms)
thins_without_last (suc k) (Noise ∷ ms) = thins_without_last k ms

-- the same, if a line is repeated
thins_doubled_last : (k : ℕ) (ms : List Mark) → Thins (whole_in ms) (whole_in (doubled k ms))
thins_doubled_last zero [] = thins_same [] [] refl
thins_doubled_last (suc k) [] = thins_same [] [] refl
thins_doubled_last zero (Whole x ∷ ms) = thins_twice x (whole_in ms)
thins_doubled_last zero (Noise ∷ ms) = thins_same _ _ refl
thins_doubled_last (suc k) (Whole x ∷ ms) = thins_cons x _ _ (thins_doubled_last k ms)
thins_doubled_last (suc k) (Noise ∷ ms) = thins_doubled_last k ms

-- the front request is executed: its reply takes its place, and is kept or not; what was kept before is lost
thins_executed : (keeps : Bool) (down : List Mark) (kept : List InFlight) (m : Mark) (rest : List InFlight)
    → Thins (whole_in down ++ (kept ++ (whole_in (m ∷ []) ++ rest))) (whole_in (down ++ m ∷ []) ++ (whole_in (as_queue (if keeps then Some m else None)) ++ rest))
thins_executed keeps down kept m rest =
    thins_both (whole_in down ++ (kept ++ (whole_in (m ∷ []) ++ rest))) (whole_in down ++ (whole_in (m ∷ []) ++ rest)) _
    (thins_behind (whole_in down) (kept ++ (whole_in (m ∷ []) ++ rest)) (whole_in (m ∷ []) ++ rest) (thins_front kept (whole_in (m ∷ []) ++ rest)))
    (thins_both (whole_in down ++ (whole_in (m ∷ []) ++ rest)) (whole_in down ++ (whole_in (m ∷ []) ++ (whole_in (as_queue (if keeps then Some m else None)) ++ rest))) _
    (thins_behind (whole_in down) (whole_in (m ∷ []) ++ rest) _ (at_front keeps m))
    (thins_same _ _ (ap (λ l. l ++ (whole_in (as_queue (if keeps then Some m else None)) ++ rest)) (whole_append down (m ∷ []))
    ∙ append_assoc (whole_in down) (whole_in (m ∷ [])) (whole_in (as_queue (if keeps then Some m else None)) ++ rest))))
  where
    -- the same without what is before
    at_front : (keeps : Bool) (m : Mark) → Thins (whole_in (m ∷ []) ++ rest) (whole_in (m ∷ []) ++ (whole_in (as_queue (if keeps then Some m else None)) ++ rest))
    at_front true (Whole x) = thins_twice x rest
    at_front true Noise = thins_same rest rest refl
    at_front false (Whole x) = thins_same (x ∷ rest) (x ∷ rest) refl
    at_front false Noise = thins_same rest rest refl

-- what is kept is sent again, in place of the front request, which is lost
thins_answered : (down : List Mark) (m x : Mark) (rest : List Mark)
    → Thins (whole_in down ++ (whole_in (m ∷ []) ++ whole_in (x ∷ rest))) (whole_in (down ++ m ∷ []) ++ (whole_in (m ∷ []) ++ whole_in rest))
thins_answered down m x rest =
    thins_both (whole_in down ++ (whole_in (m ∷ []) ++ whole_in (x ∷ rest))) (whole_in down ++ (whole_in (m ∷ []) ++ (whole_in (m ∷ []) ++ whole_in rest))) _
    (thins_behind (whole_in down) (whole_in (m ∷ []) ++ whole_in (x ∷ rest)) _
    (thins_both (whole_in (m ∷ []) ++ whole_in (x ∷ rest)) (whole_in (m ∷ []) ++ whole_in rest) _
    (thins_behind (whole_in (m ∷ [])) (whole_in (x ∷ rest)) (whole_in rest) (lost x)) (twice m)))
    (thins_same _ _ (ap (λ l. l ++ (whole_in (m ∷ []) ++ whole_in rest)) (whole_append down (m ∷ []))
    ∙ append_assoc (whole_in down) (whole_in (m ∷ [])) (whole_in (m ∷ []) ++ whole_in rest)))
  where
    -- the front request is lost
    lost : (x : Mark) → Thins (whole_in (x ∷ rest)) (whole_in rest)
    lost (Whole y) = thins_tail y (whole_in rest)
    lost Noise = thins_same (whole_in rest) (whole_in rest) refl

    -- what is kept is repeated
    twice : (m : Mark) → Thins (whole_in (m ∷ []) ++ whole_in rest) (whole_in (m ∷ []) ++ (whole_in (m ∷ []) ++ whole_in rest))
    twice (Whole y) = thins_twice y (whole_in rest)
    twice Noise = thins_same (whole_in rest) (whole_in rest) refl

module _ {Q : Type 0} where
  -- the whole lines as one queue, with these in their place
  abbrev queue_with : TwoQueues Q → List InFlight → OneQueue Q
  queue_with l xs = record { account = l.account; settled_by_damage = l.settled_by_damage; lines = xs }

  -- The invariant of the line is that of its whole lines as one queue.
  abbrev LineSound : ℕ → TwoQueues Q → Type 0
  LineSound width l = QueueSound width (as_one l)

  -- a queue with thinned lines is as sound
  thinned : (width : ℕ) (q : OneQueue Q) (xs : List InFlight) → Thins q.lines xs → QueueSound width q → QueueSound width (record { account = q.account; settled_by_damage = q.settled_by_damage; lines = xs })
  thinned width q xs t h = record { sound = h.sound; order = t.order 0 h.order; each = t.each _ h.each }

  module _ (heard : List ℕ → Option ℕ) (width : ℕ) (narrow : width ≤ WINDOW) where
    -- a send keeps it
    line_sent_sound : (l : TwoQueues Q) (target : ℕ) (call : Q) (deadline : ℕ) (full : Bool) → eqb (length l.account.client.waiting) width ≡ full
        → IfSome (send_unless_full l.account.client target call deadline full) (λ _. AllByRecursion (HasSlack width (as_one l)) (as_one l).lines)
        → LineSound width l → LineSound width (line_sent l (send_unless_full l.account.client target call deadline full))
    line_sent_sound l target call deadline true e b h = h
    line_sent_sound l target call deadline false e b h =
        let y : InFlight = next_line l.account l.settled_by_damage in
        let sent = queue_sound_sent heard width narrow (as_one l) target call deadline false e b h in
        let back : whole_in l.down ++ (whole_in (as_queue l.kept) ++ whole_in (l.up ++ Whole y ∷ [])) ≡ (as_one l).lines ++ y ∷ [] =
        ap (λ u. whole_in l.down ++ (whole_in (as_queue l.kept) ++ u)) (whole_append l.up (Whole y ∷ []))
        ∙ ap (λ u. whole_in l.down ++ u) (sym (append_assoc (whole_in (as_queue l.kept)) (whole_in l.up) (y ∷ [])))
        ∙ sym (append_assoc (whole_in l.down) (whole_in (as_queue l.kept) ++ whole_in l.up) (y ∷ [])) in
        thinned width (queue_sent (as_one l) (send_unless_full l.account.client target call deadline false)) _ (thins_same _ _ back) sent

    -- the front reply keeps it
    line_delivered_sound : (l : TwoQueues Q) (down : List Mark) (line : List ℕ) → l.down ≡ down → IsOfFrontReply heard down line → LineSound width l
        → LineSound width (line_delivered heard width l down line)
    line_delivered_sound l [] line e p h = h
    line_delivered_sound l (Whole x ∷ rest) line e p h =
        let same : (as_one l).lines ≡ x ∷ (whole_in rest ++ (whole_in (as_queue l.kept) ++ whole_in l.up)) = ap (λ d. whole_in d ++ (whole_in (as_queue l.kept) ++ whole_in l.up)) e in
        queue_sound_delivered heard width narrow (as_one l) (x ∷ (whole_in rest ++ (whole_in (as_queue l.kept) ++ whole_in l.up))) line same p h
    line_delivered_sound l (Noise ∷ rest) line e p h =
        let same : (as_one l).lines ≡ whole_in rest ++ (whole_in (as_queue l.kept) ++ whole_in l.up) = ap (λ d. whole_in d ++ (whole_in (as_queue l.kept) ++ whole_in l.up)) e in
        queue_sound_damaged heard width narrow (queue_with l (whole_in rest ++ (whole_in (as_queue l.kept) ++ whole_in l.up))) line
        (thinned width (as_one l) _ (thins_same _ _ (sym same)) h)

    -- the front request, once it is executed, keeps it
    line_executed_sound : (l : TwoQueues Q) (keeps : Bool) (up : List Mark) → l.up ≡ up → LineSound width l → LineSound width (line_executed l keeps up)
    line_executed_sound l keeps [] e h = h
    line_executed_sound l keeps (m ∷ rest) e h =
        let same : (as_one l).lines ≡ whole_in l.down ++ (whole_in (as_queue l.kept) ++ (whole_in (m ∷ []) ++ whole_in rest)) =
        ap (λ u. whole_in l.down ++ (whole_in (as_queue l.kept) ++ u)) (ap whole_in e ∙ whole_append (m ∷ []) rest) in
        thinned width (as_one l) _
        (thins_both (as_one l).lines _ _ (thins_same _ _ (sym same)) (thins_executed keeps l.down (whole_in (as_queue l.kept)) m (whole_in rest))) h

    -- what the instrument keeps, if it is sent again, keeps it
    line_answered_sound : (l : TwoQueues Q) (kept : Option Mark) (up : List Mark) → l.kept ≡ kept → l.up ≡ up → LineSound width l → LineSound width (line_answered l kept up)
    line_answered_sound l None up e g h = h
    line_answered_sound l (Some m) [] e g h = h
    line_answered_sound l (Some m) (x ∷ rest) e g h =
        let same : (as_one l).lines ≡ whole_in l.down ++ (whole_in (m ∷ []) ++ whole_in (x ∷ rest)) =
        ap (λ o. whole_in l.down ++ (whole_in (as_queue o) ++ whole_in l.up)) e ∙ ap (λ u. whole_in l.down ++ (whole_in (m ∷ []) ++ whole_in u)) g in
        let after : whole_in (l.down ++ m ∷ []) ++ (whole_in (as_queue l.kept) ++ whole_in rest) ≡ whole_in (l.down ++ m ∷ []) ++ (whole_in (m ∷ []) ++ whole_in rest) =
        ap (λ o. whole_in (l.down ++ m ∷ []) ++ (whole_in (as_queue o) ++ whole_in rest)) e in
        thinned width (as_one l) _
        (thins_both (as_one l).lines _ _ (thins_same _ _ (sym same)) (thins_both _ _ _ (thins_answered l.down m x rest) (thins_same _ _ after))) h

    -- each act keeps it
    act_sound : (l : TwoQueues Q) (a : Act Q) → IsPossibleWithSlack heard width l a → LineSound width l → LineSound width (line_after heard width l a)
    act_sound l (Send target call deadline) p h = line_sent_sound l target call deadline (eqb (length l.account.client.waiting) width) refl p h
    act_sound l (Expire now) p h = record { sound = sound_expired width l.account now h.sound; order = h.order; each = h.each }
    act_sound l (Deliver line) p h = line_delivered_sound l l.down line refl p h
    act_sound l (Execute keeps) p h = line_executed_sound l keeps l.up refl h
    act_sound l Answer_again p h = line_answered_sound l l.kept l.up refl refl h
    act_sound l Restart p h =
        thinned width (as_one l) _ (thins_behind (whole_in l.down) (whole_in (as_queue l.kept) ++ whole_in l.up) (whole_in l.up) (thins_front (whole_in (as_queue l.kept)) (whole_in l.up))) h
    act_sound l (Up_lose k) p h =
        thinned width (as_one l) _ (thins_behind (whole_in l.down) (whole_in (as_queue l.kept) ++ whole_in l.up) _ (thins_behind (whole_in (as_queue l.kept)) (whole_in l.up) _ (thins_without_last k l.up))) h
    act_sound l (Up_repeat k) p h =
        thinned width (as_one l) _ (thins_behind (whole_in l.down) (whole_in (as_queue l.kept) ++ whole_in l.up) _ (thins_behind (whole_in (as_queue l.kept)) (whole_in l.up) _ (thins_doubled_last k l.up))) h
    act_sound l (Up_noise k) p h =
        thinned width (as_one l) _ (thins_same _ _ (ap (λ u. whole_in l.down ++ (whole_in (as_queue l.kept) ++ u)) (whole_with_noise k l.up))) h
    act_sound l (Down_lose k) p h = thinned width (as_one l) _ (thins_without k l.down (whole_in (as_queue l.kept) ++ whole_in l.up)) h
    act_sound l (Down_repeat k) p h = thinned width (as_one l) _ (thins_doubled k l.down (whole_in (as_queue l.kept) ++ whole_in l.up)) h
    act_sound l (Down_noise k) p h =
        thinned width (as_one l) _ (thins_same _ _ (ap (λ u. u ++ (whole_in (as_queue l.kept) ++ whole_in l.up)) (whole_with_noise k l.down))) h

    -- acts keep it
    acts_sound : (acts : List (Act Q)) (l : TwoQueues Q) → ArePossibleWithSlack heard width l acts → LineSound width l → LineSound width (acted heard width l acts)
    acts_sound [] l p h = h
    acts_sound (a ∷ acts) l p h = acts_sound acts (line_after heard width l a) p.1 (act_sound l a p.0 h)

    -- over both queues damage is local
    pub line_is_local : (acts : List (Act Q)) → ArePossibleWithSlack heard width empty_line acts → IsLocal (acted heard width empty_line acts).account
    line_is_local acts p = local_if_sound width _ (acts_sound acts empty_line p (queue_sound_start heard width narrow)).sound
