-- Rare damage is local: if at most k damaged lines come while a line of any one request is in flight, and the window is at most
-- 7 / (k + 1) wide, the lines have slack at each send.
use Rattle.gc_theorems.proofs.Common.{◌≡◌, ℕ, suc, ◌+◌, ◌-◌, ◌*◌, ◌≤◌, List, [], ◌∷◌, length, Option, Some, None, refl, ◌∙◌, ap, subst, arith, IfSome, AllByRecursion, every_append, mul-le-mul_right, suc-mul, WINDOW, ById, Sending, Damaged, account_heard, InFlight, OneQueue, Deliver, Damage, Lose, Repeat, Throughout, account_at_end, next_line, nothing_in_flight, queue_after, queue_damaged, queue_delivered, queue_sent, HasSlack, HasSeenFew, IfSent, AreRare}
use Rattle.gc_theorems.specs.Damage.{IsLocal}
use Rattle.gc_theorems.specs.OneQueue.{Step, Send, Expire, IsPossible, ArePossible}
use Rattle.gc_theorems.proofs.Orders.{each_doubled, each_weaker, each_without}
use Rattle.gc_theorems.proofs.ClientCounting.{count_grows}
use Rattle.gc_theorems.proofs.Slack.{QueueSound, local_with_slack, queue_sound_after, queue_sound_start}

-- one more times `width`
one_more_times : (n width : ℕ) → (n + 1) * width ≡ n * width + width
one_more_times n width = let e : n + 1 ≡ suc n = omega arith in ap (λ i. i * width) e ∙ suc-mul n width

-- damaged lines settled at most the window's width for each of them that came since the request of line x was sent
pub record MovesLittle (width damaged by_damage : ℕ) (x : InFlight) : Type 0 where
  pub seen : x.damaged ≤ damaged
  pub little : by_damage ≤ x.settled_by_damage + (damaged - x.damaged) * width

-- also with one more of them
moves_more : (width damaged by_damage more : ℕ) (x : InFlight) → more ≤ width → MovesLittle width damaged by_damage x → MovesLittle width (damaged + 1) (by_damage + more) x
moves_more width damaged by_damage more x le h =
    let e : damaged + 1 - x.damaged ≡ damaged - x.damaged + 1 = omega (arith, h.seen) in
    let times : (damaged + 1 - x.damaged) * width ≡ (damaged - x.damaged) * width + width = ap (λ i. i * width) e ∙ one_more_times (damaged - x.damaged) width in
    record { seen = omega (arith, h.seen); little = omega (arith, h.little, times, le) }

-- if few of them came since, and the window is narrow for that, the line has slack
slack_few : (width k damaged by_damage : ℕ) (x : InFlight) → (k + 1) * width ≤ WINDOW → damaged ≤ x.damaged + k → MovesLittle width damaged by_damage x → by_damage + width ≤ x.settled_by_damage + WINDOW
slack_few width k damaged by_damage x narrow few h =
    let less : damaged - x.damaged ≤ k = omega (arith, few) in
    let times : (damaged - x.damaged) * width ≤ k * width = mul-le-mul_right width less in
    let one = one_more_times k width in
    omega (arith, h.little, times, one, narrow)

-- a window that is narrow for k damaged lines is at most seven wide
narrow_anyhow : (width k : ℕ) → (k + 1) * width ≤ WINDOW → width ≤ WINDOW
narrow_anyhow width k narrow = let one = one_more_times k width in omega (arith, one, narrow)

module _ {Q : Type 0} (heard : List ℕ → Option ℕ) (width k : ℕ) (narrow : (k + 1) * width ≤ WINDOW) where
  -- damaged lines settled little since the request of each line in flight was sent
  abbrev MovedLittle : OneQueue Q → Type 0
  MovedLittle q = AllByRecursion (MovesLittle width q.account.damaged q.settled_by_damage) q.lines

  -- then the lines have slack at a send if few of them came
  slack_if_rare : (q : OneQueue Q) (o : Option (Sending (ById Q))) → IfSome o (λ _. AllByRecursion (HasSeenFew k q) q.lines) → MovedLittle q
      → IfSome o (λ _. AllByRecursion (HasSlack width q) q.lines)
  slack_if_rare q None r h = tt
  slack_if_rare q (Some x) r h = both q.lines r h where
    -- each of these lines has slack
    both : (xs : List InFlight) → AllByRecursion (HasSeenFew k q) xs → AllByRecursion (MovesLittle width q.account.damaged q.settled_by_damage) xs → AllByRecursion (HasSlack width q) xs
    both [] r h = tt
    both (x ∷ xs) r h = (slack_few width k q.account.damaged q.settled_by_damage x narrow r.0 h.0, both xs r.1 h.1)

  -- a send keeps this
  little_sent : (q : OneQueue Q) (o : Option (Sending (ById Q))) → MovedLittle q → MovedLittle (queue_sent q o)
  little_sent q None h = h
  little_sent q (Some x) h =
      every_append (MovesLittle width q.account.damaged q.settled_by_damage) q.lines (next_line q.account q.settled_by_damage ∷ []) h (record { seen = omega arith; little = omega arith }, tt)

  -- the front line keeps it
  little_delivered : (q : OneQueue Q) (lines : List InFlight) (line : List ℕ) → q.lines ≡ lines → MovedLittle q → MovedLittle (queue_delivered heard width q lines line)
  little_delivered q [] line e h = h
  little_delivered q (x ∷ rest) line e h = (subst (λ l. AllByRecursion (MovesLittle width q.account.damaged q.settled_by_damage) l) e h).1

  -- a damaged line keeps it
  little_damaged : (q : OneQueue Q) (line : List ℕ) → QueueSound width q → MovedLittle q → MovedLittle (queue_damaged q (account_heard heard width q.account Damaged line))
  little_damaged q line s h =
      let grows = count_grows heard width (narrow_anyhow width k narrow) q.account Damaged line s.sound in
      each_weaker (MovesLittle width q.account.damaged q.settled_by_damage) _
      (λ x m. moves_more width q.account.damaged q.settled_by_damage (length (account_heard heard width q.account Damaged line).settled - length q.account.settled) x (omega (arith, grows.1)) m) q.lines h

  -- a step at which the lines have slack keeps the invariant of the queue
  sound_after : (q : OneQueue Q) (s : Step Q) → IsPossible heard width q s → IfSent width (HasSlack width) q s → QueueSound width q → QueueSound width (queue_after heard width q s)
  sound_after q s p b h = queue_sound_after heard width (narrow_anyhow width k narrow) q s p b h

  -- with rare damage the lines have slack at each step
  slack_all_rare : (steps : List (Step Q)) (q : OneQueue Q) → QueueSound width q → MovedLittle q → Throughout heard width (IsPossible heard width) q steps
      → Throughout heard width (IfSent width (HasSeenFew k)) q steps → Throughout heard width (IfSent width (HasSlack width)) q steps
  slack_all_rare [] q s h p r = tt
  slack_all_rare (Send target call deadline ∷ steps) q s h p r =
      let b = slack_if_rare q _ r.0 h in
      (b, slack_all_rare steps _ (sound_after q (Send target call deadline) tt b s) (little_sent q _ h) p.1 r.1)
  slack_all_rare (Expire now ∷ steps) q s h p r = (tt, slack_all_rare steps _ (sound_after q (Expire now) tt tt s) h p.1 r.1)
  slack_all_rare (Deliver line ∷ steps) q s h p r =
      (tt, slack_all_rare steps _ (sound_after q (Deliver line) p.0 tt s) (little_delivered q q.lines line refl h) p.1 r.1)
  slack_all_rare (Damage line ∷ steps) q s h p r = (tt, slack_all_rare steps _ (sound_after q (Damage line) tt tt s) (little_damaged q line s h) p.1 r.1)
  slack_all_rare (Lose i ∷ steps) q s h p r = (tt, slack_all_rare steps _ (sound_after q (Lose i) tt tt s) (each_without _ i q.lines h) p.1 r.1)
  slack_all_rare (Repeat i ∷ steps) q s h p r = (tt, slack_all_rare steps _ (sound_after q (Repeat i) tt tt s) (each_doubled _ i q.lines h) p.1 r.1)

  -- rare damage is local
  pub rare_is_local : (steps : List (Step Q)) → ArePossible heard width steps → AreRare heard width k steps → IsLocal (account_at_end heard width steps)
  rare_is_local steps p r =
      local_with_slack heard width (narrow_anyhow width k narrow) steps p
      (slack_all_rare steps nothing_in_flight (queue_sound_start heard width (narrow_anyhow width k narrow)) tt p r)
