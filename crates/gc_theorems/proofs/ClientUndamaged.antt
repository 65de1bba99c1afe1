-- Without damage the lines have slack at each send, and each answer is own.
use Rattle.gc_theorems.proofs.Common.{◌≡◌, ℕ, zero, suc, ◌≤◌, List, [], ◌∷◌, Option, Some, None, refl, ◌∙◌, ap, arith, IfSome, slice_get, AllByRecursion, same_Some, none-some, WINDOW, ById, Sending, Origin, Of, Damaged, ended_by_damage, one_if_damaged, InFlight, OneQueue, Deliver, Damage, Lose, Repeat, Throughout, account_at_end, nothing_in_flight, queue, queue_delivered, queue_sent, HasSlack, IfSent, HasNoDamage}
use Rattle.gc_theorems.specs.OneQueue.{Step, Send, Expire, ArePossible}
use Rattle.gc_theorems.proofs.Slack.{local_with_slack}

-- no request was ended by a damaged line, if none of these was
none_ended : (os : List (Option Origin)) (i : ℕ) → ended_by_damage os ≤ 0 → slice_get os i ≡ Some (Some Damaged) → ⊥
none_ended [] i few e = absurd (none-some _ e)
none_ended (o ∷ os) zero few e = let one : one_if_damaged o ≡ 1 = ap one_if_damaged (same_Some _ _ e) in omega (arith, few, one)
none_ended (o ∷ os) (suc i) few e = none_ended os i (omega (arith, few)) e

module _ {Q : Type 0} (heard : List ℕ → Option ℕ) (width : ℕ) (narrow : width ≤ WINDOW) where
  -- each line has slack as long as damaged lines have settled nothing
  slack_all : (q : OneQueue Q) → q.settled_by_damage ≡ 0 → (xs : List InFlight) → AllByRecursion (HasSlack width q) xs
  slack_all q e [] = tt
  slack_all q e (x ∷ xs) = (omega (arith, e, narrow), slack_all q e xs)

  -- so each line has slack at a send
  slack_if_sent : (q : OneQueue Q) → q.settled_by_damage ≡ 0 → (o : Option (Sending (ById Q))) → IfSome o (λ _. AllByRecursion (HasSlack width q) q.lines)
  slack_if_sent q e None = tt
  slack_if_sent q e (Some x) = slack_all q e q.lines

  -- a send settles nothing by damage
  moved_sent : (q : OneQueue Q) (o : Option (Sending (ById Q))) → (queue_sent q o).settled_by_damage ≡ q.settled_by_damage
  moved_sent q None = refl
  moved_sent q (Some x) = refl

  -- nor does the front line
  moved_delivered : (q : OneQueue Q) (xs : List InFlight) (line : List ℕ) → (queue_delivered heard width q xs line).settled_by_damage ≡ q.settled_by_damage
  moved_delivered q [] line = refl
  moved_delivered q (x ∷ xs) line = refl

  -- without damage the lines have slack at each send
  pub slack_undamaged : (steps : List (Step Q)) (q : OneQueue Q) → q.settled_by_damage ≡ 0 → HasNoDamage steps → Throughout heard width (IfSent width (HasSlack width)) q steps
  slack_undamaged [] q e n = tt
  slack_undamaged (Send target call deadline ∷ steps) q e n = (slack_if_sent q e _, slack_undamaged steps _ (moved_sent q _ ∙ e) n)
  slack_undamaged (Expire now ∷ steps) q e n = (tt, slack_undamaged steps _ e n)
  slack_undamaged (Deliver line ∷ steps) q e n = (tt, slack_undamaged steps _ (moved_delivered q q.lines line ∙ e) n)
  slack_undamaged (Damage line ∷ steps) q e n = absurd n
  slack_undamaged (Lose k ∷ steps) q e n = (tt, slack_undamaged steps _ e n)
  slack_undamaged (Repeat k ∷ steps) q e n = (tt, slack_undamaged steps _ e n)

  -- without damage damaged lines settle nothing
  pub moved_undamaged : (steps : List (Step Q)) (q : OneQueue Q) → HasNoDamage steps → (queue heard width q steps).settled_by_damage ≡ q.settled_by_damage
  moved_undamaged [] q n = refl
  moved_undamaged (Send target call deadline ∷ steps) q n = moved_undamaged steps _ n ∙ moved_sent q _
  moved_undamaged (Expire now ∷ steps) q n = moved_undamaged steps _ n
  moved_undamaged (Deliver line ∷ steps) q n = moved_undamaged steps _ n ∙ moved_delivered q q.lines line
  moved_undamaged (Damage line ∷ steps) q n = absurd n
  moved_undamaged (Lose k ∷ steps) q n = moved_undamaged steps _ n
  moved_undamaged (Repeat k ∷ steps) q n = moved_undamaged steps _ n

  -- a send adds no damaged line
  count_sent : (q : OneQueue Q) (o : Option (Sending (ById Q))) → (queue_sent q o).account.damaged ≡ q.account.damaged
  count_sent q None = refl
  count_sent q (Some x) = refl

  -- nor does the front line
  count_delivered : (q : OneQueue Q) (xs : List InFlight) (line : List ℕ) → (queue_delivered heard width q xs line).account.damaged ≡ q.account.damaged
  count_delivered q [] line = refl
  count_delivered q (x ∷ xs) line = refl

  -- without damage no damaged line came
  count_undamaged : (steps : List (Step Q)) (q : OneQueue Q) → HasNoDamage steps → (queue heard width q steps).account.damaged ≡ q.account.damaged
  count_undamaged [] q n = refl
  count_undamaged (Send target call deadline ∷ steps) q n = count_undamaged steps _ n ∙ count_sent q _
  count_undamaged (Expire now ∷ steps) q n = count_undamaged steps _ n
  count_undamaged (Deliver line ∷ steps) q n = count_undamaged steps _ n ∙ count_delivered q q.lines line
  count_undamaged (Damage line ∷ steps) q n = absurd n
  count_undamaged (Lose k ∷ steps) q n = count_undamaged steps _ n
  count_undamaged (Repeat k ∷ steps) q n = count_undamaged steps _ n

  -- without damage each answer is own
  pub own_without_damage : (steps : List (Step Q)) → ArePossible heard width steps → HasNoDamage steps → (m : ℕ) (origin : Origin)
      → slice_get (account_at_end heard width steps).settled m ≡ Some (Some origin) → origin ≡ Of m
  own_without_damage steps p n m (Of number) e =
      ap Of ((local_with_slack heard width narrow steps p (slack_undamaged steps nothing_in_flight refl n)).own m number e)
  own_without_damage steps p n m Damaged e =
      let none : (account_at_end heard width steps).damaged ≡ 0 = count_undamaged steps nothing_in_flight n in
      let few = (local_with_slack heard width narrow steps p (slack_undamaged steps nothing_in_flight refl n)).few in
      absurd (none_ended _ m (omega (arith, few, none)) e)
