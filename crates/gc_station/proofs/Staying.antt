-- A progress that stays in its cycle, at the same command, and acts that stay in their cycle and read moments as `Ticks` says. An act is
-- one call on the link, with its result.
use Rattle.gc_station.proofs.Common.{◌≡◌, ◌⊎◌, inl, inr, false, ℕ, List, min, refl, ap, Progress, Task, Act, Gave, Silent, Closed, Moment, moment_noted, time_passed, quieted, closed, Model, waiting_of, is_heard, with_progress, with_moment, lines_completed, piece_at, Cause, Exchange, Plan, Phase, Until}
use Rattle.gc_station.proofs.ChainSteps.{Still, still, still_but_broken}
use Rattle.gc_station.proofs.Walk.{asked_along, came_along, quieted_along, closed_along, moved_changed}
use Rattle.gc_station.proofs.Ticking.{Ticks}
use Rattle.gc_station.specs.declared.progress.Action.TheVariants as actions

-- q is in the same cycle as p, at the same command, with its chain as it was or broken (`Still`), and the moment at which that
-- cycle was due is the same
pub record Stays (p q : Progress) : Type 0 where
  pub still : Still p q
  pub due : q.due ≡ p.due

-- `Stays` holds if these fields are the same, but for a chain that may be broken in q
pub stays : (p q : Progress) → (left : q.left ≡ p.left) → (unsent : q.unsent ≡ p.unsent) → (missed : q.missed ≡ p.missed) → (due : q.due ≡ p.due)
    → (next_is_chained : q.next_is_chained ≡ p.next_is_chained)
    → (chain_unbroken : (q.chain_unbroken ≡ p.chain_unbroken) ⊎ (q.chain_unbroken ≡ false)) → Stays p q
stays p q left unsent missed due next_is_chained (inl same) = record { still = still p q left unsent missed next_is_chained same; due = due }
stays p q left unsent missed due next_is_chained (inr none) = record { still = (still_but_broken p q left unsent missed next_is_chained none).0; due = due }

-- from p to q an act stays in the cycle, and reads moments as `Ticks` says
abbrev pub StaysAndTicks : (p : Progress) → Act → (q : Progress) → Type 0
StaysAndTicks p act q = Stays p q × Ticks p act q

-- a read that gave bytes stays in its cycle, and reads its moment as `Ticks` says
pub gave_stays : (plan : Plan) (commands : List Task) (until : Until) (s : Model) (bytes : List ℕ) (m : Moment) → StaysAndTicks s.progress (Gave bytes m) (piece_at plan until bytes m s).progress
gave_stays plan commands until s bytes m =
    let mid = with_moment m (with_progress (moment_noted m) s) in
    let heard_there = is_heard s.progress.phase in
    let is = moved_changed plan commands (actions.Read until) s (Gave bytes m) in (
      stays s.progress _ (ap (λ (x : Model). x.progress.left) is) (ap (λ (x : Model). x.progress.unsent) is) (ap (λ (x : Model). x.progress.missed) is) (ap (λ (x : Model). x.progress.due) is)
          (ap (λ (x : Model). x.progress.next_is_chained) is) (inl (ap (λ (x : Model). x.progress.chain_unbroken) is)),
      came_along (λ (x : Model). (x.progress.moment ≡ m) × (x.progress.began ≡ min s.progress.began m.elapsed)) (λ x line e. e) heard_there s.progress.exchange.word bytes mid (refl, refl)
          (asked_along (λ (q : Progress). (q.moment ≡ m) × (q.began ≡ min s.progress.began m.elapsed)) (λ q line e. e) mid.progress (lines_completed s.rest bytes) (refl, refl)) (refl, refl),
    )

-- `StaysAndTicks` holds once a read that gave nothing is noted, whatever the phase and the exchange are then
noted_silent_stays : (p : Progress) (until : Until) (m : Moment) (phase : Phase) (exchange : Exchange)
    → StaysAndTicks p (Silent m) (record (time_passed until m p) { phase = phase; exchange = exchange })
noted_silent_stays p until m phase exchange = (stays p _ refl refl refl refl refl (inl refl), (refl, refl))

-- a read that gave nothing stays in its cycle, and reads its moment as `Ticks` says
pub silent_stays : (plan : Plan) (at : Phase) (p : Progress) (until : Until) (m : Moment) → StaysAndTicks p (Silent m) (quieted plan at (time_passed until m p))
silent_stays plan at p until m =
    quieted_along (λ (q : Progress). StaysAndTicks p (Silent m) q) plan at (time_passed until m p)
    (noted_silent_stays p until m _ _)
    (noted_silent_stays p until m _ _)
    (noted_silent_stays p until m _ _)

-- a close stays in its cycle, and reads no moment, as `Ticks` says
pub closed_stays : (plan : Plan) (s : Model) (why : Cause) → StaysAndTicks s.progress Closed (closed plan (waiting_of s) why s.progress)
closed_stays plan s why =
    closed_along (λ (q : Progress). StaysAndTicks s.progress Closed q) plan (waiting_of s) why s.progress
    (stays s.progress _ refl refl refl refl refl (inr refl), (refl, refl))
    (stays s.progress _ refl refl refl refl refl (inr refl), (refl, refl))
