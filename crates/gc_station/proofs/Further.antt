-- A run never goes back: after a send the station is at a later place of the cycle, or in a later cycle. An act is one call on
-- the link, with its result. `NotBack p q`: the progress q isn't at an earlier cycle or place than p.
use Rattle.gc_station.proofs.Common.{◌≡◌, ◌⊎◌, inl, inr, ℕ, ◌-◌, ◌<◌, ◌≤◌, List, ◌∷◌, ◌++◌, refl, sym, ap, ◌∙◌, subst, arith, Task, Plan, Action, Progress, Waiting, Act, IsFurther, turned, HoldsBefore, state_after, Model, cycle_length, opening, action_at, waiting_of, with_progress, moved, after, after_all, Scope}
use Rattle.gc_station.proofs.Going.{after_all-append}
use Rattle.gc_station.proofs.Counts.{KeepsCounts, ChangesCounts, moved_counts, with_losses_progress}
use Rattle.gc_station.proofs.EachRun.{invariant_holds}
use Rattle.gc_station.proofs.Facts.{action_for}
use Rattle.gc_station.proofs.Invariant.{Invariant}
use Rattle.gc_station.proofs.Walk.{acts_along}
use Rattle.gc_station.specs.declared.progress.Action.TheVariants as action

-- no fewer cycles began by q than by p, and in the same cycle no fewer commands had their turn
abbrev pub NotBack : (p q : Progress) → Type 0
NotBack p q = (q.left < p.left) ⊎ ((q.left ≡ p.left) × (q.unsent ≤ p.unsent))

-- if t is at the cycle and the place of p, and the counts are kept from t to q, `NotBack` holds from p to q
not_back_if_kept : (p t q : Progress) → t.left ≡ p.left → t.unsent ≡ p.unsent → KeepsCounts t q → NotBack p q
not_back_if_kept p t q left unsent k = inr (k.left ∙ left, omega (arith, k.unsent, unsent))

-- an act of an action whose conditions hold at p, and that changes the counts of t as `ChangesCounts` says, doesn't go back
-- from p, where t is in the cycle of p with as many commands unsent (it is p once the turn was taken)
not_back_by_counts : (plan : Plan) (count : ℕ) (w : Waiting) (o : Action) (p t q : Progress) → t.left ≡ p.left → t.unsent ≡ p.unsent → HoldsBefore plan p w o → ChangesCounts count o t q → NotBack p q
not_back_by_counts plan count w action.Begin p t q left unsent needs (inl k) = not_back_if_kept p t q left unsent k
not_back_by_counts plan count w action.Begin p t q left unsent needs (inr k) = inl (omega (arith, k.left, left, needs.4))
not_back_by_counts plan count w action.Send p t q left unsent needs k = inr (k.left ∙ left, omega (arith, k.unsent, unsent))
not_back_by_counts plan count w action.Skip p t q left unsent needs (inl k) = not_back_if_kept p t q left unsent k
not_back_by_counts plan count w action.Skip p t q left unsent needs (inr k) = inr (k.left ∙ left, omega (arith, k.unsent, unsent))
not_back_by_counts plan count w action.Pass p t q left unsent needs (inl k) = not_back_if_kept p t q left unsent k
not_back_by_counts plan count w action.Pass p t q left unsent needs (inr k) = inr (k.left ∙ left, omega (arith, k.unsent, unsent))
not_back_by_counts plan count w o p t q left unsent needs k = not_back_if_kept p t q left unsent k

-- no act takes the progress back
not_back_after : (plan : Plan) (commands : List Task) (s : Model) (act : Act) → NotBack s.progress (after plan commands s act).progress
not_back_after plan commands s act =
    let done = moved plan commands (action_at plan s) (with_progress turned s) act in
    let on = not_back_by_counts plan (cycle_length plan commands) (waiting_of s) (action_at plan s) s.progress (turned s.progress) done.progress refl refl
    (action_for plan s.progress (waiting_of s)) (moved_counts plan commands (action_at plan s) (with_progress turned s) act) in
    subst (λ (p : Progress). NotBack s.progress p) (sym (with_losses_progress done)) on

-- `NotBack` holds over two steps if it does over each
not_back_twice : (p q r : Progress) → NotBack p q → NotBack q r → NotBack p r
not_back_twice p q r (inl a) (inl b) = inl (omega (arith, a, b))
not_back_twice p q r (inl a) (inr b) = inl (omega (arith, a, b.0))
not_back_twice p q r (inr a) (inl b) = inl (omega (arith, a.0, b))
not_back_twice p q r (inr a) (inr b) = inr (b.0 ∙ a.0, omega (arith, a.1, b.1))

-- acts don't take the progress back
pub not_back_all : (plan : Plan) (commands : List Task) (s : Model) (acts : List Act) → NotBack s.progress (after_all plan commands s acts).progress
not_back_all plan commands s acts =
    acts_along plan commands (λ (t : Model). NotBack s.progress t.progress)
    (λ t act on. not_back_twice s.progress t.progress (after plan commands t act).progress on (not_back_after plan commands t act)) s acts (inr (refl, omega arith))

-- after an act that makes one command fewer unsent (q), and further acts that don't go back (t), a station is further than before
-- (s)
further_if_one_fewer : (plan : Plan) (commands : List Task) (s t : Model) (q : Progress) → Invariant plan commands s → Invariant plan commands t → (some : 0 < s.progress.unsent)
    → (left : q.left ≡ s.progress.left) → (unsent : q.unsent ≡ s.progress.unsent - 1) → NotBack q t.progress → IsFurther plan commands s t
further_if_one_fewer plan commands s t q fine there some left unsent (inl less) = inl (omega (arith, less, left, fine.left, there.left))
further_if_one_fewer plan commands s t q fine there some left unsent (inr same) =
    inr (ap (λ (n : ℕ). plan.cycles - n) (sym (same.0 ∙ left)), omega (arith, same.1, unsent, some, fine.unsent, there.unsent))

-- after an act that sends a command, and any further acts, a station is at a later place of the cycle, or in a later cycle
pub send_goes_on : (plan : Plan) (commands : List Task) (scope : Scope) (earlier later : List Act) (act : Act) → action_at plan (state_after plan commands scope earlier) ≡ action.Send
    → IsFurther plan commands (state_after plan commands scope earlier) (state_after plan commands scope (earlier ++ act ∷ later))
send_goes_on plan commands scope earlier later act is =
    let s = state_after plan commands scope earlier in
    let next = after plan commands s act in
    let w = waiting_of s in
    let needs = subst (λ (o : Action). HoldsBefore plan s.progress w o) is (action_for plan s.progress w) in
    let done = moved plan commands (action_at plan s) (with_progress turned s) act in
    let sends = moved plan commands action.Send (with_progress turned s) act in
    let next_is : next.progress ≡ sends.progress = with_losses_progress done ∙ ap (λ (o : Action). (moved plan commands o (with_progress turned s) act).progress) is in
    let k = moved_counts plan commands action.Send (with_progress turned s) act in
    let whole = after_all-append plan commands (opening plan scope) earlier (act ∷ later) in
    let on = subst (λ (t : Model). NotBack next.progress t.progress) (sym whole) (not_back_all plan commands next later) in
    further_if_one_fewer plan commands s (state_after plan commands scope (earlier ++ act ∷ later)) next.progress (invariant_holds plan commands scope earlier)
    (invariant_holds plan commands scope (earlier ++ act ∷ later)) needs.2
    (ap (λ (p : Progress). p.left) next_is ∙ k.left) (ap (λ (p : Progress). p.unsent) next_is ∙ k.unsent) on
