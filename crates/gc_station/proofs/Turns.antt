-- Each act takes a turn or, once none is left, closes the connection: so a run ends. An act is one call on the link, with its
-- result.
use Rattle.gc_station.proofs.Common.{◌≡◌, ℕ, zero, suc, ◌+◌, ◌*◌, ◌-◌, ◌<◌, ◌≤◌, ◌&&◌, ◌||◌, Bool, true, false, not, List, if◌then◌else◌, nat_lt, nat_eq, refl, sym, ap, ◌∙◌, subst, arith, Task, Plan, Cause, Phase, Action, Progress, Waiting, Act, is_up, action_in, action_on, action_of, action_without_turns, turned, is_spared, after_failure, closed, is_over_in, is_over, Model, waiting_of, action_at, Performs, moved, stepped, with_progress}
use Rattle.gc_station.specs.Progressing.{is_finished}
use Rattle.gc_station.proofs.Counts.{turns_kept, with_losses_progress}
use Rattle.gc_station.proofs.Walk.{closed_along}
use Rattle.gc_station.specs.declared.cause.Cause.TheVariants as cause
use Rattle.gc_station.specs.declared.progress.Phase.TheVariants as phase
use Rattle.gc_station.specs.declared.progress.Action.TheVariants as actions

-- 1 if there is a connection, and 0 if there is none
abbrev pub up_count : Bool → ℕ
up_count true = 1
up_count false = 0

-- what is left to be done: two for each turn, and one for a connection
abbrev pub left_to_do : Progress → ℕ
left_to_do p = 2 * p.turns + up_count (is_up p.phase)

-- there is at most one connection
pub at_most_one_up : (b : Bool) → up_count b ≤ 1
at_most_one_up true = omega arith
at_most_one_up false = omega arith

-- the phase after a failure for the cause `why`: closing if there is a connection (`up`), and over if there is none
abbrev pub phase_failed : (up : Bool) → Cause → Phase
phase_failed up why = if up then phase.Closing why else phase.Over why

-- the phase after a connection that ended or couldn't be made for the cause `why`, by whether all is done, and whether the
-- station connects again
abbrev pub phase_by : (done again : Bool) → Cause → Phase
phase_by done again why = if done then phase.Over cause.Done else if again then phase.Pausing else phase.Over why

-- in the phase after a connection that ended or couldn't be made, there is none
phase_down : (done again : Bool) (why : Cause) → is_up (phase_by done again why) ≡ false
phase_down true again why = refl
phase_down false true why = refl
phase_down false false why = refl

-- in the progress after a connection that ended or couldn't be made, there is none
pub after_failure_down : (plan : Plan) (count : ℕ) (why : Cause) (p : Progress) → is_up (after_failure plan count why p).phase ≡ false
after_failure_down plan count why p = phase_down (is_finished count p) (is_spared plan why p || nat_lt 0 p.tries) why

-- after a close there is no connection
pub closed_down : (plan : Plan) (w : Waiting) (why : Cause) (p : Progress) → is_up (closed plan w why p).phase ≡ false
closed_down plan w why p = closed_along (λ (q : Progress). is_up q.phase ≡ false) plan w why p refl (after_failure_down plan w.commands why p)

-- once all turns are used up, an act is made only if there is a connection (`up`), and leaves none
without_turns_closes : (plan : Plan) (commands : List Task) (s t : Model) (up : Bool) (act : Act) → Performs commands t (action_without_turns up) act
    → (up ≡ true) × (is_up (moved plan commands (action_without_turns up) s act).progress.phase ≡ false)
without_turns_closes plan commands s t true act obeys = (refl, refl)
without_turns_closes plan commands s t false act obeys = absurd obeys

-- if the test z says that all turns are used up, and the end isn't decided yet, an act is made only if there is a connection, and
-- leaves none
out_of_turns_closes : (plan : Plan) (commands : List Task) (s t : Model) (p : Progress) (z : Bool) (act : Act) (other : Action) → z ≡ true
    → Performs commands t (if z then action_without_turns (is_up p.phase) else other) act
    → (is_up p.phase ≡ true) × (is_up (moved plan commands (if z then action_without_turns (is_up p.phase) else other) s act).progress.phase ≡ false)
out_of_turns_closes plan commands s t p true act other e obeys = without_turns_closes plan commands s t (is_up p.phase) act obeys
out_of_turns_closes plan commands s t p false act other e obeys = cc

-- once all turns are used up, the next act, if one is made, closes a connection: there is one in the phase of p, and none after
-- the act
last_act_closes : (plan : Plan) (commands : List Task) (s t : Model) (p : Progress) (phase : Phase) (w : Waiting) (act : Act) → nat_eq p.turns 0 ≡ true → p.phase ≡ phase
    → Performs commands t (action_in phase plan p w) act → (is_up phase ≡ true) × (is_up (moved plan commands (action_in phase plan p w) s act).progress.phase ≡ false)
last_act_closes plan commands s t p (phase.Closing cause) w act none is obeys = (refl, closed_down plan (waiting_of s) cause s.progress)
last_act_closes plan commands s t p (phase.Over cause) w act none is obeys = absurd obeys
last_act_closes plan commands s t p phase w act none is obeys = let c = out_of_turns_closes plan commands s t p (nat_eq p.turns 0) act _ none obeys in (ap is_up (sym is) ∙ c.0, c.1)

-- less is left to be done with one turn fewer (t', of t) or, if no turn was left, without the connection that there was (u
-- before, u' after)
less_left : (t t' : ℕ) (u u' : Bool) → t' ≡ t - 1 → (nat_eq t 0 ≡ true → (u ≡ true) × (u' ≡ false)) → 2 * t' + up_count u' < 2 * t + up_count u
less_left zero t' u u' e closes =
    let c = closes refl in
    let a : up_count u ≡ 1 = ap up_count c.0 in
    let b : up_count u' ≡ 0 = ap up_count c.1 in
    omega (arith, a, b, e)
less_left (suc t) t' u u' e closes = omega (arith, e, at_most_one_up u', at_most_one_up u)

-- each act leaves less to be done, whatever waits
pub less_stepped : (plan : Plan) (commands : List Task) (s : Model) (w : Waiting) (act : Act) → Performs commands s (action_of plan s.progress w) act
    → left_to_do (stepped plan commands (action_of plan s.progress w) s act).progress < left_to_do s.progress
less_stepped plan commands s w act obeys =
    let action = action_of plan s.progress w in
    let mid = moved plan commands action (with_progress turned s) act in
    let same = with_losses_progress mid in
    let fewer : left_to_do mid.progress < left_to_do s.progress =
    less_left s.progress.turns mid.progress.turns (is_up s.progress.phase) (is_up mid.progress.phase)
    (turns_kept plan commands action (with_progress turned s) act)
    (λ none. last_act_closes plan commands (with_progress turned s) s s.progress s.progress.phase w act none refl obeys) in
    let e : left_to_do (stepped plan commands action s act).progress ≡ left_to_do mid.progress = ap left_to_do same in
    omega (arith, e, fewer)

-- If the run is over no act follows.

module _ (plan : Plan) (commands : List Task) where
  -- no act is performed in the phase `Over`
  pub no_act_in_over : (s : Model) (act : Act) → Performs commands s (action_at plan s) act → (why : Cause) → s.progress.phase ≡ phase.Over why → ⊥
  no_act_in_over s act o why is = subst (λ (at : Phase). Performs commands s (action_in at plan s.progress (waiting_of s)) act) is o

  -- no act is performed if the run is over
  pub no_act_once_over : (s : Model) (act : Act) → is_over s.progress ≡ true → Performs commands s (action_at plan s) act → ⊥
  no_act_once_over s act over obeys = by_phase s.progress.phase refl over where
    -- without a connection and a turn, the next action is to stop
    next_stops : (up zero_left : Bool) → is_up s.progress.phase ≡ up → nat_eq s.progress.turns 0 ≡ zero_left → (not up && zero_left) ≡ true
        → action_on plan s.progress (waiting_of s) ≡ actions.Stop cause.Turns
    next_stops true z e f both = cc
    next_stops false false e f both = cc
    next_stops false true e f both = rw (f, e) refl

    -- without a connection and a turn no act is made, if the phase hasn't decided the end
    stops : action_at plan s ≡ action_on plan s.progress (waiting_of s) → (not (is_up s.progress.phase) && nat_eq s.progress.turns 0) ≡ true → ⊥
    stops e both = subst (λ (o : Action). Performs commands s o act) (e ∙ next_stops (is_up s.progress.phase) (nat_eq s.progress.turns 0) refl refl both) obeys

    -- no act is made if the run is over, in each phase
    by_phase : (at : Phase) → s.progress.phase ≡ at → is_over s.progress ≡ true → ⊥
    by_phase (phase.Closing why) is o = let never : false ≡ true = sym (ap (λ at. is_over_in at || (not (is_up at) && nat_eq s.progress.turns 0)) is) ∙ o in cc
    by_phase (phase.Over why) is o = no_act_in_over s act obeys why is
    by_phase other is o = stops (ap (λ at. action_in at plan s.progress (waiting_of s)) is) (sym (ap (λ at. is_over_in at || (not (is_up s.progress.phase) && nat_eq s.progress.turns 0)) is) ∙ o)
