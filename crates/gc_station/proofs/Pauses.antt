-- How failures in a row take tries and lengthen the pause. A failure is the close of a connection, or an attempt to connect that
-- failed. A close is spared if no connection is wanted then: it takes no try. `after_failure` is the progress after a failure,
-- and `pause_after plan n` the pause after n failures in a row. An act is one call on the link, with its result. Times are in
-- milliseconds.
use Rattle.gc_station.proofs.Common.{◌≡◌, ◌⊎◌, inl, inr, ℕ, zero, suc, ◌+◌, ◌-◌, ◌*◌, ◌<◌, ◌≤◌, ◌||◌, Bool, true, false, List, nat_lt, max, refl, ap, ◌∙◌, arith, ◌&&◌, not, lt-ltb, le-ltb, cond-true, cond-false, and_from, not_from_false, Task, pause_within, Act, later, is_spared, after_failure, bytes_noted, gives_back, Model, moved, Cause, Plan, Action, Progress, Until, Waiting}
use Rattle.gc_station.specs.Pauses.{doubled, pause_after, LeavesTries, HasTriesAndPause, TriesAndPausesAreCounted}
use Rattle.gc_station.specs.Progressing.{is_finished}
use Rattle.gc_station.proofs.Turns.{phase_by}
use Rattle.gc_station.proofs.Walk.{moved_changed}
use Rattle.gc_station.specs.declared.cause.Cause.TheVariants as cause
use Rattle.gc_station.specs.declared.progress.Action.TheVariants as actions
use Rattle.gc_station.specs.declared.progress.Phase.TheVariants as phase

-- twice a pause of 0, bounded (`pause_within`), is the pause after a first failure
twice_no_pause : (quiet : ℕ) → pause_within quiet (later 0 0) ≡ pause_within quiet quiet
twice_no_pause quiet = omega arith

-- a time that is doubled n times is no shorter
doubled_not_shorter : (n time : ℕ) → time ≤ doubled n time
doubled_not_shorter zero time = omega arith
doubled_not_shorter (suc n) time = let least = doubled_not_shorter n time in omega (arith, least)

-- if d is at least the quiet time, twice the bounded d, bounded again (`pause_within`), is twice d, bounded
twice_pause : (d quiet : ℕ) → quiet ≤ d → pause_within quiet (later (pause_within quiet d) (pause_within quiet d)) ≡ pause_within quiet (2 * d)
twice_pause d quiet least = omega (arith, least)

-- twice the pause after n failures, bounded (`pause_within`), is the one after n + 1
pause_doubled : (plan : Plan) (n : ℕ) → pause_within plan.quiet (later (pause_after plan n) (pause_after plan n)) ≡ pause_after plan (suc n)
pause_doubled plan zero = twice_no_pause plan.quiet
pause_doubled plan (suc n) = twice_pause (doubled n plan.quiet) plan.quiet (doubled_not_shorter n plan.quiet)

-- a failure that isn't spared makes the pause after n failures the one after n + 1
failure_lengthens_pause : (plan : Plan) (count n : ℕ) (why : Cause) (p : Progress) → is_spared plan why p ≡ false → p.exchange.pause ≡ pause_after plan n
    → (after_failure plan count why p).exchange.pause ≡ pause_after plan (suc n)
failure_lengthens_pause plan count n why p e is =
    cond-false (is_spared plan why p) (max p.exchange.pause plan.quiet) (pause_within plan.quiet (later p.exchange.pause p.exchange.pause)) e
    ∙ ap (λ x. pause_within plan.quiet (later x x)) is ∙ pause_doubled plan n

-- a failure that isn't spared takes one try, if at least one is left
failure_takes_a_try : (plan : Plan) (count : ℕ) (why : Cause) (p : Progress) → is_spared plan why p ≡ false → 0 < p.tries → (after_failure plan count why p).tries + 1 ≡ p.tries
failure_takes_a_try plan count why p e some = let less = cond-false (is_spared plan why p) p.tries (p.tries - 1) e in omega (arith, less, some)

-- a failure that isn't spared (`spared`), without a try left (`some`), ends the run: as done, if all is done, else for its cause
unspared_is_over : (done spared some : Bool) (why : Cause) → spared ≡ false → some ≡ false
    → (phase_by done (spared || some) why ≡ phase.Over cause.Done) ⊎ (phase_by done (spared || some) why ≡ phase.Over why)
unspared_is_over true spared some why e f = inl refl
unspared_is_over false true some why e f = cc
unspared_is_over false false true why e f = cc
unspared_is_over false false false why e f = inr refl

-- a failure that isn't spared, without a try left, ends the run: as done, or for its cause
ends_without_try : (plan : Plan) (count : ℕ) (why : Cause) (p : Progress) → is_spared plan why p ≡ false → p.tries ≡ 0
    → ((after_failure plan count why p).phase ≡ phase.Over cause.Done) ⊎ ((after_failure plan count why p).phase ≡ phase.Over why)
ends_without_try plan count why p e none = unspared_is_over (is_finished count p) (is_spared plan why p) (nat_lt 0 p.tries) why e (le-ltb 0 p.tries (omega (arith, none)))

-- a bounded pause (`pause_within`) is the same once it is raised to the quiet time again
spared_stays : (d quiet : ℕ) → max (pause_within quiet d) quiet ≡ pause_within quiet d
spared_stays d quiet = omega arith

-- a spared close takes no try, and leaves the pause as it is, if that is the pause after n + 1 failures
spared_leaves_pause : (plan : Plan) (count n : ℕ) (why : Cause) (p : Progress) → is_spared plan why p ≡ true → p.exchange.pause ≡ pause_after plan (suc n)
    → HasTriesAndPause (after_failure plan count why p) p.tries (pause_after plan (suc n))
spared_leaves_pause plan count n why p e is = (
  cond-true (is_spared plan why p) p.tries (p.tries - 1) e,
  cond-true (is_spared plan why p) (max p.exchange.pause plan.quiet) (pause_within plan.quiet (later p.exchange.pause p.exchange.pause)) e
      ∙ ap (λ x. max x plan.quiet) is ∙ spared_stays (doubled n plan.quiet) plan.quiet,
)

-- if there was no pause, the pause that a spared close makes, the quiet time, is the one after a first failure
spared_from_no_pause : (quiet : ℕ) → max 0 quiet ≡ pause_within quiet quiet
spared_from_no_pause quiet = omega arith

-- a spared close takes no try, and makes a pause of 0 that of one failure
spared_makes_first_pause : (plan : Plan) (count : ℕ) (why : Cause) (p : Progress) → is_spared plan why p ≡ true → p.exchange.pause ≡ pause_after plan 0
    → HasTriesAndPause (after_failure plan count why p) p.tries (pause_after plan 1)
spared_makes_first_pause plan count why p e is = (
  cond-true (is_spared plan why p) p.tries (p.tries - 1) e,
  cond-true (is_spared plan why p) (max p.exchange.pause plan.quiet) (pause_within plan.quiet (later p.exchange.pause p.exchange.pause)) e
      ∙ ap (λ x. max x plan.quiet) is ∙ spared_from_no_pause plan.quiet,
)

-- a read that settled a command, and after which `preparing` is false, gives all tries back, and makes the pause 0
settling_gives_tries_back : (plan : Plan) (until : Until) (before : ℕ) (after : Waiting) (p : Progress) → after.commands < before → p.preparing ≡ false
    → HasTriesAndPause (bytes_noted plan until before after p) plan.retries (pause_after plan 0)
settling_gives_tries_back plan until before after p fewer done =
    let e = and_from (nat_lt after.commands before) (not p.preparing) (lt-ltb after.commands before fewer) (not_from_false p.preparing done) in
    (cond-true (gives_back before after p) plan.retries p.tries e, cond-true (gives_back before after p) 0 p.exchange.pause e)

-- a read that settled no command, or after which `preparing` is true, changes neither the tries nor the pause
unsettled_leaves_tries : (plan : Plan) (until : Until) (before : ℕ) (after : Waiting) (p : Progress) → (before ≤ after.commands) ⊎ (p.preparing ≡ true)
    → HasTriesAndPause (bytes_noted plan until before after p) p.tries p.exchange.pause
unsettled_leaves_tries plan until before after p why =
    let e = by_cause (nat_lt after.commands before) (p.preparing) refl refl why in
    (cond-false (gives_back before after p) plan.retries p.tries e, cond-false (gives_back before after p) 0 p.exchange.pause e) where
      -- the first of the tests a and b is false, or the second is true: so `a && not b` is false
      by_cause : (a b : Bool) → nat_lt after.commands before ≡ a → p.preparing ≡ b → (before ≤ after.commands) ⊎ (p.preparing ≡ true) → (a && not b) ≡ false
      by_cause false b x y w = refl
      by_cause true true x y w = refl
      by_cause true false x y (inl more) = let none = le-ltb after.commands before more in cc
      by_cause true false x y (inr on) = cc

-- an action of `LeavesTries` changes neither the tries nor the pause
leaves_tries : (plan : Plan) (commands : List Task) (action : Action) (s : Model) (act : Act) → LeavesTries action
    → HasTriesAndPause (moved plan commands action s act).progress s.progress.tries s.progress.exchange.pause
leaves_tries plan commands actions.Open s act leaves = absurd leaves
leaves_tries plan commands (actions.Read until) s act leaves = absurd leaves
leaves_tries plan commands (actions.Close why) s act leaves = absurd leaves
leaves_tries plan commands action s act leaves =
    let is = moved_changed plan commands action s act in (ap (λ (x : Model). x.progress.tries) is, ap (λ (x : Model). x.progress.exchange.pause) is)

-- the law on tries and pauses: what a failure, a spared close, a read and any other act make of them
pub tries_counted : TriesAndPausesAreCounted
tries_counted = record {
  start = λ plan turns. (refl, refl);
  failed = failure_lengthens_pause;
  takes = failure_takes_a_try;
  none_left = ends_without_try;
  spared = spared_leaves_pause;
  spared_first = spared_makes_first_pause;
  settled = settling_gives_tries_back;
  unsettled = unsettled_leaves_tries;
  other = leaves_tries;
}
