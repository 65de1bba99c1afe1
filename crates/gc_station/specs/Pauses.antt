-- How often a station reconnects, and how long it pauses before that, by its failures in a row: this project's own. An act is
-- one call on the link, with its result.
use Rattle.gc_station.specs.Common.{Task, pause_within, Act}
use Rattle.std.specs.Prelude.{◌≡◌, ◌⊎◌, ℕ, zero, suc, ◌+◌, ◌*◌, ◌<◌, ◌≤◌, true, false, List}
use Rattle.gc_station.specs.Progressing.{at_start, is_spared, after_failure, bytes_noted}
use Rattle.gc_station.specs.Model.{Model, moved}
use Rattle.gc_station.specs.declared.cause.Cause.{Cause}
use Rattle.gc_station.specs.declared.plan.Plan.{Plan}
use Rattle.gc_station.specs.declared.progress.Action.{Action}
use Rattle.gc_station.specs.declared.progress.Action.TheVariants.{Open, Read, Close}
use Rattle.gc_station.specs.declared.progress.Progress.{Progress}
use Rattle.gc_station.specs.declared.progress.Until.{Until}
use Rattle.gc_station.specs.declared.progress.Waiting.{Waiting}
use Rattle.gc_station.specs.declared.cause.Cause.TheVariants as cause
use Rattle.gc_station.specs.declared.progress.Phase.TheVariants as phase

-- `time`, doubled `n` times
abbrev pub doubled : (n time : ℕ) → ℕ
doubled zero time = time
doubled (suc n) time = 2 * doubled n time

-- the length of the pause after this number of failures in a row: 0 after none; the quiet time after the first; and after each
-- further one twice the pause before, up to a minute and never below the quiet time
abbrev pub pause_after : Plan → ℕ → ℕ
pause_after plan zero = 0
pause_after plan (suc n) = pause_within plan.quiet (doubled n plan.quiet)

-- an action that changes neither the tries nor the pause: it doesn't make a connection, read or close one
abbrev pub LeavesTries : Action → Type 0
LeavesTries Open = ⊥
LeavesTries (Read until) = ⊥
LeavesTries (Close why) = ⊥
LeavesTries _ = Unit {0}

-- at the progress `p` this many tries are left, and the pause is this long
abbrev pub HasTriesAndPause : (p : Progress) (tries pause : ℕ) → Type 0
HasTriesAndPause p tries pause = (p.tries ≡ tries) × (p.exchange.pause ≡ pause)

-- how the tries and the pause change at each act. `plan.retries` tries are there at the start
pub record TriesAndPausesAreCounted : Type 0 where
  -- at the start all tries are left, and the pause is 0
  pub start : (plan : Plan) (turns : ℕ) → HasTriesAndPause (at_start plan turns) plan.retries (pause_after plan 0)
  -- a failure, the loss of a connection that isn't spared (`is_spared`) or an attempt that failed, makes the pause that of one
  -- failure more
  pub failed : (plan : Plan) (count n : ℕ) (why : Cause) (p : Progress) → is_spared plan why p ≡ false → p.exchange.pause ≡ pause_after plan n
      → (after_failure plan count why p).exchange.pause ≡ pause_after plan (suc n)
  -- a failure takes one try, if one is left
  pub takes : (plan : Plan) (count : ℕ) (why : Cause) (p : Progress) → is_spared plan why p ≡ false → 0 < p.tries
      → (after_failure plan count why p).tries + 1 ≡ p.tries
  -- after a failure without a try left the run is over: as done, or for the cause of the failure
  pub none_left : (plan : Plan) (count : ℕ) (why : Cause) (p : Progress) → is_spared plan why p ≡ false → p.tries ≡ 0
      → ((after_failure plan count why p).phase ≡ phase.Over cause.Done) ⊎ ((after_failure plan count why p).phase ≡ phase.Over why)
  -- a close while no connection is wanted (`is_spared`) takes no try, and leaves the pause as it is
  pub spared : (plan : Plan) (count n : ℕ) (why : Cause) (p : Progress) → is_spared plan why p ≡ true → p.exchange.pause ≡ pause_after plan (suc n)
      → HasTriesAndPause (after_failure plan count why p) p.tries (pause_after plan (suc n))
  -- but such a close makes a pause of 0 that of one failure
  pub spared_first : (plan : Plan) (count : ℕ) (why : Cause) (p : Progress) → is_spared plan why p ≡ true → p.exchange.pause ≡ pause_after plan 0
      → HasTriesAndPause (after_failure plan count why p) p.tries (pause_after plan 1)
  -- bytes that settle a command give all tries back, and make the pause 0; if there is a setup, only once a cycle began or went
  -- on after it (`preparing` is false)
  pub settled : (plan : Plan) (until : Until) (before : ℕ) (after : Waiting) (p : Progress) → after.commands < before → p.preparing ≡ false
      → HasTriesAndPause (bytes_noted plan until before after p) plan.retries (pause_after plan 0)
  -- bytes that settle none, or come before that, change neither
  pub unsettled : (plan : Plan) (until : Until) (before : ℕ) (after : Waiting) (p : Progress) → (before ≤ after.commands) ⊎ (p.preparing ≡ true)
      → HasTriesAndPause (bytes_noted plan until before after p) p.tries p.exchange.pause
  -- nor does an act that makes no connection, reads nothing and closes none
  pub other : (plan : Plan) (commands : List Task) (action : Action) (s : Model) (act : Act) → LeavesTries action
      → HasTriesAndPause (moved plan commands action s act).progress s.progress.tries s.progress.exchange.pause
