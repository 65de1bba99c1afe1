-- Why each act is made, and why a connection is closed: this project's own. An act is one call on the link, with its result.
use Rattle.gc_station.specs.Common.{fresh, Task, Act, Untold, Cut, Ended, Broke, Closed, Unopened}
use Rattle.std.specs.Prelude.{◌≡◌, ◌⊎◌, ◌≤◌, ℕ, false, List, [], length}
use Rattle.gc_station.specs.declared.cause.Cause.{Cause}
use Rattle.gc_station.specs.declared.plan.Plan.{Plan}
use Rattle.gc_station.specs.declared.progress.Action.{Action}
use Rattle.gc_station.specs.declared.progress.Action.TheVariants.{Ask, Close, Stop}
use Rattle.gc_station.specs.declared.progress.Progress.{Progress}
use Rattle.gc_station.specs.declared.progress.Waiting.{Waiting}
use Rattle.gc_station.specs.Deciding.{is_up}
use Rattle.gc_station.specs.Progressing.{is_finished, is_spared}
use Rattle.gc_station.specs.Quiet.{HasLast}
use Rattle.gc_station.specs.Reasons.{HoldsBefore, IsAtItsEnd, IsFinished}
use Rattle.gc_station.specs.Runs.{state_after, OfEachRun}
use Rattle.gc_station.specs.Model.{Model, waiting_of, action_at, Performs}
use Rattle.gc_station.specs.Scopes.{Scope}
use Rattle.gc_station.specs.declared.cause.Cause.TheVariants as cause

-- if a null procedure of a synchronization is sent next, the client is as at its start (`fresh`), and no request is outstanding.
-- Nothing is said of any other action
abbrev pub HasFreshClient : Action → Model → Type 0
HasFreshClient Ask s = (s.client ≡ fresh) × (s.marks ≡ [])
HasFreshClient _ s = Unit {0}

-- the act performs the action that is next for a station with the model `s` (`obeys`), and the conditions of that action hold:
-- those of `HoldsBefore` (`needs`), and for a null procedure of a synchronization `HasFreshClient` (`is_fresh`)
pub record IsReasoned (plan : Plan) (commands : List Task) (s : Model) (act : Act) : Type 0 where
  pub obeys : Performs commands s (action_at plan s) act
  pub needs : HoldsBefore plan s.progress (waiting_of s) (action_at plan s)
  pub is_fresh : HasFreshClient (action_at plan s) s

-- the result of the act is this cause: the other end closed, a read failed, the clock couldn't be read, or a write was cut. No
-- act shows any other cause
abbrev pub Shows : Cause → Act → Type 0
Shows cause.End act = act ≡ Ended
Shows cause.Read act = act ≡ Broke
Shows cause.Clock act = act ≡ Untold
Shows (cause.Write requests bytes) act = (text : List ℕ) × (act ≡ Cut text bytes)
Shows _ act = ⊥

-- after `acts` the connection, if there is one, is to be closed for the cause `why`: because of what `IsAtItsEnd` says, or
-- because the last act shows the cause
pub record ClosesForACause (plan : Plan) (commands : List Task) (scope : Scope) (acts : List Act) : Type 0 where
  pub why : Cause
  pub closes : action_at plan (state_after plan commands scope acts) ≡ Close why
  pub shown : IsAtItsEnd plan (state_after plan commands scope acts).progress (waiting_of (state_after plan commands scope acts)) why
      ⊎ HasLast acts (λ earlier last. Shows why last)

-- a run ends as done at the progress `p` with `count` outstanding commands: no command is left to be sent, and none is
-- outstanding
abbrev pub EndsDone : Progress → (count : ℕ) → Cause → Type 0
EndsDone p count why = (why ≡ cause.Done) × IsFinished count p

-- at the progress `p` with `count` outstanding commands a connection was closed, or couldn't be made, for the cause `other`;
-- then the run ends for the cause `why`: it is done (`EndsDone`); or it isn't, `why` is `other`, a new connection would take a
-- try, and no try is left
abbrev pub EndsAtFailure : Plan → Progress → (count : ℕ) (other why : Cause) → Type 0
EndsAtFailure plan p count other why =
    EndsDone p count why ⊎ ((why ≡ other) × (is_finished count p ≡ false) × (is_spared plan other p ≡ false) × (p.tries ≡ 0))

-- at the progress `p` with `count` outstanding commands a connection was closed, or couldn't be made, for the cause `other`,
-- and then the run ends for the cause `why`: after `Done` it is done; after `Clock`, `Turns`, `Stale` and `Stopped` it ends for
-- that same cause, as no further connection is made then; and after any other as `EndsAtFailure` says
abbrev pub EndsAfter : Plan → Progress → (count : ℕ) (other why : Cause) → Type 0
EndsAfter plan p count cause.Done why = EndsDone p count why
EndsAfter plan p count cause.Clock why = why ≡ cause.Clock
EndsAfter plan p count cause.Turns why = why ≡ cause.Turns
EndsAfter plan p count cause.Stale why = why ≡ cause.Stale
EndsAfter plan p count cause.Stopped why = why ≡ cause.Stopped
EndsAfter plan p count other why = EndsAtFailure plan p count other why

-- the act, which performed the action `next`, closed the connection for some cause, or couldn't make one; and the run ends then
-- for the cause `why`, as `EndsAfter` says. `p` and `w` are of the station before the act
abbrev pub EndsDisconnected : Plan → Progress → Waiting → Action → Cause → Act → Type 0
EndsDisconnected plan p w next why act =
    ((other : Cause) × (act ≡ Closed) × (next ≡ Close other) × EndsAfter plan p w.commands other why)
    ⊎ ((act ≡ Unopened) × EndsAfter plan p w.commands cause.Open why)

-- the act ends a run for the cause `why`, if the station has the model `s` before it: a call failed while there was no
-- connection; or the act closed the connection or couldn't make one, and no other one is made
abbrev pub EndsRun : Plan → Model → Cause → Act → Type 0
EndsRun plan s why act = ((is_up s.progress.phase ≡ false) × Shows why act) ⊎ EndsDisconnected plan s.progress (waiting_of s) (action_at plan s) why act

-- after `acts` a run stops for the cause `why`: there is no connection; and all turns are used up, or the last act ends the run
-- for that cause
pub record StopsForACause (plan : Plan) (commands : List Task) (scope : Scope) (acts : List Act) (why : Cause) : Type 0 where
  pub down : is_up (state_after plan commands scope acts).progress.phase ≡ false
  pub shown : ((why ≡ cause.Turns) × ((state_after plan commands scope acts).progress.turns ≡ 0))
      ⊎ HasLast acts (λ earlier last. EndsRun plan (state_after plan commands scope earlier) why last)

-- a connection is closed, or a run stops, because its turns are used up only after as many acts as it had turns
abbrev pub EndsForTurnsOnlyAfterAsManyActs : Type 0
EndsForTurnsOnlyAfterAsManyActs = OfEachRun (λ plan commands scope acts.
    let next = action_at plan (state_after plan commands scope acts) in (next ≡ Close cause.Turns) ⊎ (next ≡ Stop cause.Turns) → scope.turns ≤ length acts)
