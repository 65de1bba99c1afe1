-- How a run ends that is stale, and one whose end was asked for: this project's own. An act is one call on the link, with its
-- result.
use Rattle.gc_station.specs.Common.{AllByRecursion, option_map_or, Task, Act, Gave, Closed, Moment}
use Rattle.std.specs.Prelude.{◌≡◌, ◌⊎◌, ℕ, ◌-◌, ◌<◌, ◌≤◌, ◌||◌, min, Bool, true, false, List, [], ◌∷◌, ◌++◌}
use Rattle.gc_station.specs.declared.cause.Cause.{Cause}
use Rattle.gc_station.specs.declared.cause.Cause.TheVariants.{Stale, Stopped}
use Rattle.gc_station.specs.declared.plan.Plan.{Plan}
use Rattle.gc_station.specs.declared.progress.Action.TheVariants.{Begin, Send, Close, Stop, Prepare}
use Rattle.gc_station.specs.ActKinds.{moment_in}
use Rattle.gc_station.specs.Answers.{IsWrittenAt}
use Rattle.gc_station.specs.Deciding.{may_go}
use Rattle.gc_station.specs.Model.{Model, opening, action_at, waiting_of, Runs}
use Rattle.gc_station.specs.Quiet.{IsListening}
use Rattle.gc_station.specs.Reasons.{IsResting}
use Rattle.gc_station.specs.Records.{Record}
use Rattle.gc_station.specs.Runs.{state_after, OfEachRun, WhereNext}
use Rattle.gc_station.specs.Scopes.{Scope}
use Rattle.gc_station.specs.Watching.{renews}
use Rattle.gc_station.specs.declared.watching.Watch.{Watch}

-- the least of `n` and the moments that these acts read, by the clock for deadlines. If that clock doesn't go back, and `n` was
-- read before them, it is `n`
abbrev pub least_moment : (n : ℕ) → List Act → ℕ
least_moment n [] = n
least_moment n (act ∷ acts) = least_moment (option_map_or (λ m. min n m.elapsed) (moment_in act) n) acts

-- whether the end of the run was asked for by one of the moments that these acts read, or before (`asked`)
abbrev pub asked_after : (asked : Bool) → List Act → Bool
asked_after asked [] = asked
asked_after asked (act ∷ acts) = asked_after (option_map_or (λ m. asked || m.stops) (moment_in act) asked) acts

-- the record `r` doesn't renew the watched command with this place (`renews`): it is of another command, or of the setup, or of a
-- command that wasn't answered well, or it is unconfirmed
abbrev pub RenewsNot : (place : ℕ) → Record → Type 0
RenewsNot place r = renews r.cycle r.turn.place r.end place ≡ false

-- the last of `acts` is a read at the moment `now`, which recorded the watched command with this place in a cycle, answered well
-- (`answer`)
pub record EndsWell (plan : Plan) (commands : List Task) (scope : Scope) (place : ℕ) (acts : List Act) (now : ℕ) : Type 0 where
  pub earlier : List Act
  pub piece : List ℕ
  pub moment : Moment
  pub order : acts ≡ earlier ++ Gave piece moment ∷ []
  pub at : now ≡ moment.elapsed
  pub answer : Record
  pub written : IsWrittenAt plan commands scope earlier (Gave piece moment) answer
  pub well : renews answer.cycle answer.turn.place answer.end place ≡ true

-- `behind` are the acts after the last one of `acts` that recorded the watched command with this place in a cycle, answered well, or all
-- acts if none did. `from` is the moment of that one, 0 if there was none. None of the records of `behind` renews that command, and
-- `fresh` is the least of `from` and the moments that `behind` read
pub record NoneWellSince (plan : Plan) (commands : List Task) (scope : Scope) (acts : List Act) (place fresh : ℕ) : Type 0 where
  pub before : List Act
  pub behind : List Act
  pub order : acts ≡ before ++ behind
  pub from : ℕ
  pub start : ((before ≡ []) × (from ≡ 0)) ⊎ EndsWell plan commands scope place before from
  pub records : List Record
  pub written : (state_after plan commands scope acts).records ≡ (state_after plan commands scope before).records ++ records
  pub unwell : AllByRecursion (RenewsNot place) records
  pub least : fresh ≡ least_moment from behind

-- at the model `s` a watched command is stale: the plan sets a limit (`wanted`), and at least that many milliseconds lie between when the
-- command was recorded last as answered well and confirmed, and the moment read last (`long`)
pub record HasStale (plan : Plan) (s : Model) : Type 0 where
  pub front : List Watch
  pub watch : Watch
  pub later : List Watch
  pub among : s.fresh ≡ front ++ watch ∷ later
  pub wanted : 0 < plan.stale
  pub long : plan.stale ≤ s.progress.moment.elapsed - watch.fresh

-- after `acts` the run is stale by a watched command (`some`). It is one of those that the scope has watched. When it was recorded last as
-- answered well is the moment of the last act that recorded it so in a cycle, 0 if none did; or the least moment that was read since, if
-- the clock went back past it
pub record IsStaleAt (plan : Plan) (commands : List Task) (scope : Scope) (acts : List Act) : Type 0 where
  pub some : HasStale plan (state_after plan commands scope acts)
  pub front : List ℕ
  pub later : List ℕ
  pub watched : scope.watched ≡ front ++ some.watch.place ∷ later
  pub since : NoneWellSince plan commands scope acts some.watch.place some.watch.fresh

-- a close for the cause `Stale` is next, whether there is a connection or not, only where the run is stale (`IsStaleAt`)
abbrev pub ClosesStale : Type 0
ClosesStale = WhereNext (Close Stale) IsStaleAt

-- if a run stops for this cause, its last act is the close that was next for that cause
abbrev pub StopsAtItsClose : Cause → Type 0
StopsAtItsClose why = WhereNext (Stop why) (λ plan commands scope acts.
    (earlier : List Act) × (acts ≡ earlier ++ Closed ∷ []) × (action_at plan (state_after plan commands scope earlier) ≡ Close why))

-- if some watched command is stale (`HasStale`) after an act that read a moment (`telling`), and the run has turns left, it ends: no act
-- comes after that one, or only a close
abbrev pub EndsOnceStale : Type 0
EndsOnceStale =
    (plan : Plan) (commands : List Task) (scope : Scope) (earlier behind : List Act) (telling : Act)
    → Runs plan commands (opening plan scope) (earlier ++ telling ∷ behind) → IsListening telling
    → let s = state_after plan commands scope (earlier ++ telling ∷ []) in 0 < s.progress.turns → HasStale plan s
    → (behind ≡ []) ⊎ (behind ≡ Closed ∷ [])

-- once a moment was read at which the end of the run was asked for, no cycle begins, no command of the setup is sent, and each
-- command that is sent goes on with a chain that has begun
abbrev pub GoesOnInItsChain : Type 0
GoesOnInItsChain = OfEachRun (λ plan commands scope acts.
    let s = state_after plan commands scope acts in
    asked_after false acts ≡ true
    → (action_at plan s ≡ Send → s.progress.next_is_chained ≡ true) × (action_at plan s ≡ Begin → ⊥) × (action_at plan s ≡ Prepare → ⊥))

-- after `acts`, which led to the model `s`, a run may stop because its end was asked for: that was asked for at a moment that
-- was read; the run may end where it is (`IsResting`); and no command of an attempt that has begun is left that may be sent
abbrev pub MayStopAfter : List Act → Model → Type 0
MayStopAfter acts s =
    (asked_after false acts ≡ true) × IsResting s.progress (waiting_of s)
    × (0 < s.progress.unsent → s.progress.next_is_chained ≡ true → may_go s.progress (waiting_of s) ≡ false)

-- a close for the cause `Stopped` is next, whether there is a connection or not, only where the run may stop (`MayStopAfter`)
abbrev pub ClosesBetweenChains : Type 0
ClosesBetweenChains = WhereNext (Close Stopped) (λ plan commands scope acts. MayStopAfter acts (state_after plan commands scope acts))
