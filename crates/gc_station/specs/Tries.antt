-- How many connections ended, or couldn't be made, since a command was settled: this project's own. An act is one call on the
-- link, with its result.
use Rattle.gc_station.specs.Common.{Task, Moment, Act, Gave, Closed, Opened, Unopened}
use Rattle.std.specs.Prelude.{◌≡◌, ◌≢◌, ◌⊎◌, ℕ, suc, ◌<◌, ◌≤◌, true, false, List, [], ◌∷◌, ◌++◌}
use Rattle.gc_station.specs.declared.cause.Cause.{Cause}
use Rattle.gc_station.specs.declared.plan.Plan.{Plan}
use Rattle.gc_station.specs.declared.progress.Action.TheVariants.{Stop}
use Rattle.gc_station.specs.Runs.{state_after}
use Rattle.gc_station.specs.Model.{Model, after, action_at, opening, Runs}
use Rattle.gc_station.specs.Scopes.{Scope}
use Rattle.gc_station.specs.declared.cause.Cause.TheVariants as cause

-- a cause for which a connection ended or couldn't be made, and after which the run reconnects, unless it is done or no try is
-- left
abbrev pub IsTried : Cause → Type 0
IsTried cause.Done = ⊥
IsTried cause.Clock = ⊥
IsTried cause.Turns = ⊥
IsTried cause.Stale = ⊥
IsTried cause.Stopped = ⊥
IsTried _ = Unit {0}

-- the act closes a connection, or fails to make one
abbrev pub IsDisconnecting : Act → Type 0
IsDisconnecting Closed = Unit {0}
IsDisconnecting Unopened = Unit {0}
IsDisconnecting _ = ⊥

-- how many of these acts close a connection or fail to make one
abbrev pub disconnections_in : List Act → ℕ
disconnections_in [] = 0
disconnections_in (Closed ∷ acts) = suc (disconnections_in acts)
disconnections_in (Unopened ∷ acts) = suc (disconnections_in acts)
disconnections_in (act ∷ acts) = disconnections_in acts

-- how many of these acts make a connection, or fail to
abbrev pub openings_in : List Act → ℕ
openings_in [] = 0
openings_in (Opened ∷ acts) = suc (openings_in acts)
openings_in (Unopened ∷ acts) = suc (openings_in acts)
openings_in (act ∷ acts) = openings_in acts

-- the act, from the model `s` to the model `t`, isn't a read that settles a command once the setup is over: if it gave bytes, it
-- wrote no record, or there is a setup, and no command of a cycle was sent after it (`preparing`)
abbrev pub SettlesNone : Model → Act → Model → Type 0
SettlesNone s (Gave bytes m) t = (t.records ≡ s.records) ⊎ (t.progress.preparing ≡ true)
SettlesNone s act t = Unit {0}

-- none of these acts, from the model `s` on, is a read that settles a command once the setup is over (`SettlesNone`)
abbrev pub NoneSettled : Plan → List Task → Model → List Act → Type 0
NoneSettled plan commands s [] = Unit {0}
NoneSettled plan commands s (act ∷ acts) = SettlesNone s act (after plan commands s act) × NoneSettled plan commands (after plan commands s act) acts

-- the last of `acts` is a read that settled a command, and if there is a setup, a cycle had begun or gone on after it by then
-- (`preparing` is false)
pub record EndsSettled (plan : Plan) (commands : List Task) (scope : Scope) (acts : List Act) : Type 0 where
  pub earlier : List Act
  pub piece : List ℕ
  pub moment : Moment
  pub order : acts ≡ earlier ++ Gave piece moment ∷ []
  pub settled : (state_after plan commands scope acts).records ≢ (state_after plan commands scope earlier).records
  pub prepared : (state_after plan commands scope acts).progress.preparing ≡ false

-- `behind` are the acts after the last one of `acts` that settled a command once the setup was over (`EndsSettled`), or all acts
-- if none did. Among them more connections ended or couldn't be made than the plan has tries (`ended`). At least as many
-- connections as the plan has tries were asked for meanwhile (`opened`), and more if `behind` are all acts (`first`)
pub record AllTried (plan : Plan) (commands : List Task) (scope : Scope) (acts : List Act) : Type 0 where
  pub before : List Act
  pub behind : List Act
  pub order : acts ≡ before ++ behind
  pub since : (before ≡ []) ⊎ EndsSettled plan commands scope before
  pub none : NoneSettled plan commands (state_after plan commands scope before) behind
  pub ended : plan.retries < disconnections_in behind
  pub opened : plan.retries ≤ openings_in behind
  pub first : before ≡ [] → plan.retries < openings_in behind

-- if a run stops for a cause after which it would reconnect (`IsTried`), at an act that closes a connection or fails to make
-- one, all tries are used up, as `AllTried` says
abbrev pub StopsOnlyAfterAllTries : Type 0
StopsOnlyAfterAllTries =
    (plan : Plan) (commands : List Task) (scope : Scope) (acts : List Act) (last : Act) (why : Cause)
    → Runs plan commands (opening plan scope) (acts ++ last ∷ [])
    → action_at plan (state_after plan commands scope (acts ++ last ∷ [])) ≡ Stop why → IsTried why → IsDisconnecting last
    → AllTried plan commands scope (acts ++ last ∷ [])
