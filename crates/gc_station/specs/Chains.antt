-- Chains, this project's own: a command that goes on with a chain is sent only once the one before it in its cycle was answered
-- well, on the connection on which that was sent. An act is one call on the link, with its result.
use Rattle.gc_station.specs.Common.{AllByRecursion, Task, Act}
use Rattle.std.specs.Prelude.{◌≡◌, ◌+◌, ◌<◌, true, List, [], ◌∷◌, ◌++◌}
use Rattle.gc_station.specs.declared.plan.Plan.{Plan}
use Rattle.gc_station.specs.declared.progress.Action.TheVariants.{Send}
use Rattle.gc_station.specs.declared.progress.Progress.{Progress}
use Rattle.gc_station.specs.Answers.{IsAnsweredIn}
use Rattle.gc_station.specs.Qualities.{IsGoodAnswer}
use Rattle.gc_station.specs.Quiet.{KeepsOpen}
use Rattle.gc_station.specs.Records.{Record}
use Rattle.gc_station.specs.Runs.{state_after}
use Rattle.gc_station.specs.Scopes.{Scope}
use Rattle.gc_station.specs.Model.{action_at}
use Rattle.gc_station.specs.NextCommand.{cycles_begun, place_next, commands_left, first_is_chained}

-- at the progress `p` the cycle's next command isn't the cycle's first, which comes after the setup, and is sent only once the
-- one before it was answered well
abbrev pub IsChained : Plan → List Task → Progress → Type 0
IsChained plan commands p = (plan.setup < place_next commands p) × (first_is_chained (commands_left commands p) ≡ true)

-- among `acts` the act `request` sent the command before the cycle's next one, in the same cycle. No connection was closed
-- since (`stays`), and the last record of all is of that command, by its cycle and place (`answer`): an answer of a good quality
-- (`good`), of a reply that came in time, with the id of the record's own request (`in_time`)
pub record IsLinked (plan : Plan) (commands : List Task) (scope : Scope) (acts : List Act) : Type 0 where
  pub before : List Act
  pub request : Act
  pub between : List Act
  pub order : acts ≡ before ++ request ∷ between
  pub sends : action_at plan (state_after plan commands scope before) ≡ Send
  pub cycle : cycles_begun plan (state_after plan commands scope acts).progress ≡ cycles_begun plan (state_after plan commands scope before).progress
  pub place : place_next commands (state_after plan commands scope acts).progress ≡ place_next commands (state_after plan commands scope before).progress + 1
  pub stays : AllByRecursion KeepsOpen between
  pub earlier : List Record
  pub answer : Record
  pub last : (state_after plan commands scope acts).records ≡ earlier ++ answer ∷ []
  pub own_cycle : answer.cycle ≡ cycles_begun plan (state_after plan commands scope before).progress
  pub own_place : answer.place ≡ place_next commands (state_after plan commands scope before).progress
  pub good : IsGoodAnswer scope.reads commands answer
  pub in_time : IsAnsweredIn plan commands scope acts answer good.line
