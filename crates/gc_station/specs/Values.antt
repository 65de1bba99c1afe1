-- The values of files in requests, this project's own: those of the last moment that was read before the request was sent. An act is one
-- call on the link, with its result.
use Rattle.gc_station.specs.Common.{no_values, Act, Moment, lack, Task}
use Rattle.std.specs.Prelude.{◌≡◌, ◌<◌, ℕ, false, List, [], ◌∷◌, Option, Some, None, slice_get}
use Rattle.gc_station.specs.ActKinds.{moment_in}
use Rattle.gc_station.specs.Moments.{utc_read}
use Rattle.gc_station.specs.Records.{Record}
use Rattle.gc_station.specs.Requested.{HasItsRequest}
use Rattle.gc_station.specs.Requests.{command_at}
use Rattle.gc_station.specs.Runs.{OfEachRecord}
use Rattle.gc_station.specs.Scopes.{Scope}
use Rattle.gc_station.specs.declared.plan.Plan.{Plan}

-- the values of this moment; `values` if there is none
abbrev pub values_or : (values : List (List ℕ)) → Option Moment → List (List ℕ)
values_or values None = values
values_or values (Some m) = m.values

-- the values of the moment that these acts read last; `values` if they read none
abbrev pub values_read : (values : List (List ℕ)) → List Act → List (List ℕ)
values_read values [] = values
values_read values (act ∷ acts) = values_read (values_or values (moment_in act)) acts

-- Of the acts of a run, and a record of it.
module _ (plan : Plan) (commands : List Task) (scope : Scope) (acts : List Act) (r : Record) where
  -- the request of the record `r` was made of the task at its place, with the time and the values of the last moment that the acts before it
  -- read; and of a command of a cycle each value that the task takes was there
  pub record HasItsValues (its : HasItsRequest plan commands scope acts r) : Type 0 where
    pub task : Task
    pub listed : slice_get commands r.place ≡ Some task
    pub command : r.command ≡ command_at (record { utc = utc_read 0 its.its.before; values = values_read no_values its.its.before }) task
    pub there : 0 < r.cycle → lack task.needs (values_read no_values its.its.before) ≡ false

  -- a record whose command was sent has its request, and that has its values (`HasItsValues`)
  abbrev pub IsSentWithItsValues : Type 0
  IsSentWithItsValues = (utc : ℕ) → r.sent ≡ Some utc → (its : HasItsRequest plan commands scope acts r) × HasItsValues its

-- each record of a run is `IsSentWithItsValues`
abbrev pub EachRequestHasItsValues : Type 0
EachRequestHasItsValues = OfEachRecord IsSentWithItsValues
