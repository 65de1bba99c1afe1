-- A run that is computed, this project's own, in which cycles have no due moments. It meets all other premises of the bound by which a
-- due cycle is recorded, and no cycle is. An act is one call on the link, with its result.
use Rattle.gc_station.specs.Common.{Act, Told, Silent, Unopened}
use Rattle.std.specs.Prelude.{◌≡◌, ◌≤◌, false, List, [], ◌∷◌, length}
use Rattle.gc_station.specs.BoundRuns.{plan_of, scope, at, outage_commands, AreAtMost, IsBeyondBound}
use Rattle.gc_station.specs.Cycles.{ClockRises}
use Rattle.gc_station.specs.Model.{opening, Runs}
use Rattle.gc_station.specs.CallTimes.{CallsReturn, ReadingsReturn}
use Rattle.gc_station.specs.Stopping.{asked_after}
use Rattle.gc_station.specs.declared.plan.Plan.{Plan}

-- cycles that follow each other at once, deadlines of 10 ms, and a pause of a second
abbrev pub gapless_plan : Plan
gapless_plan = plan_of 0 10 1000

-- no connection can be made, and the read in the pause ends with the pause, as no cycle is ever out of time
abbrev pub long_pause : List Act
long_pause = Unopened ∷ Told (at 0) ∷ Silent (at 1000) ∷ []

-- that cycles have due moments is needed: this run meets all other premises
pub record DueMomentsAreNeeded : Type 0 where
  pub runs : Runs gapless_plan outage_commands (opening gapless_plan scope) long_pause
  pub listed : gapless_plan.setup ≤ length outage_commands
  pub rises : ClockRises 0 long_pause
  pub few : AreAtMost 10 gapless_plan outage_commands
  pub calls : CallsReturn gapless_plan outage_commands scope 5 long_pause
  pub readings : ReadingsReturn gapless_plan outage_commands scope 0 long_pause
  pub unasked : asked_after false long_pause ≡ false
  pub beyond : IsBeyondBound 10 5 0 gapless_plan outage_commands long_pause
