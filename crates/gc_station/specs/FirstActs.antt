-- The first acts of a run, as a run of their own that returns: this project's own. So what is true of each run that returns, whatever turns
-- it is given, is true of a run that goes on, or is killed, at each of its moments. An act is one call on the link, with its result.
use Rattle.gc_station.specs.Common.{Task, Act, Closed}
use Rattle.std.specs.Prelude.{◌≡◌, ◌⊎◌, ℕ, ◌<◌, ◌≤◌, List, [], ◌∷◌, ◌++◌, length}
use Rattle.gc_station.specs.Model.{Runs, action_at, opening}
use Rattle.gc_station.specs.Records.{Grew, Record}
use Rattle.gc_station.specs.Runs.{state_after}
use Rattle.gc_station.specs.Scopes.{Scope}
use Rattle.gc_station.specs.declared.cause.Cause.{Cause}
use Rattle.gc_station.specs.declared.plan.Plan.{Plan}
use Rattle.gc_station.specs.declared.progress.Action.TheVariants.{Stop}

-- the scope of a run with this many turns, and else as `scope` is
abbrev pub with_turns : (turns : ℕ) → Scope → Scope
with_turns turns scope = record scope { turns = turns }

-- the records of a run of this scope by these acts
abbrev records_after : Plan → List Task → Scope → List Act → List Record
records_after plan commands scope acts = (state_after plan commands scope acts).records

-- a run of this scope that makes these acts ends after them, at most with a close: then it stops, for a cause
pub record EndsThere (plan : Plan) (commands : List Task) (scope : Scope) (acts : List Act) : Type 0 where
  pub last : List Act
  pub at_most_a_close : (last ≡ []) ⊎ (last ≡ Closed ∷ [])
  pub runs : Runs plan commands (opening plan scope) (acts ++ last)
  pub why : Cause
  pub stops : action_at plan (state_after plan commands scope (acts ++ last)) ≡ Stop why

-- these acts, which begin a run of `scope`, are those of a run that is given just as many turns, and else the same: that makes each of them,
-- and then ends
pub record AreAWholeRun (plan : Plan) (commands : List Task) (scope : Scope) (acts : List Act) : Type 0 where
  pub runs : Runs plan commands (opening plan (with_turns (length acts) scope)) acts
  pub ends : EndsThere plan commands (with_turns (length acts) scope) acts
  -- after any of the acts but all of them the records of both are the same
  pub records : (front later : List Act) → acts ≡ front ++ later → 0 < length later
      → records_after plan commands (with_turns (length acts) scope) front ≡ records_after plan commands scope front
  -- after all of them the run that ends there has the same records, and may have lost what is outstanding besides
  pub all : Grew (records_after plan commands scope acts) (records_after plan commands (with_turns (length acts) scope) acts)

-- the first acts of each run, at most as many as it has turns, are a whole run
abbrev pub FirstActsAreARun : Type 0
FirstActsAreARun =
    (plan : Plan) (commands : List Task) (scope : Scope) (acts later : List Act) → Runs plan commands (opening plan scope) (acts ++ later) → length acts ≤ scope.turns
    → AreAWholeRun plan commands scope acts
