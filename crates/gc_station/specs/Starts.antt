-- Starts of the instrument, this project's own. A sign-on shows that it was switched on or off, and then it may no longer be as the setup
-- left it. So the setup is sent anew. An act is one call on the link, with its result.
use Rattle.gc_station.specs.Common.{list_any, is_sign_on, Task, Act}
use Rattle.std.specs.Prelude.{◌≡◌, ◌<◌, ℕ, true, List, [], ◌∷◌, ◌++◌}
use Rattle.gc_station.specs.declared.plan.Plan.{Plan}
use Rattle.gc_station.specs.declared.progress.Action.TheVariants.{Send}
use Rattle.gc_station.specs.Beginnings.{lines_heard_at}
use Rattle.gc_station.specs.Model.{Model, opening, action_at, Runs}
use Rattle.gc_station.specs.Runs.{state_after}
use Rattle.gc_station.specs.Scopes.{Scope}
use Rattle.gc_station.specs.Setups.{IsPrepared}

-- the act, before which the station has the model `s`, completes a line with a sign-on in it, which the station hears
abbrev pub BringsSignOn : Model → Act → Type 0
BringsSignOn s act = list_any is_sign_on (lines_heard_at s act) ≡ true

-- after `acts` the command of the setup at `place` is prepared (`IsPrepared`), and was sent after the first ones of these acts,
-- `earlier`
pub record IsPreparedBehind (plan : Plan) (commands : List Task) (scope : Scope) (earlier acts : List Act) (place : ℕ) : Type 0 where
  pub prepared : IsPrepared plan commands scope acts place
  pub between : List Act
  pub order : prepared.before ≡ earlier ++ between

-- if the act `start`, made after `earlier`, brings a sign-on, and after the acts `behind` a command of a cycle is sent: each command of the
-- setup was sent after `start`, and answered well, on the connection of that command, and after its synchronization
abbrev pub SetsUpAnewAfterASignOn : Type 0
SetsUpAnewAfterASignOn =
    (plan : Plan) (commands : List Task) (scope : Scope) (earlier behind : List Act) (start : Act) → Runs plan commands (opening plan scope) (earlier ++ start ∷ behind)
    → BringsSignOn (state_after plan commands scope earlier) start → action_at plan (state_after plan commands scope (earlier ++ start ∷ behind)) ≡ Send
    → (place : ℕ) → place < plan.setup → IsPreparedBehind plan commands scope (earlier ++ start ∷ []) (earlier ++ start ∷ behind) place
