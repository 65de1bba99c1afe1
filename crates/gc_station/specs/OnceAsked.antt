-- How long a run goes on once its end was asked for: this project's own. An act is one call on the link, with its result.
use Rattle.gc_station.specs.Common.{AllByRecursion, Task, Act}
use Rattle.std.specs.Prelude.{◌≡◌, ℕ, ◌+◌, ◌*◌, ◌<◌, ◌≤◌, true, false, if◌then◌else◌, List, [], ◌∷◌, ◌++◌}
use Rattle.gc_station.specs.Behind.{AreOfTable}
use Rattle.gc_station.specs.Cycles.{ClockRises}
use Rattle.gc_station.specs.Deciding.{is_between_chains}
use Rattle.gc_station.specs.Model.{Model, opening, action_at, after, waiting_of, Runs}
use Rattle.gc_station.specs.NextCommand.{commands_left}
use Rattle.gc_station.specs.CallTimes.{CallsReturn, ReadingsReturn}
use Rattle.gc_station.specs.Runs.{state_after, WhereNext}
use Rattle.gc_station.specs.Scopes.{Scope}
use Rattle.gc_station.specs.Silences.{latest}
use Rattle.gc_station.specs.Stopping.{asked_after}
use Rattle.gc_station.specs.declared.plan.Plan.{Plan}
use Rattle.gc_station.specs.declared.progress.Action.{Action}
use Rattle.gc_station.specs.declared.progress.Action.TheVariants.{Open, Ask, Send, Flush, Read, Prepare}
use Rattle.gc_station.specs.declared.progress.Progress.{Progress}
use Rattle.gc_station.specs.declared.progress.Until.{Until}

-- how many requests of the client an act of this action sends
abbrev pub requests_by : Action → ℕ
requests_by Prepare = 1
requests_by Send = 1
requests_by Flush = 1
requests_by _ = 0

-- how many requests of the client these acts send, from the model `s` on
abbrev pub requests_sent : Plan → List Task → Model → List Act → ℕ
requests_sent plan commands s [] = 0
requests_sent plan commands s (act ∷ acts) = requests_by (action_at plan s) + requests_sent plan commands (after plan commands s act) acts

-- once a moment was read at which the end of the run was asked for: a read is next only while something is in flight that hasn't timed
-- out; no connection is made, and no null procedure of a synchronization is sent; and at most eight requests are sent for each command
-- that was left of the cycle, and seven besides
pub record EndsSoonOnceAsked : Type 0 where
  pub waits : (until : Until) → WhereNext (Read until) (λ plan commands scope acts.
      asked_after false acts ≡ true → 0 < (waiting_of (state_after plan commands scope acts)).current)
  pub opens : WhereNext Open (λ plan commands scope acts. asked_after false acts ≡ true → ⊥)
  pub asks : WhereNext Ask (λ plan commands scope acts. asked_after false acts ≡ true → ⊥)
  pub sends : (plan : Plan) (commands : List Task) (scope : Scope) (earlier later : List Act) → Runs plan commands (opening plan scope) (earlier ++ later)
      → asked_after false earlier ≡ true
      → let s = state_after plan commands scope earlier in requests_sent plan commands s later ≤ 8 * s.progress.unsent + 7

-- how many of these commands, from the first one on, go on with the chain of the command before them
abbrev pub chained_first : List Task → ℕ
chained_first [] = 0
chained_first (task ∷ others) = if task.chained then 1 + chained_first others else 0

-- how many commands are left of the chain that has begun at the progress `p`; none, if it is broken
abbrev pub chain_left : List Task → Progress → ℕ
chain_left commands p = if p.chain_unbroken then chained_first (commands_left commands p) else 0

-- how many requests a run sends at most from the progress `p` on, once its end was asked for: none between two chains; and within one
-- eight for each command that is left of it, and seven besides
abbrev pub requests_once_asked : List Task → Progress → ℕ
requests_once_asked commands p = if is_between_chains p then 0 else 8 * chain_left commands p + 7

-- once a moment was read at which the end of the run was asked for, no more requests are sent than `requests_once_asked` says
abbrev pub FinishesItsChainOnceAsked : Type 0
FinishesItsChainOnceAsked =
    (plan : Plan) (commands : List Task) (scope : Scope) (earlier later : List Act) → Runs plan commands (opening plan scope) (earlier ++ later)
    → asked_after false earlier ≡ true
    → let s = state_after plan commands scope earlier in requests_sent plan commands s later ≤ requests_once_asked commands s.progress

-- the same where all commands are calls of the table, for which the commands count once: a null procedure is sent only once a command has
-- timed out, and then the chain doesn't go on
abbrev pub requests_of_table_once_asked : List Task → Progress → ℕ
requests_of_table_once_asked commands p = if is_between_chains p then 0 else chain_left commands p + 7

-- once a moment was read at which the end of the run was asked for, a run whose commands are all calls of the table sends no more requests
-- than `requests_of_table_once_asked` says
abbrev pub FinishesATableChainOnceAsked : Type 0
FinishesATableChainOnceAsked =
    (plan : Plan) (commands : List Task) (scope : Scope) (earlier later : List Act) → AreOfTable commands → Runs plan commands (opening plan scope) (earlier ++ later)
    → asked_after false earlier ≡ true
    → let s = state_after plan commands scope earlier in requests_sent plan commands s later ≤ requests_of_table_once_asked commands s.progress

-- how many milliseconds after the moment read last a run whose end was asked for reads its last moment, at the latest, if it still sends
-- `requests` at most: the longest deadline, one call, and the readings behind it, once for what is in flight, and once for each of them
abbrev pub end_bound : (requests longest call readings : ℕ) → ℕ
end_bound requests longest call readings = (1 + requests) * (longest + call + readings)

-- once a moment was read at which the end of the run was asked for, no moment is read more than `end_bound` later, where no deadline is
-- longer than `longest`, the clock doesn't go back, and calls and readings return. `earlier` are the acts up to that moment, or more
abbrev pub EndsByBoundOnceAsked : Type 0
EndsByBoundOnceAsked =
    (longest call readings : ℕ) (plan : Plan) (commands : List Task) (scope : Scope) (earlier later : List Act)
    → Runs plan commands (opening plan scope) (earlier ++ later) → asked_after false earlier ≡ true
    → plan.deadline ≤ longest → AllByRecursion (λ (task : Task). task.deadline ≤ longest) commands
    → ClockRises 0 (earlier ++ later) → CallsReturn plan commands scope call (earlier ++ later) → ReadingsReturn plan commands scope readings (earlier ++ later)
    → latest 0 (earlier ++ later)
    ≤ latest 0 earlier + end_bound (requests_once_asked commands (state_after plan commands scope earlier).progress) longest call readings

-- the same where all commands are calls of the table, with `requests_of_table_once_asked`
abbrev pub EndsATableRunByBoundOnceAsked : Type 0
EndsATableRunByBoundOnceAsked =
    (longest call readings : ℕ) (plan : Plan) (commands : List Task) (scope : Scope) (earlier later : List Act) → AreOfTable commands
    → Runs plan commands (opening plan scope) (earlier ++ later) → asked_after false earlier ≡ true
    → plan.deadline ≤ longest → AllByRecursion (λ (task : Task). task.deadline ≤ longest) commands
    → ClockRises 0 (earlier ++ later) → CallsReturn plan commands scope call (earlier ++ later) → ReadingsReturn plan commands scope readings (earlier ++ later)
    → latest 0 (earlier ++ later)
    ≤ latest 0 earlier + end_bound (requests_of_table_once_asked commands (state_after plan commands scope earlier).progress) longest call readings
