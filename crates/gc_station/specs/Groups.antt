-- Commands that have their turn in one of several cycles: this project's own.
use Rattle.gc_station.specs.Common.{AllByRecursion, Task}
use Rattle.std.specs.Prelude.{◌≡◌, ℕ, suc, ◌*◌, ◌<◌, true, List, [], ◌∷◌, drop}
use Rattle.gc_station.specs.NextCommand.{cycles_begun, commands_left, rests}
use Rattle.gc_station.specs.Records.{Record}
use Rattle.gc_station.specs.Runs.{state_after, OfEachRun, WhereNext}
use Rattle.gc_station.specs.declared.progress.Action.TheVariants.{Send}

-- the first of these commands has its turn in this cycle: in one of every `every` cycles, from cycle 1 on. With 1 or 0, or if there is no
-- command, nothing is said
abbrev pub HasItsTurnIn : (cycle : ℕ) → List Task → Type 0
HasItsTurnIn cycle [] = Unit {0}
HasItsTurnIn cycle (task ∷ others) = 1 < task.every → (k : ℕ) × (cycle ≡ suc (k * task.every))

-- if the record `r` is of a cycle, its command has its turn in that cycle
abbrev pub IsOfItsCycle : List Task → Record → Type 0
IsOfItsCycle commands r = 0 < r.cycle → HasItsTurnIn r.cycle (drop r.place commands)

-- a command has its turn only in the cycles of its group, and in each of them
pub record GroupsHaveTheirTurn : Type 0 where
  -- no command is sent that doesn't have its turn in its cycle
  pub sends : WhereNext Send (λ plan commands scope acts.
      let p = (state_after plan commands scope acts).progress in HasItsTurnIn (cycles_begun plan p) (commands_left commands p))
  -- and none has a record of such a cycle
  pub records : OfEachRun (λ plan commands scope acts. AllByRecursion (IsOfItsCycle commands) (state_after plan commands scope acts).records)
  -- a command rests, so that it is left out (`each_further_attempt_has_a_cause`), only in a cycle in which it doesn't have its turn
  pub rest : (cycle : ℕ) (task : Task) (others : List Task) → 0 < cycle → rests cycle (task ∷ others) ≡ true → (1 < task.every) × ((k : ℕ) → cycle ≡ suc (k * task.every) → ⊥)
