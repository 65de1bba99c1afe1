-- Each command once, this project's own: the commands that had their turn, cycle by cycle and in order, are the records of a
-- run that are of cycles, and after them the outstanding commands, but for those of attempts that were left out, each once. An
-- act is one call on the link, with its result.
use Rattle.gc_station.specs.Common.{Asked, of_pending, Task, Act}
use Rattle.std.specs.Prelude.{◌≡◌, ◌⊎◌, ℕ, zero, suc, List, [], ◌∷◌, ◌++◌, take, drop, nat_eq, map, Option, filter, not}
use Rattle.gc_client.specs.declared.pending.Pending.{Pending}
use Rattle.gc_station.specs.declared.plan.Plan.{Plan}
use Rattle.gc_station.specs.declared.cause.Cause.{Cause}
use Rattle.gc_station.specs.declared.cause.Cause.TheVariants.{Done}
use Rattle.gc_station.specs.declared.mark.Mark.{Mark}
use Rattle.gc_station.specs.declared.progress.Action.TheVariants.{Stop}
use Rattle.gc_station.specs.Marks.{with_marks}
use Rattle.gc_station.specs.Records.{Record}
use Rattle.gc_station.specs.Runs.{state_after}
use Rattle.gc_station.specs.Model.{Model, action_at}
use Rattle.gc_station.specs.NextCommand.{cycles_begun, place_next}
use Rattle.gc_station.specs.Scopes.{Scope}
use Rattle.gc_station.specs.Links.{IsBefore}
pub use Rattle.gc_station.specs.Requests.{RunRequest, requests, of_command, of_task, in_text}

-- the commands of one cycle, in order: those of the list `commands` but the first `setup`, which are the setup
abbrev pub commands_of_cycle : (cycle setup : ℕ) (commands : List Task) → List RunRequest
commands_of_cycle cycle setup commands = requests cycle setup (map of_task (drop setup commands))

-- all commands of the first `cycles` cycles, in order; cycles count from 1
abbrev pub all_cycles : (setup : ℕ) (commands : List Task) (cycles : ℕ) → List RunRequest
all_cycles setup commands zero = []
all_cycles setup commands (suc n) = all_cycles setup commands n ++ commands_of_cycle (suc n) setup commands

-- the commands that had their turn, sent or not, if `cycles` cycles began: all of the cycles before the last one, and those
-- before the place `place` of the last one
abbrev pub commands_reached : (setup : ℕ) (commands : List Task) (cycles place : ℕ) → List RunRequest
commands_reached setup commands zero place = []
commands_reached setup commands (suc n) place = all_cycles setup commands n ++ commands_of_cycle (suc n) setup (take place commands)

-- those of these requests that are of a cycle: the others are of the setup, which has cycle 0
abbrev pub of_cycles : List RunRequest → List RunRequest
of_cycles xs = filter (λ (x : RunRequest). not (nat_eq x.cycle 0)) xs

-- the request that the record `r` is of
abbrev pub of_record : Record → RunRequest
of_record r = record { cycle = r.cycle; place = r.place; asked = of_command r.command }

-- the request that is outstanding as `p`, and has `mark`
abbrev pub of_waiting : Mark → Pending Asked → RunRequest
of_waiting mark p = record { cycle = mark.cycle; place = mark.place; asked = of_pending p }

-- the requests of commands among those that are outstanding, by their marks (`with_marks`)
abbrev pub still_waiting : List (Option Mark) → List (Pending Asked) → List RunRequest
still_waiting marks pendings = map (λ (x : Mark × Pending Asked). of_waiting x.0 x.1) (with_marks marks pendings)

-- the list `zs` consists of the elements of `xs` and those of `ys`, mixed: each element of it is the next one of `xs` or the
-- next one of `ys`
abbrev pub Interleave : {A : Type 0} → (xs ys zs : List A) → Type 0
Interleave xs ys [] = (xs ≡ []) × (ys ≡ [])
Interleave {A} xs ys (z ∷ zs) =
    ((others : List A) × (xs ≡ z ∷ others) × Interleave others ys zs)
    ⊎ ((others : List A) × (ys ≡ z ∷ others) × Interleave xs others zs)

-- those of the requests `xs` that are of a cycle, as the text has them: commands that set the clock are without their moments
abbrev pub of_text : List Task → List RunRequest → List RunRequest
of_text commands xs = map (in_text commands) (of_cycles xs)

-- the commands that had their turn, sent or not, if the station has the model `s`
abbrev pub reached : Plan → List Task → Model → List RunRequest
reached plan commands s = commands_reached plan.setup commands (cycles_begun plan s.progress) (place_next commands s.progress)

-- if the station has the model `s`: each command that had its turn, in order, either has its record, or is outstanding after the
-- records; or it is of an attempt that was left out (`passes`)
abbrev pub IsEachOnce : Plan → List Task → Model → Type 0
IsEachOnce plan commands s =
    Interleave (of_text commands (map of_record s.records ++ still_waiting s.marks s.client.waiting)) s.passes (reached plan commands s)

-- these requests, each once and in order, are those of the records of the model `s` that are of cycles, and the commands that
-- were left out
abbrev pub AreRecordedOnce : List Task → Model → List RunRequest → Type 0
AreRecordedOnce commands s all = Interleave (of_text commands (map of_record s.records)) s.passes all

-- after `acts`, which begin a run, `IsEachOnce` holds. If the run stopped there, the records and the attempts that were left
-- out are the commands that had their turn (`settled`); and if it is done, they are all commands of all cycles (`done`)
pub record EachOnce (plan : Plan) (commands : List Task) (scope : Scope) (acts : List Act) : Type 0 where
  pub each : IsEachOnce plan commands (state_after plan commands scope acts)
  pub settled : (cause : Cause) → action_at plan (state_after plan commands scope acts) ≡ Stop cause
      → AreRecordedOnce commands (state_after plan commands scope acts) (reached plan commands (state_after plan commands scope acts))
  pub done : action_at plan (state_after plan commands scope acts) ≡ Stop Done
      → AreRecordedOnce commands (state_after plan commands scope acts) (all_cycles plan.setup commands plan.cycles)

-- with the model `t` a station is further than with `s`: in a later cycle, or at a later place in the same cycle
abbrev pub IsFurther : Plan → List Task → (s t : Model) → Type 0
IsFurther plan commands s t =
    IsBefore (cycles_begun plan s.progress) (place_next commands s.progress) (cycles_begun plan t.progress) (place_next commands t.progress)
