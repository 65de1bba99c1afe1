-- By when the commands of a due cycle have their records, at each moment that is read: this project's own. What the calls on the link
-- take is a premise. An act is one call on the link, with its result.
use Rattle.gc_station.specs.Common.{Appends, AllByRecursion, deadlines, Task, Act, AddsActs}
use Rattle.std.specs.Prelude.{◌≡◌, ℕ, suc, ◌+◌, ◌*◌, ◌<◌, ◌≤◌, max, true, false, List, ◌∷◌, ◌++◌, length, Option}
use Rattle.gc_station.specs.ActKinds.{ReadsClock}
use Rattle.gc_station.specs.CallTimes.{IsAskedToWait, CallsReturn, ReadingsReturn}
use Rattle.gc_station.specs.Cycles.{ClockRises}
use Rattle.gc_station.specs.Deciding.{is_out_of_time}
use Rattle.gc_station.specs.Keeping.{Snapshot, KeepsUp}
use Rattle.gc_station.specs.Model.{Model}
use Rattle.gc_station.specs.RecordedInTime.{IsInTime, record_bound}
use Rattle.gc_station.specs.Records.{Record, texts_of}
use Rattle.gc_station.specs.Runs.{state_after, OfEachRun}
use Rattle.gc_station.specs.Scopes.{Scope}
use Rattle.gc_station.specs.Stopping.{asked_after}
use Rattle.gc_station.specs.declared.plan.Plan.{Plan}
use Rattle.gc_station.specs.declared.progress.Action.TheVariants.{Read}
use Rattle.gc_station.specs.declared.progress.Until.{Until}

-- how many milliseconds after its cycle was due a command has its record at the latest: as many as where an action is next that may take
-- its time (`record_bound`), one call, and the readings behind it
abbrev pub bound : Plan → List Task → (longest call readings : ℕ) → ℕ
bound plan commands longest call readings = record_bound plan commands longest call + call + readings

-- after each run whose calls and readings return, each cycle that was due more than `bound` before the moment read last is recorded,
-- where cycles have due moments, the list has each command of the setup, no deadline is longer than `longest`, the clock doesn't go back,
-- and the end of the run wasn't asked for. Acts that begin a run are a run, so this holds at each moment that is read
abbrev pub RecordsByBound : Type 0
RecordsByBound = (longest call readings : ℕ) → OfEachRun (λ plan commands scope acts.
    0 < plan.every → plan.setup ≤ length commands → plan.deadline ≤ longest → AllByRecursion (λ (task : Task). task.deadline ≤ longest) commands
    → ClockRises 0 acts → CallsReturn plan commands scope call acts → ReadingsReturn plan commands scope readings acts → asked_after false acts ≡ false
    → IsInTime plan commands scope (suc (bound plan commands longest call readings)) acts)

-- of a run whose list of turns was `seen` before it and is `seen'` after it: among these is one at which the link had recorded the acts
-- `done`, and the book the texts of all records of these acts; and those were durable
pub record LastedAt (plan : Plan) (commands : List Task) (scope : Scope) (text : Record → List ℕ) (told : Option (List Act)) (taken : Option (List ℕ)) (seen seen' : List Snapshot)
    (done : List Act) : Type 0 where
  pub turn : Snapshot
  pub earlier : List Snapshot
  pub later : List Snapshot
  pub among : seen' ≡ seen ++ (earlier ++ turn ∷ later)
  pub tells : AddsActs told turn.acts done
  pub took : Appends taken turn.taken (texts_of text (state_after plan commands scope done).records)
  pub lasts : turn.lasts ≡ true

-- of each run as clause `keeps` of `run_station` has it: just before each of its acts but a mere reading of the clock, each cycle that
-- was due more than `bound` before the moment read last was recorded, and all records were durable (`LastedAt`). The premises are
-- those of `RecordsByBound`, for the acts before that one
abbrev pub LastsByBound : Type 0
LastsByBound =
    (longest call readings : ℕ) (plan : Plan) (commands : List Task) (scope : Scope) (text : Record → List ℕ) (told told' : Option (List Act)) (taken : Option (List ℕ))
    (seen seen' : List Snapshot) (others : List Act) (run : KeepsUp plan commands scope text told told' taken seen seen' others) (done later : List Act) (act : Act)
    → run.acts ≡ done ++ act ∷ later → (ReadsClock act → ⊥)
    → 0 < plan.every → plan.setup ≤ length commands → plan.deadline ≤ longest → AllByRecursion (λ (task : Task). task.deadline ≤ longest) commands
    → ClockRises 0 done → CallsReturn plan commands scope call done → ReadingsReturn plan commands scope readings done → asked_after false done ≡ false
    → IsInTime plan commands scope (suc (bound plan commands longest call readings)) done × LastedAt plan commands scope text told taken seen seen' done

-- no read is asked to wait past the moment at which the cycle is out of time, nor past a deadline of what is in flight, but always for a
-- millisecond; nor for more than a minute
abbrev pub ReadsEndInTime : Type 0
ReadsEndInTime =
    (plan : Plan) (s : Model) (until : Until) (wait : ℕ) → IsAskedToWait plan s (Read until) wait
    → let now = s.progress.moment.elapsed in
    (0 < plan.every → is_out_of_time plan s.progress ≡ false → now + wait ≤ max (s.progress.began + 2 * plan.every) (now + 1))
    × AllByRecursion (λ (d : ℕ). now + wait ≤ max d (now + 1)) (deadlines s.client.waiting)
    × (wait ≤ 60000)
