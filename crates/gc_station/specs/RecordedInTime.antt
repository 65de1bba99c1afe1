-- By when the commands of a due cycle have their records: this project's own. An act is one call on the link, with its result.
use Rattle.gc_station.specs.Common.{AllByRecursion, is_of_table, Task, Act, Moment}
use Rattle.std.specs.Prelude.{◌≡◌, ◌⊎◌, ℕ, zero, suc, ◌+◌, ◌-◌, ◌*◌, ◌<◌, ◌≤◌, true, false, if◌then◌else◌, List, [], ◌∷◌, ◌++◌, length, take}
use Rattle.gc_station.specs.CallTimes.{CallsReturn}
use Rattle.gc_station.specs.Cycles.{ClockRises, BeginsAt, counts_from}
use Rattle.gc_station.specs.Deciding.{setup_permits, is_preparing}
use Rattle.gc_station.specs.EachOnce.{AreRecordedOnce, all_cycles}
use Rattle.gc_station.specs.Model.{opening, action_at, waiting_of, cycle_length, Runs}
use Rattle.gc_station.specs.Quiet.{IsListening}
use Rattle.gc_station.specs.Runs.{state_after, OfEachRun, OfEachAct, WhereNext}
use Rattle.gc_station.specs.NextCommand.{cycles_begun}
use Rattle.gc_station.specs.Progressing.{due_at}
use Rattle.gc_station.specs.Reasons.{AwaitsSomething, MayBeSent}
use Rattle.gc_station.specs.Scopes.{Scope}
use Rattle.gc_station.specs.Stopping.{asked_after}
use Rattle.gc_station.specs.declared.plan.Plan.{Plan}
use Rattle.gc_station.specs.declared.progress.Action.{Action}
use Rattle.gc_station.specs.declared.progress.Action.TheVariants.{Begin, Skip, Pass, Read}
use Rattle.gc_station.specs.declared.progress.Progress.{Progress}
use Rattle.gc_station.specs.declared.progress.Until.{Until}
pub use Rattle.gc_station.specs.CallTimes.{MayTakeTime}

-- each command of the first `n` cycles had its record, in order, or was left out with its attempt, after the first of `acts`
-- (`before`). By the law `records_stay` these records stay
pub record AreRecorded (plan : Plan) (commands : List Task) (scope : Scope) (acts : List Act) (n : ℕ) : Type 0 where
  pub before : List Act
  pub behind : List Act
  pub order : acts ≡ before ++ behind
  pub all : AreRecordedOnce commands (state_after plan commands scope before) (all_cycles plan.setup commands n)

-- the cycle that has `n` cycles before it is due at the moment `d`: it began among `acts`, and counts as begun then; or it is the next one,
-- which hasn't begun. When a later one is due isn't known yet: no earlier than the next one
abbrev pub IsDueAt : Plan → List Task → Scope → List Act → (n d : ℕ) → Type 0
IsDueAt plan commands scope acts n d =
    ((m : Moment) × (begins : BeginsAt plan commands scope acts n m) × (d ≡ counts_from plan commands scope begins.before m))
    ⊎ (let p = (state_after plan commands scope acts).progress in (cycles_begun plan p ≡ n) × (d ≡ due_at p))

-- each cycle that was due at least `wait` milliseconds before the moment read last is recorded: all its commands have their records, or were
-- left out. `count` is how many of the first cycles are
pub record DueOnesAreRecorded (plan : Plan) (commands : List Task) (scope : Scope) (wait : ℕ) (acts : List Act) : Type 0 where
  pub count : ℕ
  pub are : AreRecorded plan commands scope acts count
  pub each : (n d : ℕ) → n < plan.cycles → IsDueAt plan commands scope acts n d → d + wait ≤ (state_after plan commands scope acts).progress.moment.elapsed → n < count

-- no cycle has begun, and the moment read last is less than `wait` milliseconds after the start of the clock; or there is no cycle
abbrev pub NoneHasBegun : Plan → List Task → Scope → (wait : ℕ) → List Act → Type 0
NoneHasBegun plan commands scope wait acts =
    let p = (state_after plan commands scope acts).progress in (p.left ≡ plan.cycles) × ((p.moment.elapsed < wait) ⊎ (plan.cycles ≡ 0))

-- each cycle that was due `wait` milliseconds before the moment read last is recorded; or none has begun, and less time than that has
-- passed since the start of the clock
abbrev pub IsInTime : Plan → List Task → Scope → (wait : ℕ) → List Act → Type 0
IsInTime plan commands scope wait acts = NoneHasBegun plan commands scope wait acts ⊎ DueOnesAreRecorded plan commands scope wait acts

-- nothing but what is in flight keeps a cycle that is out of time from being abandoned: the end of the run wasn't asked for; and the
-- setup, if there is one, is done, or nothing of it was sent since the connection was made and the station synchronized, or commands
-- are outstanding
abbrev pub IsUnhindered : Plan → List Task → Scope → List Act → Type 0
IsUnhindered plan commands scope acts =
    let s = state_after plan commands scope acts in
    (s.progress.stops ≡ false) × (setup_permits plan s.progress (waiting_of s) ≡ true)

-- whenever a run goes on with an action that may take its time (`MayTakeTime`), with nothing in flight that hasn't timed out, each
-- cycle that was due two periods before the moment read last is recorded
abbrev pub RecordsOnceTimedOut : Type 0
RecordsOnceTimedOut = OfEachRun (λ plan commands scope acts.
    0 < plan.every → ClockRises 0 acts → IsUnhindered plan commands scope acts
    → let s = state_after plan commands scope acts in MayTakeTime (action_at plan s) → (waiting_of s).current ≡ 0
    → IsInTime plan commands scope (2 * plan.every) acts)

-- how many of these tasks ask for procedures outside the table
abbrev pub raw_count : List Task → ℕ
raw_count [] = 0
raw_count (task ∷ tasks) = (if is_of_table task.command.call then 0 else 1) + raw_count tasks

-- how many raw commands the setup has before its last command. Behind each of them up to seven null procedures may be lost, one after the
-- other, before the next command of the setup is sent
abbrev pub raws_of_setup : Plan → List Task → ℕ
raws_of_setup plan commands = raw_count (take (plan.setup - 1) commands)

-- how many milliseconds after its due moment a cycle is recorded at the latest, where no deadline is longer than `longest`: two periods;
-- then the longest deadline for what is in flight, and for each command of a setup that was begun; and for each raw command before the
-- setup's last one seven times the sum of the longest deadline and `call`, in which seven null procedures are lost
abbrev pub record_bound : Plan → List Task → (longest call : ℕ) → ℕ
record_bound plan commands longest call = 2 * plan.every + (1 + plan.setup) * longest + raws_of_setup plan commands * (7 * (longest + call))

-- while the end of the run isn't asked for: whenever a run goes on with an action that may take its time, each cycle that was due
-- `record_bound` before the moment read last is recorded, where no deadline is longer than `longest`, and the list has each command of the
-- setup. If there are raw ones before the last of these, the calls return in their time (`CallsReturn`); else nothing is said of the calls
abbrev pub RecordsInTime : Type 0
RecordsInTime = (longest call : ℕ) → OfEachRun (λ plan commands scope acts.
    0 < plan.every → plan.setup ≤ length commands → plan.deadline ≤ longest → AllByRecursion (λ (task : Task). task.deadline ≤ longest) commands
    → ClockRises 0 acts → (raws_of_setup plan commands ≡ 0) ⊎ CallsReturn plan commands scope call acts → asked_after false acts ≡ false
    → MayTakeTime (action_at plan (state_after plan commands scope acts))
    → IsInTime plan commands scope (record_bound plan commands longest call) acts)

-- an action that may take its time (`MayTakeTime`) comes directly after an act that read a moment, unless it is the first of the run
abbrev pub ReadsClockBefore : Type 0
ReadsClockBefore =
    (plan : Plan) (commands : List Task) (scope : Scope) (earlier : List Act) (act : Act) → Runs plan commands (opening plan scope) (earlier ++ act ∷ [])
    → MayTakeTime (action_at plan (state_after plan commands scope (earlier ++ act ∷ []))) → IsListening act

-- a read is next only while something is awaited (`AwaitsSomething`); never where the next command of the cycle may be sent; and without
-- a setup none is prepared
pub record ReadsAwaitSomething : Type 0 where
  pub awaits : (until : Until) → WhereNext (Read until) (λ plan commands scope acts.
      AwaitsSomething plan (state_after plan commands scope acts).progress (waiting_of (state_after plan commands scope acts)) until)
  pub sends : (until : Until) → WhereNext (Read until) (λ plan commands scope acts.
      MayBeSent plan (state_after plan commands scope acts).progress (waiting_of (state_after plan commands scope acts)) → ⊥)
  pub prepares : OfEachRun (λ plan commands scope acts.
      plan.setup ≡ 0 → is_preparing plan (state_after plan commands scope acts).progress (waiting_of (state_after plan commands scope acts)) ≡ false)

-- how many acts it takes at most to record `left` cycles of `count` commands without sending any: one to begin each, and one for each
-- command
abbrev pub acts_to_record : (count left : ℕ) → ℕ
acts_to_record count zero = 0
acts_to_record count (suc n) = suc count + acts_to_record count n

-- the same of all that is left at the progress `p`: the cycles that haven't begun, and the unsent commands of this one
abbrev pub left_to_record : Plan → List Task → Progress → ℕ
left_to_record plan commands p = acts_to_record (cycle_length plan commands) p.left + p.unsent

-- the action begins a cycle, or records commands without sending them, or leaves them out
abbrev pub RecordsUnsent : Action → Type 0
RecordsUnsent Begin = Unit {0}
RecordsUnsent Skip = Unit {0}
RecordsUnsent Pass = Unit {0}
RecordsUnsent _ = ⊥

-- no act leaves more to be recorded than there was; and one that begins a cycle, records commands without sending them, or leaves them
-- out, leaves less, if the clock could be read
abbrev pub RecordingEnds : Type 0
RecordingEnds = OfEachAct (λ plan commands scope earlier act.
    let s = state_after plan commands scope earlier in
    let t = state_after plan commands scope (earlier ++ act ∷ []) in
    (left_to_record plan commands t.progress ≤ left_to_record plan commands s.progress)
    × (RecordsUnsent (action_at plan s) → IsListening act → left_to_record plan commands t.progress < left_to_record plan commands s.progress))
