-- How long the calls on the link take: this project's own. That they return in their time is a premise. An act is one call on the link,
-- with its result.
use Rattle.gc_station.specs.Common.{IsEarliest, deadlines, Task, Act}
use Rattle.std.specs.Prelude.{◌≡◌, ℕ, ◌+◌, ◌≤◌, List, [], ◌∷◌, ◌++◌, Option, MatchOption}
use Rattle.gc_station.specs.ActKinds.{moment_in}
use Rattle.gc_station.specs.Model.{Model, action_at, waiting_of}
use Rattle.gc_station.specs.Pace.{read_timeout}
use Rattle.gc_station.specs.Quiet.{IsListening}
use Rattle.gc_station.specs.Runs.{state_after}
use Rattle.gc_station.specs.Scopes.{Scope}
use Rattle.gc_station.specs.Silences.{latest}
use Rattle.gc_station.specs.declared.plan.Plan.{Plan}
use Rattle.gc_station.specs.declared.progress.Action.{Action}
use Rattle.gc_station.specs.declared.progress.Action.TheVariants.{ReadClock, Renew, Begin, Clear, Skip, Pass, Read, Close, Stop}

-- the call of this action may take its time: it makes a connection, sends a request or reads. The others are taken as quick: they read
-- the clock alone, send the line feed directly after a connection was made, close a connection, or end the run
abbrev pub MayTakeTime : Action → Type 0
MayTakeTime ReadClock = ⊥
MayTakeTime Renew = ⊥
MayTakeTime Begin = ⊥
MayTakeTime Skip = ⊥
MayTakeTime Pass = ⊥
MayTakeTime Clear = ⊥
MayTakeTime (Close why) = ⊥
MayTakeTime (Stop why) = ⊥
MayTakeTime _ = Unit {0}

-- the call of this action is asked to wait for `wait` milliseconds: a read for its time-out (`read_timeout`), the others not at all
abbrev pub IsAskedToWait : Plan → Model → Action → (wait : ℕ) → Type 0
IsAskedToWait plan s (Read until) wait =
    (deadline : Option ℕ) × IsEarliest (deadlines s.client.waiting) deadline × (wait ≡ read_timeout plan s.progress (waiting_of s).fresh until deadline)
IsAskedToWait plan s _ wait = wait ≡ 0

-- the first moment that these acts read is `limit` or earlier, if they read one
abbrev pub IsReadBy : (limit : ℕ) → List Act → Type 0
IsReadBy limit [] = Unit {0}
IsReadBy limit (act ∷ acts) = MatchOption (moment_in act) (IsReadBy limit acts) (λ m. m.elapsed ≤ limit)

module _ (plan : Plan) (commands : List Task) (scope : Scope) where
  -- none of these acts, which come after the acts `earlier`, may take its time (`MayTakeTime`)
  abbrev pub AreQuick : (earlier acts : List Act) → Type 0
  AreQuick earlier [] = Unit {0}
  AreQuick earlier (act ∷ acts) = (MayTakeTime (action_at plan (state_after plan commands scope earlier)) → ⊥) × AreQuick (earlier ++ act ∷ []) acts

  -- the calls of these acts return: the first moment of the run is read `call` milliseconds after the start of the clock or earlier; and
  -- from each act that may take its time on, the first moment is read at most `call` milliseconds after its wait is over
  -- (`IsAskedToWait`), which begins at the moment read last before it
  pub record CallsReturn (call : ℕ) (acts : List Act) : Type 0 where
    pub first : IsReadBy call acts
    pub each : (earlier later : List Act) (act : Act) → acts ≡ earlier ++ act ∷ later
        → let s = state_after plan commands scope earlier in MayTakeTime (action_at plan s)
        → (wait : ℕ) × IsAskedToWait plan s (action_at plan s) wait × IsReadBy (latest 0 earlier + wait + call) (act ∷ later)

  -- the readings among these acts return: from each moment that is read on, a row of acts none of which may take its time reads its
  -- last moment at most `readings` milliseconds later
  abbrev pub ReadingsReturn : (readings : ℕ) → List Act → Type 0
  ReadingsReturn readings acts =
      (earlier quick later : List Act) (told : Act) → acts ≡ earlier ++ told ∷ (quick ++ later) → IsListening told → AreQuick (earlier ++ told ∷ []) quick
      → latest 0 (earlier ++ told ∷ quick) ≤ latest 0 (earlier ++ told ∷ []) + readings
