-- When cycles begin, and which commands aren't sent, in the acts' own moments: this project's own. From the beginning of a cycle on it is
-- known when the next one is due (`due_at`). A cycle counts as begun when it was due, or when it began if that is earlier: it was asked for
-- then, or it is the first one. An act is one call on the link, with its result.
use Rattle.gc_station.specs.Common.{AllByRecursion, Skipped, NoValue, Missed, lack, Task, Act, Told, Moment}
use Rattle.std.specs.Prelude.{◌≡◌, ℕ, suc, ◌+◌, ◌-◌, ◌*◌, ◌%◌, ◌<◌, ◌≤◌, ◌⊎◌, true, false, min, List, [], ◌∷◌, ◌++◌, Some, None, MatchOption}
use Rattle.gc_station.specs.ActKinds.{moment_in}
use Rattle.gc_station.specs.Deciding.{later, may_go}
use Rattle.gc_station.specs.Progressing.{due_at}
use Rattle.gc_station.specs.Reasons.{IsOverdue}
use Rattle.gc_station.specs.Records.{Record}
use Rattle.gc_station.specs.Runs.{state_after, OfEachRun, OfEachAct, WhereNext}
use Rattle.gc_station.specs.Scopes.{Scope}
use Rattle.gc_station.specs.Model.{Model, opening, action_at, waiting_of, Runs}
use Rattle.gc_station.specs.NextCommand.{commands_left, cycles_begun, needs_first, place_next}
use Rattle.gc_station.specs.declared.plan.Plan.{Plan}
use Rattle.gc_station.specs.declared.progress.Action.TheVariants.{Begin, Send, Skip}
use Rattle.gc_station.specs.declared.progress.Progress.{Progress}
use Rattle.gc_station.specs.Chains.{IsChained}

-- the clock doesn't go back: the first moment that these acts read is at or past `now`, each later one at or past the one
-- before it, and all are at most 2^64 - 1
abbrev pub ClockRises : (now : ℕ) → List Act → Type 0
ClockRises now [] = Unit {0}
ClockRises now (act ∷ acts) =
    MatchOption (moment_in act) (ClockRises now acts) (λ m. (now ≤ m.elapsed) × (m.elapsed ≤ 18446744073709551615) × ClockRises m.elapsed acts)

-- one of `acts` reads the clock at the moment `m` and begins a cycle, before which `n` cycles began
pub record BeginsAt (plan : Plan) (commands : List Task) (scope : Scope) (acts : List Act) (n : ℕ) (m : Moment) : Type 0 where
  pub before : List Act
  pub behind : List Act
  pub order : acts ≡ before ++ Told m ∷ behind
  pub begins : action_at plan (state_after plan commands scope before) ≡ Begin
  pub number : cycles_begun plan (state_after plan commands scope before).progress ≡ n

-- when a cycle counts as begun that begins at the moment `m`, after the acts `before`: when it was due, or at `m` if that is earlier
abbrev pub counts_from : Plan → List Task → Scope → (before : List Act) → (m : Moment) → ℕ
counts_from plan commands scope before m = min (due_at (state_after plan commands scope before).progress) m.elapsed

-- one of `acts` begins a cycle at the moment `m`, which is `late` milliseconds after the cycle counts as begun; `n` cycles began
-- before it
pub record BeginsLate (plan : Plan) (commands : List Task) (scope : Scope) (acts : List Act) (n : ℕ) (m : Moment) (late : ℕ) : Type 0 where
  pub begins : BeginsAt plan commands scope acts n m
  pub grid : counts_from plan commands scope begins.before m + late ≡ m.elapsed

-- one of `acts` begins the cycle `cycle`, counted from 1: how many cycles began before it (`n`), the moment at which it begins,
-- and how many milliseconds after it counts as begun that is (`late`)
pub record CycleBegan (plan : Plan) (commands : List Task) (scope : Scope) (acts : List Act) (cycle : ℕ) : Type 0 where
  pub n : ℕ
  pub moment : Moment
  pub late : ℕ
  pub begins : BeginsLate plan commands scope acts n moment late
  pub number : cycle ≡ suc n

-- the cycle that began last among `acts` (`CycleBegan`)
abbrev pub LastBegan : Plan → List Task → Scope → List Act → Type 0
LastBegan plan commands scope acts = CycleBegan plan commands scope acts (cycles_begun plan (state_after plan commands scope acts).progress)

-- after these acts somebody asks for a cycle: by the moment read last the file by which that is asked is there, and was changed at another
-- time than by the moment at which the last cycle began
pub record IsAskedFor (plan : Plan) (commands : List Task) (scope : Scope) (acts : List Act) : Type 0 where
  pub n : ℕ
  pub moment : Moment
  pub begins : BeginsAt plan commands scope acts n moment
  pub last : cycles_begun plan (state_after plan commands scope acts).progress ≡ suc n
  pub there : 0 < (state_after plan commands scope acts).progress.moment.touched
  pub changed : (state_after plan commands scope acts).progress.moment.touched ≡ moment.touched → ⊥

-- no cycle has begun at the progress `p`, and cycles don't begin by the clock: so the first one needn't wait
abbrev pub IsFirstOfAll : Plan → Progress → Type 0
IsFirstOfAll plan p = (p.left ≡ plan.cycles) × (plan.at ≡ None)

-- why a cycle begins next: it is due by the moment read last, or somebody asks for it, or it is the first and needn't wait
abbrev pub IsWantedBy : Plan → List Task → Scope → List Act → Type 0
IsWantedBy plan commands scope acts =
    let p = (state_after plan commands scope acts).progress in (due_at p ≤ p.moment.elapsed) ⊎ (IsAskedFor plan commands scope acts ⊎ IsFirstOfAll plan p)

-- of a cycle that begins at the moment `m`, where the progress was `p` before: when the next one is due then (`now`)
pub record IsDueNext (plan : Plan) (p : Progress) (m : Moment) (now : ℕ) : Type 0 where
  -- if this one wasn't due by then, as somebody asked for it, when it was due before
  pub stays : p.left < plan.cycles → m.elapsed < due_at p → now ≡ due_at p
  -- else, if cycles don't begin by the clock, `every` milliseconds after this one counts as begun
  pub regular : (due_at p ≤ m.elapsed) ⊎ (p.left ≡ plan.cycles) → plan.at ≡ None → now ≡ later (min (due_at p) m.elapsed) plan.every
  -- and if cycles begin by the clock, `at` milliseconds after a whole multiple of `every` since 1970, by the clock of time stamps as it is at
  -- `m`: at least half a period after this one was due, and at most one and a half. No sum may reach 2^64
  pub by_clock : (at : ℕ) → due_at p ≤ m.elapsed → plan.at ≡ Some at → m.elapsed + 2 * plan.every ≤ 18446744073709551615
      → ((k : ℕ) × ((m.utc - (m.elapsed - due_at p)) + (now - due_at p) ≡ k * plan.every + at % plan.every))
      × (plan.every ≤ 2 * (now - due_at p)) × (2 * (now - due_at p) ≤ 3 * plan.every)

-- when cycles begin, where cycles have due moments and the clock doesn't go back
pub record CyclesBeginWhenDue : Type 0 where
  -- the first due moment is `first`, but at the latest a period after the start of the clock
  pub first : (plan : Plan) (scope : Scope) → plan.every ≤ 18446744073709551615 → due_at (opening plan scope).progress ≡ min plan.first plan.every
  -- a cycle begins only if it is due, or somebody asked for it; the first one needn't be, unless cycles begin by the clock
  pub why : (plan : Plan) (commands : List Task) (scope : Scope) (acts : List Act) → 0 < plan.every → Runs plan commands (opening plan scope) acts
      → ClockRises 0 acts → action_at plan (state_after plan commands scope acts) ≡ Begin → IsWantedBy plan commands scope acts
  -- it begins when it counts as begun, or later
  pub begins : (plan : Plan) (commands : List Task) (scope : Scope) (acts later : List Act) (m : Moment) → 0 < plan.every
      → Runs plan commands (opening plan scope) (acts ++ Told m ∷ later)
      → ClockRises 0 (acts ++ Told m ∷ []) → let s = state_after plan commands scope acts in action_at plan s ≡ Begin
      → (late : ℕ) × BeginsLate plan commands scope (acts ++ Told m ∷ []) (cycles_begun plan s.progress) m late
  -- from then on it is known when the next one is due (`IsDueNext`)
  pub next : (plan : Plan) (commands : List Task) (scope : Scope) (acts later : List Act) (m : Moment) → 0 < plan.every
      → Runs plan commands (opening plan scope) (acts ++ Told m ∷ later)
      → ClockRises 0 (acts ++ Told m ∷ []) → let s = state_after plan commands scope acts in action_at plan s ≡ Begin
      → IsDueNext plan s.progress m (due_at (state_after plan commands scope (acts ++ Told m ∷ [])).progress)
  -- and no act but the beginning of a cycle changes that
  pub stays : OfEachAct (λ plan commands scope earlier act.
      0 < plan.every → ClockRises 0 (earlier ++ act ∷ []) → (action_at plan (state_after plan commands scope earlier) ≡ Begin → ⊥)
      → due_at (state_after plan commands scope (earlier ++ act ∷ [])).progress ≡ due_at (state_after plan commands scope earlier).progress)

-- if a command of a cycle is sent, its cycle began less than a period after it counts as begun, where cycles have due moments and the
-- clock doesn't go back
abbrev pub SentOnlyInTime : Type 0
SentOnlyInTime = WhereNext Send (λ plan commands scope acts.
    0 < plan.every → ClockRises 0 acts → (last : LastBegan plan commands scope acts) × (last.late < plan.every))

-- the command of the record `r` is missed: its cycle (`its`) began a period after it was due, or later; the command wasn't sent;
-- and the record has the moment at which its cycle was due, by the clock of time stamps
pub record IsMissedIn (plan : Plan) (commands : List Task) (scope : Scope) (acts : List Act) (r : Record) : Type 0 where
  pub its : CycleBegan plan commands scope acts r.cycle
  pub too_late : plan.every ≤ its.late
  pub sent : r.sent ≡ None
  pub due : r.utc ≡ its.moment.utc - its.late

-- the next command of a station that has the model `s` goes on with a chain, and the command before it wasn't answered well, or since
-- that was sent a connection was closed or the station resynchronized
abbrev pub IsBroken : Plan → List Task → Model → Type 0
IsBroken plan commands s = IsChained plan commands s.progress × (may_go s.progress (waiting_of s) ≡ false)

-- the next command of a station that has the model `s` takes these values of files (`needs`), and one of them wasn't there at the moment read
-- last
abbrev pub IsWithoutValue : List Task → Model → Type 0
IsWithoutValue commands s = lack (needs_first (commands_left commands s.progress)) s.progress.moment.values ≡ true

-- the command of the record `r` is skipped: one of `acts` reads the clock at the moment `moment` to record that the cycle's next
-- command isn't sent, for the reason `Why` of the model before
pub record IsUnsentIn (Why : Model → Type 0) (plan : Plan) (commands : List Task) (scope : Scope) (acts : List Act) (r : Record) : Type 0 where
  pub before : List Act
  pub moment : Moment
  pub behind : List Act
  pub order : acts ≡ before ++ Told moment ∷ behind
  pub skips : action_at plan (state_after plan commands scope before) ≡ Skip
  pub cycle : r.cycle ≡ cycles_begun plan (state_after plan commands scope before).progress
  pub place : r.place ≡ place_next commands (state_after plan commands scope before).progress
  pub why : Why (state_after plan commands scope before)
  -- its cycle began less than a period after it counts as begun
  pub last : LastBegan plan commands scope before
  pub in_time : last.late < plan.every
  pub sent : r.sent ≡ None
  pub utc : r.utc ≡ moment.utc

-- the command of the record `r` is skipped, because its chain is broken, or its cycle is overdue
abbrev pub IsSkippedIn : Plan → List Task → Scope → List Act → Record → Type 0
IsSkippedIn plan commands scope acts r = IsUnsentIn (λ s. IsBroken plan commands s ⊎ IsOverdue plan s.progress (waiting_of s)) plan commands scope acts r

-- the command of the record `r` wasn't sent, because a value that it takes of a file wasn't there
abbrev pub IsWithoutValueIn : Plan → List Task → Scope → List Act → Record → Type 0
IsWithoutValueIn plan commands scope acts r = IsUnsentIn (λ s. IsWithoutValue commands s) plan commands scope acts r

-- if the record `r` is of a command that was missed, skipped or without a value, that command was missed as `IsMissedIn` says, skipped as
-- `IsSkippedIn` says, or without a value as `IsWithoutValueIn` says
abbrev pub UnsentIsJustified : Plan → List Task → Scope → List Act → Record → Type 0
UnsentIsJustified plan commands scope acts r =
    (r.end ≡ Missed → IsMissedIn plan commands scope acts r) × (r.end ≡ Skipped → IsSkippedIn plan commands scope acts r)
    × (r.end ≡ NoValue → IsWithoutValueIn plan commands scope acts r)

-- each record of a command that was missed, skipped or without a value is justified, where cycles have due moments and the clock doesn't go back
abbrev pub UnsentForACause : Type 0
UnsentForACause = OfEachRun (λ plan commands scope acts.
    0 < plan.every → ClockRises 0 acts → AllByRecursion (UnsentIsJustified plan commands scope acts) (state_after plan commands scope acts).records)
