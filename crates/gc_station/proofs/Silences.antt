-- Which act read the last moment; and that a close is decided only when it is made, unless an act shows its cause. An act is
-- one call on the link, with its result. `ReadLast` says that the last act read the moment, unless the moment is out of date.
use Rattle.gc_station.proofs.Common.{◌≡◌, ℕ, ◌⊎◌, inl, inr, ◌&&◌, Bool, true, false, not, List, [], ◌∷◌, ◌++◌, if◌then◌else◌, refl, sym, ap, ◌∙◌, subst, Task, Plan, Cause, Phase, Action, Progress, Act, Told, Gave, Silent, Closed, Shows, EndsRun, EndsAfter, is_up, is_past, is_quiet, turned, cleared, quieted, is_idle, drained, TellsMoment, HasLast, IsAtItsEnd, state_after, Scope, Model, opening, action_at, waiting_of, with_progress, lines_completed, is_heard, Runs}
use Rattle.gc_station.proofs.Closings.{closing_shown, needs_of}
use Rattle.gc_station.proofs.Connected.{is_in_use, paused_alike, HoldsInUse, holds_in_use_always}
use Rattle.gc_station.proofs.InCycle.{Awake}
use Rattle.gc_station.proofs.Walk.{asked_along, came_along, piece_before}
use Rattle.gc_station.specs.declared.cause.Cause.TheVariants as cause
use Rattle.gc_station.specs.declared.progress.Phase.TheVariants as phase
use Rattle.gc_station.specs.declared.progress.Action.TheVariants as actions

-- whether a drain ends (`ends`) or goes on, there is a connection
drained_up : (ends : Bool) (p : Progress) → p.phase ≡ phase.Draining → is_up (if ends then drained p else p).phase ≡ true
drained_up true p is = refl
drained_up false p is = ap is_up is

-- the end of a pause or a drain makes no connection, and closes none
pub quieted_up : (plan : Plan) (at : Phase) (p : Progress) → p.phase ≡ at → is_up (quieted plan at p).phase ≡ is_up at
quieted_up plan phase.Pausing p is = paused_alike is_up (is_past p.exchange.pause p && not (is_idle plan p)) p.phase is refl
quieted_up plan phase.Draining p is = drained_up (is_quiet plan p) p is
quieted_up plan at p is = ap is_up is

-- The act that read the last moment.

-- the last of these acts read this moment
abbrev pub LastTells : ℕ → List Act → Type 0
LastTells now acts = HasLast acts (λ front last. TellsMoment now last)

-- while a connection is drained, and where requests may be sent: the last act read the moment `now`, if the moment read last
-- isn't out of date (`due`)
abbrev ReadLast : (due : Bool) → (now : ℕ) → Phase → List Act → Type 0
ReadLast due now phase.Draining acts = due ≡ false → LastTells now acts
ReadLast due now phase.Ready acts = due ≡ false → LastTells now acts
ReadLast due now at acts = Unit {0}

-- `ReadLast`, by the fields of a progress
abbrev ReadLastAt : Progress → List Act → Type 0
ReadLastAt p acts = ReadLast p.clock_due p.moment.elapsed p.phase acts

-- if no connection is in use, `ReadLast` holds, as it then says nothing
read_last_none : (due : Bool) (now : ℕ) (at : Phase) (acts : List Act) → is_in_use at ≡ false → ReadLast due now at acts
read_last_none due now phase.Draining acts none = cc
read_last_none due now phase.Ready acts none = cc
read_last_none due now at acts none = tt

-- `ReadLast` holds after an act that reads the moment
read_last_told : (due : Bool) (now : ℕ) (at : Phase) (acts : List Act) (act : Act) → TellsMoment now act → ReadLast due now at (acts ++ act ∷ [])
read_last_told due now phase.Draining acts act tells = λ e. (acts, act, refl, tells)
read_last_told due now phase.Ready acts act tells = λ e. (acts, act, refl, tells)
read_last_told due now at acts act tells = tt

-- if the moment read last is out of date, `ReadLast` holds, as it then says nothing
read_last_due : (now : ℕ) (at : Phase) (acts : List Act) → ReadLast true now at acts
read_last_due now phase.Draining acts = λ e. cc
read_last_due now phase.Ready acts = λ e. cc
read_last_due now at acts = tt

module _ (plan : Plan) (commands : List Task) where
  -- `ReadLast` holds after an act of any action that leaves a connection in use (`HoldsInUse`)
  read_last_line : (next : Action) (s : Model) (acts : List Act) → HoldsInUse plan commands ReadLastAt next (with_progress turned s) acts
  read_last_line actions.Open s acts = λ m. tt
  read_last_line actions.Clear s acts = λ m. read_last_due s.progress.moment.elapsed (cleared s.progress).phase _
  read_last_line actions.Ask s acts = λ m. read_last_due s.progress.moment.elapsed s.progress.phase _
  read_last_line actions.Prepare s acts = λ m. read_last_due s.progress.moment.elapsed s.progress.phase _
  read_last_line actions.Send s acts = λ m. read_last_due s.progress.moment.elapsed s.progress.phase _
  read_last_line actions.Flush s acts = λ m. read_last_due s.progress.moment.elapsed s.progress.phase _
  read_last_line (actions.Read until) s acts =
      let at = s.progress.phase in (
        λ bytes m.
            let mid = piece_before m s in
            let here = read_last_told false m.elapsed at acts (Gave bytes m) refl in
            came_along (λ (t : Model). ReadLastAt t.progress (acts ++ Gave bytes m ∷ [])) (λ t line on. on) (is_heard at) s.progress.exchange.word bytes mid here
            (asked_along (λ (q : Progress). ReadLastAt q (acts ++ Gave bytes m ∷ [])) (λ q line on. on) mid.progress (lines_completed s.rest bytes) here) here,
        λ m. (read_last_told false m.elapsed at acts (Silent m) refl, λ draining past. read_last_told false m.elapsed phase.Ready acts (Silent m) refl),
      )
  read_last_line (actions.Close why) s acts = tt
  read_last_line (actions.Stop why) s acts = tt
  read_last_line next s acts = λ m. read_last_told false m.elapsed s.progress.phase acts (Told m) refl

  -- `ReadLast` holds after every run
  read_last_holds : (scope : Scope) (acts : List Act) → Runs plan commands (opening plan scope) acts → ReadLastAt (state_after plan commands scope acts).progress acts
  read_last_holds scope acts runs =
      holds_in_use_always plan commands ReadLastAt (λ p acts none. read_last_none p.clock_due p.moment.elapsed p.phase acts none) scope
      (λ done runs held. let s = state_after plan commands scope done in read_last_line (action_at plan s) s done) tt acts runs

  -- after a run, where requests may be sent and the moment read last isn't out of date (`Awake`), the last act read that moment
  pub awake_last : (scope : Scope) (acts : List Act) → Runs plan commands (opening plan scope) acts → Awake (state_after plan commands scope acts).progress
      → LastTells (state_after plan commands scope acts).progress.moment.elapsed acts
  awake_last scope acts runs awake =
      let p = (state_after plan commands scope acts).progress in
      (subst (λ (x : Phase). ReadLast p.clock_due p.moment.elapsed x acts) awake.1 (read_last_holds scope acts runs)) awake.0

-- A close that no act shows is decided if it is made.

-- if no act can show the cause of a close, the phase hasn't decided that close
pub not_closing : (plan : Plan) (commands : List Task) (scope : Scope) (acts : List Act) (why : Cause) → Runs plan commands (opening plan scope) acts
    → ((act : Act) → Shows why act → ⊥) → (state_after plan commands scope acts).progress.phase ≡ phase.Closing why → ⊥
not_closing plan commands scope acts why runs none is = let shown = closing_shown plan commands scope acts why runs is in none shown.1 shown.3

-- if one of two things holds, and it isn't the first, the second holds
pub second_holds : {A B : Type 0} → A ⊎ B → (A → ⊥) → B
second_holds (inl first) never = absurd (never first)
second_holds (inr second) never = second

-- a close that the phase hasn't decided is made because the run is at its end (`IsAtItsEnd`)
pub closes_at_its_end : (plan : Plan) (s : Model) (why : Cause) → action_at plan s ≡ actions.Close why → (s.progress.phase ≡ phase.Closing why → ⊥)
    → IsAtItsEnd plan s.progress (waiting_of s) why
closes_at_its_end plan s why is never = second_holds (needs_of plan s (actions.Close why) is).1 never

-- if a connection that was closed, or couldn't be made, for the cause `other` ends the run for `why` (`EndsAfter`), and that
-- isn't `Done`, both causes are the same
pub ends_for_same : (plan : Plan) (p : Progress) (n : ℕ) (other why : Cause) → (why ≡ cause.Done → ⊥) → EndsAfter plan p n other why → other ≡ why
ends_for_same plan p n cause.Done why never ends = absurd (never ends.0)
ends_for_same plan p n cause.Clock why never ends = sym ends
ends_for_same plan p n cause.Turns why never ends = sym ends
ends_for_same plan p n cause.Stale why never ends = sym ends
ends_for_same plan p n cause.Stopped why never ends = sym ends
ends_for_same plan p n other why never (inl done) = absurd (never done.0)
ends_for_same plan p n other why never (inr used) = sym used.0

-- an act that ends the run for `why` is a close, which was next for that cause; if `why` is neither `Done` nor `Open`, and the
-- act doesn't show it
pub ended_by_close : (plan : Plan) (s : Model) (why : Cause) (last : Act) → (why ≡ cause.Done → ⊥) → (why ≡ cause.Open → ⊥) → (Shows why last → ⊥)
    → EndsRun plan s why last → (last ≡ Closed) × (action_at plan s ≡ actions.Close why)
ended_by_close plan s why last not_done not_open not_shown (inl failed) = absurd (not_shown failed.1)
ended_by_close plan s why last not_done not_open not_shown (inr (inl (other, is_close, next, ends))) =
    (is_close, next ∙ ap actions.Close (ends_for_same plan s.progress (waiting_of s).commands other why not_done ends))
ended_by_close plan s why last not_done not_open not_shown (inr (inr (unopened, ends))) =
    absurd (not_open (sym (ends_for_same plan s.progress (waiting_of s).commands cause.Open why not_done ends)))
