-- Facts F of a progress and the acts so far that concern a connection in use alone: they hold trivially if there is no
-- connection, and if it is to be closed. So a call that fails keeps them, and so does a close. What each other act has to keep
-- is `HoldsInUse`. An act is one call on the link, with its result.
use Rattle.gc_station.proofs.Common.{◌≡◌, ℕ, ◌&&◌, Bool, true, false, not, List, [], ◌∷◌, ◌++◌, drop, if◌then◌else◌, refl, ap, Table, NullProc, Task, Moment, Plan, Cause, Phase, Action, Progress, Until, Act, Told, Put, Gave, Silent, Opened, is_up, is_past, is_quiet, commands_in, turned, moment_noted, cycle_begun, skipped, attempts_left_out, opened, cleared, request_noted, null_sent, resynchronized, sent, early_noted, time_passed, quieted, is_idle, drained, setup_sent, Model, next_request_text, null_text, first_text, occasion_at, waiting_of, piece_at, with_progress, Performs, moved, cycle_length, text_or_null, opening, action_at, Runs, commands_before, commands_left, upcoming_after, first_upcoming, state_after, Scope}
use Rattle.gc_station.proofs.Always.{always_of_progress}
use Rattle.gc_station.proofs.Turns.{phase_failed, after_failure_down, closed_down}
use Rattle.gc_station.proofs.Walk.{walk}
use Rattle.gc_station.specs.declared.cause.Cause.TheVariants as cause
use Rattle.gc_station.specs.declared.progress.Phase.TheVariants as phase
use Rattle.gc_station.specs.declared.progress.Action.TheVariants as actions

-- whether a phase has a connection that isn't to be closed
abbrev pub is_in_use : Phase → Bool
is_in_use phase.Clearing = true
is_in_use phase.Draining = true
is_in_use phase.Ready = true
is_in_use at = false

-- after a failure no connection is in use
pub failed_unused : (up : Bool) (why : Cause) → is_in_use (phase_failed up why) ≡ false
failed_unused true why = refl
failed_unused false why = refl

-- without a connection none is in use
down_unused : (at : Phase) → is_up at ≡ false → is_in_use at ≡ false
down_unused phase.Clearing down = cc
down_unused phase.Draining down = cc
down_unused phase.Ready down = cc
down_unused at down = refl

-- in a pause, whether it ends (`ends`) or not, a test of phases gives the same as before, if it gives the same of `Down` and
-- `Pausing`
pub paused_alike : (test : Phase → Bool) (ends : Bool) (at : Phase) → at ≡ phase.Pausing → test phase.Down ≡ test phase.Pausing → test (if ends then phase.Down else at) ≡ test phase.Pausing
paused_alike test true at is same = same
paused_alike test false at is same = ap test is

-- What has to hold after an act of an action if no call fails. After a read that gave nothing it is shown for a drain that goes
-- on, and for one that was long enough and ends. All rows take a moment, though not each action reads the clock.

-- the fact F holds after these acts and a read that gave nothing at this moment: of the progress at that moment and, if a drain
-- was long enough, of the progress once the drain ended
abbrev pub HoldsIfSilent : Plan → (F : Progress → List Act → Type 0) → Until → Moment → Progress → List Act → Type 0
HoldsIfSilent plan F until m p acts =
    F (time_passed until m p) (acts ++ Silent m ∷ [])
    × (p.phase ≡ phase.Draining → is_quiet plan (time_passed until m p) ≡ true → F (drained (time_passed until m p)) (acts ++ Silent m ∷ []))

-- the fact F holds after these acts and one more, of this action: of what the act makes of the model's progress, for each
-- outcome that leaves a connection in use
abbrev pub HoldsInUse : Plan → List Task → (F : Progress → List Act → Type 0) → Action → Model → List Act → Type 0
HoldsInUse plan commands F actions.ReadClock s acts = (m : Moment) → F (early_noted plan (commands_in s.marks) (moment_noted m s.progress)) (acts ++ Told m ∷ [])
HoldsInUse plan commands F actions.Renew s acts = (m : Moment) → F (early_noted plan 0 (resynchronized plan m s.progress)) (acts ++ Told m ∷ [])
HoldsInUse plan commands F actions.Begin s acts = (m : Moment) → F (cycle_begun plan (cycle_length plan commands) (first_upcoming plan commands s.progress) m s.progress) (acts ++ Told m ∷ [])
HoldsInUse plan commands F actions.Open s acts = (m : Moment) → F (opened s.progress) (acts ++ Opened ∷ [])
HoldsInUse plan commands F actions.Clear s acts = (m : Moment) → F (cleared s.progress) (acts ++ Put (10 ∷ []) ∷ [])
HoldsInUse plan commands F actions.Ask s acts = (m : Moment) → F (null_sent plan s.progress) (acts ++ Put (null_text s.progress.exchange.word) ∷ [])
HoldsInUse plan commands F actions.Prepare s acts = (m : Moment) → F (setup_sent plan s.progress) (acts ++ Put (text_or_null (occasion_at s.progress.moment) s.client (drop s.progress.prepared commands)) ∷ [])
HoldsInUse plan commands F actions.Send s acts = (m : Moment) → F (sent (upcoming_after plan 1 commands s.progress) s.progress)
    (acts ++ Put (first_text (occasion_at s.progress.moment) s.client (commands_left commands s.progress)) ∷ [])
HoldsInUse plan commands F actions.Skip s acts = (m : Moment)
    → F (early_noted plan (commands_in s.marks) (skipped (upcoming_after plan 1 commands s.progress) m s.progress))
    (acts ++ Told m ∷ [])
HoldsInUse plan commands F actions.Pass s acts =
    (m : Moment) → F (early_noted plan (commands_in s.marks)
    (attempts_left_out (upcoming_after plan s.progress.next_others commands s.progress) m s.progress)) (acts ++ Told m ∷ [])
HoldsInUse plan commands F actions.Flush s acts = (m : Moment) → F (request_noted s.progress) (acts ++ Put (next_request_text s.client (Table NullProc)) ∷ [])
HoldsInUse plan commands F (actions.Read until) s acts =
    ((bytes : List ℕ) (m : Moment) → F (piece_at plan until bytes m s).progress (acts ++ Gave bytes m ∷ []))
    × ((m : Moment) → HoldsIfSilent plan F until m s.progress acts)
HoldsInUse plan commands F (actions.Close why) s acts = Unit {0}
HoldsInUse plan commands F (actions.Stop why) s acts = Unit {0}

module _ (plan : Plan) (commands : List Task) (F : Progress → List Act → Type 0) (unused : (p : Progress) (acts : List Act) → is_in_use p.phase ≡ false → F p acts) where
  -- the fact holds after these acts and one more, of the progress of the model after them
  abbrev pub FactBehind : List Act → Act → Model → Type 0
  FactBehind acts act t = F t.progress (acts ++ act ∷ [])

  -- `HoldsIfSilent` gives the fact after a read that gave nothing, in any phase
  holds_if_silent : (until : Until) (m : Moment) (p : Progress) (at : Phase) (acts : List Act) → p.phase ≡ at → HoldsIfSilent plan F until m p acts
      → F (quieted plan at (time_passed until m p)) (acts ++ Silent m ∷ [])
  holds_if_silent until m p phase.Pausing acts is h =
      unused _ (acts ++ Silent m ∷ []) (paused_alike is_in_use (is_past p.exchange.pause (time_passed until m p) && not (is_idle plan (time_passed until m p))) p.phase is refl)
  holds_if_silent until m p phase.Draining acts is h = by_test (is_quiet plan (time_passed until m p)) refl where
    -- the lemma above for a drain, whether it was long enough (`true`) or not
    by_test : (b : Bool) → is_quiet plan (time_passed until m p) ≡ b → F (if b then drained (time_passed until m p) else time_passed until m p) (acts ++ Silent m ∷ [])
    by_test true past = h.1 is past
    by_test false past = h.0
  holds_if_silent until m p at acts is h = h.0

  -- `HoldsInUse` of an action gives the fact after an act of it: if the act leaves no connection in use, the fact holds anyway
  -- (`unused`)
  pub holds_in_use : (next : Action) (s : Model) (act : Act) (acts : List Act) → Performs commands s next act → HoldsInUse plan commands F next (with_progress turned s) acts
      → FactBehind acts act (moved plan commands next (with_progress turned s) act)
  holds_in_use actions.Open s act acts o h = walk plan commands (FactBehind acts) actions.Open (with_progress turned s) act o
      (h, λ n. unused _ _ (down_unused _ (after_failure_down plan (commands_in s.marks) cause.Open (turned s.progress))))
  holds_in_use actions.Clear s act acts o h = walk plan commands (FactBehind acts) actions.Clear (with_progress turned s) act o
      (h, λ n. unused _ _ (failed_unused (is_up (cleared (turned s.progress)).phase) (cause.Write (commands_before plan commands (turned s.progress)) n)))
  holds_in_use actions.Ask s act acts o h = walk plan commands (FactBehind acts) actions.Ask (with_progress turned s) act o
      (h, λ n. unused _ _ (failed_unused (is_up s.progress.phase) (cause.Write (commands_before plan commands (turned s.progress)) n)))
  holds_in_use (actions.Read until) s act acts o h =
      let up = is_up s.progress.phase in
      walk plan commands (FactBehind acts) (actions.Read until) (with_progress turned s) act o (
        h.0,
        λ m. holds_if_silent until m (turned s.progress) s.progress.phase acts refl (h.1 m),
        unused _ _ (failed_unused up cause.End),
        unused _ _ (failed_unused up cause.Read),
        unused _ _ (failed_unused up cause.Clock),
      )
  holds_in_use (actions.Close why) s act acts o h = unused _ _ (down_unused _ (closed_down plan (waiting_of s) why (turned s.progress)))
  holds_in_use (actions.Stop why) s act acts o h = absurd o
  holds_in_use actions.Prepare s act acts o h = walk plan commands (FactBehind acts) actions.Prepare (with_progress turned s) act o
      (h, λ n. unused _ _ (failed_unused (is_up s.progress.phase) (cause.Write (commands_before plan commands (turned s.progress)) n)))
  holds_in_use actions.Send s act acts o h = walk plan commands (FactBehind acts) actions.Send (with_progress turned s) act o
      (h, λ n. unused _ _ (failed_unused (is_up s.progress.phase) (cause.Write (commands_before plan commands (turned s.progress)) n)))
  holds_in_use actions.Flush s act acts o h = walk plan commands (FactBehind acts) actions.Flush (with_progress turned s) act o
      (h, λ n. unused _ _ (failed_unused (is_up s.progress.phase) (cause.Write (commands_before plan commands (turned s.progress)) n)))
  holds_in_use next s act acts o h = walk plan commands (FactBehind acts) next (with_progress turned s) act o (h, λ n. unused _ _ (failed_unused (is_up s.progress.phase) cause.Clock))

  -- the fact holds after every run, if it holds at the start, and `HoldsInUse` holds of the action that is next after each run
  -- after which the fact holds
  pub holds_in_use_always : (scope : Scope)
      → ((done : List Act) → Runs plan commands (opening plan scope) done → F (state_after plan commands scope done).progress done
      → HoldsInUse plan commands F (action_at plan (state_after plan commands scope done)) (with_progress turned (state_after plan commands scope done)) done)
      → F (opening plan scope).progress [] → (acts : List Act) → Runs plan commands (opening plan scope) acts → F (state_after plan commands scope acts).progress acts
  holds_in_use_always scope row start acts runs =
      always_of_progress plan commands (opening plan scope) F
      (λ done act runs o held. holds_in_use (action_at plan (state_after plan commands scope done)) (state_after plan commands scope done) act done o (row done runs held)) start acts runs
