-- The moments of a run that returned, and what they are: runs so far; and how a run so far goes on to be one that returns: this project's
-- own.
use Rattle.gc_program_theorems.specs.Common.{IsFront, Act, Closed, with_turns, Snapshot, RanTo, ForEachReadings, Reads, Tally, front_text, text_by}
use Rattle.std.specs.Prelude.{◌≡◌, ◌⊎◌, ℕ, ◌≤◌, List, [], ◌∷◌, ◌++◌, length, Option, Some}
use Rattle.gc_station.specs.declared.cause.Cause.{Cause}
use Rattle.gc_program_theorems.specs.Lasting.{IsRunMoment, RunMoment}
use Rattle.gc_program_theorems.specs.LastingSoFar.{FileRunSoFar, IsFileRunSoFar}
use Rattle.gc_program_theorems.specs.SoFar.{IsRunSoFar, RunSoFar}
use Rattle.gc_program_theorems.specs.Tables.{IsStationRun, StationRun, acts_in, scope_of}

-- what a sink had taken at the first of these turns; `last`, what it had taken in the end, if there is none
abbrev pub taken_next : (last : Option (List ℕ)) → List Snapshot → Option (List ℕ)
taken_next last [] = last
taken_next last (turn ∷ turns) = turn.taken

-- a moment of a run, from its first act on: what was seen at the act that was made last by then (`turn`), and at those before and after it;
-- the acts that were made before that act, and the act; and the bytes that the sink took between that act and the moment
pub record RunMomentSeen : Type 0 where
  pub earlier : List Snapshot
  pub turn : Snapshot
  pub later : List Snapshot
  pub done : List Act
  pub act : Act
  pub had : List ℕ
  pub seen : List ℕ
  pub since : List ℕ

-- this is a moment of a run whose sink had taken the bytes `had` before: the turn is one of the run's, at which its link had recorded the
-- acts `done`, and its sink had taken the bytes `seen`. Then the run's next act was made, and by the moment the sink took `since`. What it had
-- taken at the next turn, or at the end of the run, begins with what it has taken by the moment
pub record IsMomentOf (run : StationRun) (m : RunMomentSeen) : Type 0 where
  pub is_run : IsStationRun run
  pub had : run.old.taken ≡ Some m.had
  pub among : run.new.turns ≡ run.old.turns ++ (m.earlier ++ m.turn ∷ m.later)
  pub done : m.turn.acts ≡ Some m.done
  pub others : List Act
  pub order : acts_in run ≡ (m.done ++ m.act ∷ []) ++ others
  pub seen : m.turn.taken ≡ Some m.seen
  pub next : List ℕ
  pub more : List ℕ
  pub taken : taken_next run.new.taken m.later ≡ Some next
  pub goes_on : next ≡ (m.seen ++ m.since) ++ more

-- the run at this moment
abbrev pub so_far_at : StationRun → RunMomentSeen → RunSoFar
so_far_at run m = record { survey = run.survey; had = m.had; acts = m.done ++ m.act ∷ []; taken = m.seen ++ m.since }

-- each moment of a run that returned, from its first act on, is a run so far (`IsRunSoFar`): where `reads` gives what replies say of their
-- calls
abbrev pub MomentsAreRunsSoFar : Type 0
MomentsAreRunsSoFar = ForEachReadings (λ reads. (run : StationRun) (m : RunMomentSeen) → IsMomentOf run m → IsRunSoFar reads (so_far_at run m))

-- each run that returned, at its end, is a run so far, whose sink had taken the bytes `had` before it, and has taken `taken` then
abbrev pub ReturnedRunsAreRunsSoFar : Type 0
ReturnedRunsAreRunsSoFar = ForEachReadings (λ reads. (run : StationRun) (had taken : List ℕ) → IsStationRun run → run.old.taken ≡ Some had → run.new.taken ≡ Some taken
    → IsRunSoFar reads (record { survey = run.survey; had = had; acts = acts_in run; taken = taken }))

-- a run so far, as one that is given just as many turns as acts were made by then, returns: it makes these acts, and at most a close, and
-- then stops (`RanTo`); and the bytes that its sink takes begin with those that the sink of the run so far has taken
pub record Returns (reads : Reads) (x : RunSoFar) : Type 0 where
  pub last : List Act
  pub at_most_a_close : (last ≡ []) ⊎ (last ≡ Closed ∷ [])
  pub cause : Cause
  pub tally : Tally
  pub taken : List ℕ
  pub ran : RanTo x.survey.plan x.survey.tasks (with_turns (length x.acts) (scope_of x.survey reads)) (text_by x.survey) (Some []) (Some (x.acts ++ last))
      (Some (x.had ++ front_text x.survey.layout x.survey.labels.columns)) (Some taken) cause tally
  pub front : IsFront x.taken taken

-- each run so far, of no more acts than it has turns, is one that returns, if it has no more turns (`Returns`)
abbrev pub RunsSoFarReturn : Type 0
RunsSoFarReturn = ForEachReadings (λ reads. (x : RunSoFar) → IsRunSoFar reads x → length x.acts ≤ x.survey.max_turns → Returns reads x)

-- a moment of a run of a file that returned, as a run of a file so far
abbrev pub file_so_far_at : {R : Type 0} → RunMoment R → FileRunSoFar R
file_so_far_at m = record { survey = m.run.survey; acts = acts_in m.run; done = m.done; was = m.was; calls = m.calls }

-- each moment of a run of a file that returned is a run of a file so far (`IsFileRunSoFar`)
abbrev pub FileMomentsAreRunsSoFar : Type 0 → Type 0
FileMomentsAreRunsSoFar R = ForEachReadings (λ reads. (m : RunMoment R) → IsRunMoment m → IsFileRunSoFar reads (file_so_far_at m))
