-- Stations one after the other: no synchronization finds the word in flight, as long as few runs in a row are killed while they
-- synchronize. The *word* is the list of the ids of a synchronization's null procedures; `IsShortOfTheWord` says that what is in
-- flight doesn't contain a certain front of it, which is one id longer for each run in a row that was killed after an answer.
use Rattle.gc_theorems.proofs.Common.{◌≡◌, ℕ, true, List, [], ◌∷◌, map, map-id, Option, ◌∙◌, arith, map-map, WINDOW, KeptReply, Ends, SyncTurn, UnderWay, Run, killed_over, left_by_runs, Move, Program, IsAnInstrument}
use Rattle.gc_theorems.specs.Begin.{InFlight}
use Rattle.gc_theorems.specs.InARow.{AreFaithful, AreInARow, ProgramsInARowAreFaithful}
use Rattle.gc_theorems.proofs.BegunRuns.{IsShortOfTheWord, after_runs, possible_runs, short_if_rising, short_lacks_the_word}
use Rattle.gc_theorems.proofs.Joining.{run_faithful}

-- lines that are marked as old, without the marks, are the same lines
pub same_lines : {Line : Type 0} (xs : List Line) → map (λ (x : InFlight Line). x.line) (map (λ x. record { old = true; line = x }) xs) ≡ xs
same_lines xs = map-map _ _ xs ∙ map-id xs

-- the run of these turns of its synchronization and of the moves after it
abbrev pub run : {State : Type 0} → List (SyncTurn State) → List (Move State) → Run State
run ts ms = record { turns = ts; moves = ms }

module _ {State : Type 0} (ends : Ends State) (Good : State → Type 0) (kept : State → Option KeptReply) (is : IsAnInstrument ends Good kept) where
  -- where what is in flight before the first of stations one after the other (`AreInARow`) is `IsShortOfTheWord` for the `n` runs
  -- in a row that were killed before, the stations are faithful
  all_faithful : (xs : List (Program State)) (n : ℕ) (u : UnderWay State) → IsShortOfTheWord Good n u → AreInARow ends Good kept n u xs → AreFaithful ends Good kept u xs
  all_faithful [] n u short h = tt
  all_faithful (x ∷ xs) n u short h = (
    run_faithful ends Good kept is u x (record { runs = h.0.runs; lines = short.lines; none = short_lacks_the_word Good n u short; shown = h.0.shown; possible = h.0.possible }),
    all_faithful xs (killed_over WINDOW ends n u x.runs) (left_by_runs WINDOW ends u x.runs)
        (after_runs ends Good kept is WINDOW (omega arith) x.runs n u short (possible_runs WINDOW ends Good kept x.runs u h.0.possible) h.0.few).1 h.1,
  )

  -- where what is in flight before the first of stations one after the other is `IsWellFormed`, and `HasRisingIds` holds of it,
  -- the stations are faithful, as long as few in a row are killed while they synchronize (`AreInARow`)
  pub in_a_row : ProgramsInARowAreFaithful ends Good kept
  in_a_row u lines row xs h = all_faithful xs 0 u (short_if_rising Good u lines row) h
