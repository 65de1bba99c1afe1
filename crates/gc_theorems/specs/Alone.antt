-- Why the first request is sent alone, this project's own: an instrument that keeps an older reply takes a second request
-- with that reply's id for a repeat of the older request.
use Rattle.gc_theorems.specs.Common.{Table, NullProc, WINDOW, Lost, Answered, kept_line, State, IsFittingState, by_ids, ids_open}
use Rattle.std.specs.Prelude.{◌≡◌, ℕ, List, [], ◌∷◌, Some}
use Rattle.gc_theorems.specs.Simulator.{simulator_ends}
use Rattle.gc_theorems.specs.World.{Up_lose, Up_deliver}
use Rattle.gc_theorems.specs.Field.{Move, Sends, OnLine, Comes, ArePossible}
use Rattle.gc_theorems.specs.Laws.{world_after, kept_of}
use Rattle.gc_theorems.specs.Made.{WasMadeFrom}

-- the moves of a client that sends two requests at once: the first is lost, and the second is answered with the reply `line` that
-- the instrument keeps
abbrev pub two_at_once : List ℕ → List (Move State)
two_at_once line = Sends 1 (Table NullProc) 9 ∷ Sends 2 (Table NullProc) 9 ∷ OnLine (Up_lose 0) ∷ OnLine Up_deliver ∷ Comes line ∷ []

-- from this state on the moves `two_at_once` are possible, and after them the first request is settled as lost, and the kept
-- reply `line` is booked as the second one's answer, though no request was executed: so it wasn't made on executing that request
pub record SecondIsBookedUnexecuted (state : State) (line : List ℕ) : Type 0 where
  pub possible : ArePossible simulator_ends IsFittingState kept_of (by_ids WINDOW simulator_ends) (two_at_once line) (ids_open state)
  pub settled : (world_after WINDOW simulator_ends state (two_at_once line)).wire.settled
      ≡ record { target = 1; call = Table NullProc; outcome = Lost } ∷ record { target = 2; call = Table NullProc; outcome = Answered line } ∷ []
  pub executed : (world_after WINDOW simulator_ends state (two_at_once line)).wire.executed ≡ []
  pub unmade : WasMadeFrom WINDOW simulator_ends (ids_open state) (two_at_once line) 1 (Table NullProc) line → ⊥

-- if the simulator, in a state that fits, keeps a reply with id 1, that reply is booked for the second of two requests that are
-- sent at once, which isn't executed
abbrev pub TwoAtOnceBookAWrongAnswer : Type 0
TwoAtOnceBookAWrongAnswer = (state : State) (line : List ℕ) → IsFittingState state → kept_line state.kept (Some 1) ≡ Some line → SecondIsBookedUnexecuted state line
