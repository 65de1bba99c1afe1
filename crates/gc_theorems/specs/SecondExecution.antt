-- A request whose answer was made on its second execution, after a start, this project's own. So between the executions of two
-- commands of a chain either of the two may be executed once more, if the instrument starts between.
use Rattle.gc_theorems.specs.Common.{Table, NullProc, SetPrism, GetPrism, WINDOW, Answered, State, IsFittingState, simulator_opening}
use Rattle.std.specs.Prelude.{◌≡◌, List, [], ◌∷◌, codes, pos, Some, slice_get}
use Rattle.gc_theorems.specs.Simulator.{simulator_ends}
use Rattle.gc_theorems.specs.World.{Up_deliver, Up_repeat, Down_lose}
use Rattle.gc_theorems.specs.Begin.{none_under_way}
use Rattle.gc_theorems.specs.Begun.{wire_over_empty_line, ArePossibleOnceBegun}
use Rattle.gc_theorems.specs.Field.{Move, Sends, Comes, OnLine, Anew}
use Rattle.gc_theorems.specs.Laws.{kept_of}

-- the moves: the line repeats the third request of a client that has synchronized. The instrument executes it, and the reply is
-- lost; the instrument starts; and it executes the repeated request
abbrev pub moves : List (Move State)
moves =
    Sends 0 (Table NullProc) 100
    ∷ OnLine Up_deliver
    ∷ Comes (codes "%R1P,0,0:0")
    ∷ Sends 7 (Table (SetPrism (pos 5))) 100
    ∷ OnLine Up_deliver
    ∷ Comes (codes "%R1P,0,1:0")
    ∷ Sends 7 (Table GetPrism) 100
    ∷ OnLine (Up_repeat 0)
    ∷ OnLine Up_deliver
    ∷ OnLine (Down_lose 0)
    ∷ Anew
    ∷ OnLine Up_deliver
    ∷ Comes (codes "%R1P,0,2:0,0")
    ∷ []

-- these moves are possible after a synchronization that left nothing in flight; the third request is executed twice, and its
-- answer is the second execution's, in the state after the start
pub record IsExecutedAgain : Type 0 where
  pub possible : ArePossibleOnceBegun WINDOW simulator_ends (none_under_way simulator_opening) IsFittingState kept_of moves
  pub executed : (wire_over_empty_line simulator_ends simulator_opening moves).executed ≡ 8 ∷ 9 ∷ 10 ∷ 10 ∷ []
  pub settled :
      slice_get (wire_over_empty_line simulator_ends simulator_opening moves).settled 10
      ≡ Some (record { target = 7; call = Table GetPrism; outcome = Answered (codes "%R1P,0,2:0,0") })
