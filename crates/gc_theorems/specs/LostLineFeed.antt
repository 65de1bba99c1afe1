-- Why the line feed that clears the front of a request has to arrive, this project's own: if it is lost, that front and the next
-- request are one line, whose reply has the id of the request that was cut.
use Rattle.gc_theorems.specs.Common.{lines, with_end, request_at, Table, NullProc, InstrumentNo, WINDOW, Answered, IsReplied, State, IsFittingState, simulator_opening}
use Rattle.std.specs.Prelude.{◌≡◌, ℕ, List, [], ◌∷◌, ◌++◌, take, codes, Some, Ok, slice_get}
use Rattle.gc_theorems.specs.Simulator.{simulator_ends}
use Rattle.gc_theorems.specs.World.{Up_deliver}
use Rattle.gc_theorems.specs.Begin.{none_under_way}
use Rattle.gc_theorems.specs.Begun.{wire_over_empty_line, ArePossibleOnceBegun}
use Rattle.gc_theorems.specs.Field.{Move, Sends, Comes, OnLine, Joins}
use Rattle.gc_theorems.specs.Laws.{kept_of}

-- the reply to a line whose parameters don't read (communication code 3080), with the id of the request that was cut
abbrev pub joint_refusal : List ℕ
joint_refusal = codes "%R1P,3080,1:0"

-- the front of the cut request and the whole next request, as one line
abbrev pub joint_line : List ℕ
joint_line = codes "%R1Q,5003,1:%R1Q,0,2:"

-- the moves before: a client that has synchronized sends a null procedure, which is answered; and then two requests, of which
-- the first is cut
abbrev pub moves_before : List (Move State)
moves_before = Sends 0 (Table NullProc) 9 ∷ OnLine Up_deliver ∷ Comes (codes "%R1P,0,0:0") ∷ Sends 7 (Table InstrumentNo) 9 ∷ Sends 8 (Table NullProc) 9 ∷ []

-- the moves after that: the front of the first request and the second request reach the simulator as one line, whose reply comes
abbrev pub moves_after : List (Move State)
moves_after = Joins joint_refusal ∷ Comes joint_refusal ∷ []

-- the moves before are possible, and the reply to that one line is booked for the request that was cut
pub record IsBookedJoined : Type 0 where
  -- the first twelve bytes of the one request and the whole of the other are one line, and a request with the id of the first
  pub line : lines (take 12 (with_end (codes "%R1Q,5003,1:")) ++ with_end (codes "%R1Q,0,2:")) ≡ joint_line ∷ []
  pub reads : request_at joint_line ≡ Ok (record { rpc = 5003; id = Some 1; params = codes "%R1Q,0,2:" })
  pub possible : ArePossibleOnceBegun WINDOW simulator_ends (none_under_way simulator_opening) IsFittingState kept_of moves_before
  -- the simulator, as it is by then, answers that line with this refusal, and nothing changes
  pub replied :
      IsReplied (wire_over_empty_line simulator_ends simulator_opening moves_before).state joint_line (wire_over_empty_line simulator_ends simulator_opening moves_before).state (Some joint_refusal)
  -- the reply is booked for the request that was cut, which wasn't executed
  pub settled :
      slice_get (wire_over_empty_line simulator_ends simulator_opening (moves_before ++ moves_after)).settled 9
      ≡ Some (record { target = 7; call = Table InstrumentNo; outcome = Answered joint_refusal })
  pub executed : (wire_over_empty_line simulator_ends simulator_opening (moves_before ++ moves_after)).executed ≡ 8 ∷ []
