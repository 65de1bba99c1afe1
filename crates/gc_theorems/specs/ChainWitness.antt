-- Some run of a chain is one in the field, this project's own: it points the telescope at a target, measures the distance, and
-- reads angles and distance there.
use Rattle.gc_theorems.specs.Common.{with_end, Decimal, Long, Asked, Table, Position, DoMeasure, SimpleMea, State, IsFittingState, simulator_opening, Task, Fine, Act, Told, Put, Gave, Closed, AreChained, Record, Scope}
use Rattle.std.specs.Prelude.{◌≡◌, ℕ, true, false, List, [], ◌∷◌, take, codes, pos, Some, refl}
use Rattle.gc_values.specs.Prelude.{decimal}
use Rattle.gc_theorems.specs.Plain.{plain_record, plain_task}
use Rattle.gc_theorems.specs.Simulator.{simulator_ends}
use Rattle.gc_theorems.specs.World.{Up_deliver}
use Rattle.gc_theorems.specs.Begin.{UnderWay, left_by_turns, none_under_way}
use Rattle.gc_theorems.specs.Chains.{IsUndisturbed, stretch_wire}
use Rattle.gc_theorems.specs.Field.{Move, Sends, Tells, Comes, OnLine}
use Rattle.gc_theorems.specs.Laws.{kept_of}
use Rattle.gc_theorems.specs.Pointing.{AreStill}
use Rattle.gc_theorems.specs.Runs.{IsInField, Program, program_records}
use Rattle.gc_theorems.specs.Shown.{Stretch}
use Rattle.gc_theorems.specs.Witness.{plan, scope_saying, at, begun_with, cycle_begun, null_answered, null_reply, eight_answered, replies, run_and_end}
use Rattle.gc_texts.specs.Endings as end

-- the horizontal direction of a target, in radians
abbrev pub hz : Decimal
hz = decimal (pos 225) 2 refl

-- the vertical angle of the target, in radians
abbrev pub v : Decimal
v = decimal (pos 1625) 3 refl

-- the call of the first command: to point the telescope at the target
abbrev pub points : Asked
points = Table (Position hz v (pos 0) (pos 0) false)

-- the call of the second command, which starts a measurement of the distance; the simulator takes any mode
abbrev pub measures : Asked
measures = Table (DoMeasure (pos 1) (pos 1))

-- the call of the third command: to read angles and distance
abbrev pub reads_all : Asked
reads_all = Table (SimpleMea (pos 3000) (pos 1))

-- the three commands, as one chain
abbrev pub commands : List Task
commands =
    plain_task 7 points 100 false
    ∷ plain_task 7 measures 100 true
    ∷ plain_task 7 reads_all 100 true
    ∷ []

-- the scope of this run: every reply is taken to say the number 0, whatever it says
abbrev pub scope : Scope
scope = scope_saying (Long (pos 0))

-- the simulator's reply to the first command
abbrev pub first_reply : List ℕ
first_reply = codes "%R1P,0,1:0"

-- the simulator's reply to the second command
abbrev pub second_reply : List ℕ
second_reply = codes "%R1P,0,2:0"

-- the simulator's reply to the third command
abbrev pub third_reply : List ℕ
third_reply = codes "%R1P,0,3:0,2.25,1.625,110.0625"

-- the acts of the run: the station synchronizes, with `answers` as the replies to its null procedures, and `own` as that to the
-- client's; then the three commands are sent one after the other, each once the one before it is answered, with the replies a, b
-- and c; and the connection is closed
abbrev pub acts_with : List (List ℕ) → (own a b c : List ℕ) → List Act
acts_with answers own a b c =
    begun_with answers (
    cycle_begun 15 own (
    Put (with_end (codes "%R1Q,9027,1:2.25,1.625,0,0,0"))
    ∷ Told (at 15)
    ∷ Gave (with_end a) (at 20)
    ∷ Put (with_end (codes "%R1Q,2008,2:1,1"))
    ∷ Told (at 20)
    ∷ Gave (with_end b) (at 25)
    ∷ Put (with_end (codes "%R1Q,2108,3:3000,1"))
    ∷ Told (at 25)
    ∷ Gave (with_end c) (at 30)
    ∷ Closed
    ∷ []
    ))

-- what happens once the station has synchronized: the client's null procedure is answered with the reply `own`; each of the
-- three commands' requests reaches the instrument, and its reply (a, b, c) comes
abbrev pub moves_with : {S : Type 0} → (own a b c : List ℕ) → List (Move S)
moves_with own a b c =
    Tells 15
    ∷ null_answered 15 own (
    Sends 7 points 115
    ∷ Tells 15
    ∷ OnLine Up_deliver
    ∷ Tells 20
    ∷ Comes a
    ∷ Sends 7 measures 120
    ∷ Tells 20
    ∷ OnLine Up_deliver
    ∷ Tells 25
    ∷ Comes b
    ∷ Sends 7 reads_all 125
    ∷ Tells 25
    ∷ OnLine Up_deliver
    ∷ Tells 30
    ∷ Comes c
    ∷ []
    )

-- the moves of the run before the first command's request reaches the instrument
abbrev pub until_first : {S : Type 0} → List (Move S) → List (Move S)
until_first ms = take 8 ms

-- the moves of the run before the third command's request reaches the instrument
abbrev pub until_third : {S : Type 0} → List (Move S) → List (Move S)
until_third ms = take 18 ms

-- the records of the run, in which the three commands are answered by the lines a, b and c
abbrev pub records_with : (a b c : List ℕ) → List Record
records_with a b c =
    plain_record 15 1 20 0 7 points (end.Answered Fine (Some (Long (pos 0))) a)
    ∷ plain_record 20 2 25 1 7 measures (end.Answered Fine (Some (Long (pos 0))) b)
    ∷ plain_record 25 3 30 2 7 reads_all (end.Answered Fine (Some (Long (pos 0))) c)
    ∷ []

-- the acts of the run over the simulator
abbrev pub acts : List Act
acts = acts_with replies null_reply first_reply second_reply third_reply

-- what happens meanwhile, once the run has synchronized
abbrev pub moves : List (Move State)
moves = moves_with null_reply first_reply second_reply third_reply

-- at the start of the run nothing is in flight
abbrev pub at_start : UnderWay State
at_start = none_under_way simulator_opening

-- the run as one stretch
abbrev pub stretch : Stretch State
stretch = record { from = left_by_turns simulator_ends eight_answered at_start; moves = moves }

-- the run as a program (`run_and_end`)
abbrev pub program : Program State
program = record { plan = plan; commands = commands; scope = scope; acts = acts; runs = run_and_end eight_answered moves }

-- this is a run in the field that recorded all three answers; the third command is of the first one's chain, no command between
-- the two turns the telescope, and nothing disturbs the instrument. So when the third is executed, after the client's null
-- procedure and both others, the telescope points where the first pointed it
pub record IsPointedInField : Type 0 where
  pub field : IsInField simulator_ends IsFittingState kept_of at_start program
  pub records : program_records program ≡ records_with first_reply second_reply third_reply
  pub chained : AreChained commands 0 2
  pub still : AreStill commands 0 2
  pub undisturbed : IsUndisturbed moves
  pub executed : (stretch_wire simulator_ends stretch (until_third moves)).executed ≡ 8 ∷ 9 ∷ 10 ∷ []
  pub pointing : (stretch_wire simulator_ends stretch (until_third moves)).state.pointing ≡ record { hz = hz; v = v }
