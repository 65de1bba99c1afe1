-- Some run in the field has a late record, this project's own: a command has timed out, and its reply comes after that.
use Rattle.gc_theorems.specs.Common.{with_end, Long, Table, InstrumentNo, WINDOW, State, IsFittingState, Task, Fine, Act, Told, Put, Gave, Silent, Closed}
use Rattle.std.specs.Prelude.{◌≡◌, ℕ, false, List, [], ◌∷◌, codes, pos, Some}
use Rattle.gc_theorems.specs.Plain.{plain_record, plain_task}
use Rattle.gc_theorems.specs.Simulator.{simulator_ends}
use Rattle.gc_theorems.specs.World.{Up_deliver}
use Rattle.gc_theorems.specs.Begin.{UnderWay, left_by_turns}
use Rattle.gc_theorems.specs.Begun.{WasMadeOn}
use Rattle.gc_theorems.specs.ChainWitness.{at_start}
use Rattle.gc_theorems.specs.Field.{Move, Sends, Tells, Comes, OnLine}
use Rattle.gc_theorems.specs.Laws.{kept_of}
use Rattle.gc_theorems.specs.Runs.{IsInField, NoActFollows, Program, program_records}
use Rattle.gc_theorems.specs.Witness.{plan, scope, at, begun_with, cycle_begun, null_answered, null_reply, eight_answered, replies, run_and_end}
use Rattle.gc_texts.specs.Endings as end
use Rattle.gc_theorems.specs.Witness as one

-- two requests for the instrument's number
abbrev pub commands : List Task
commands =
    plain_task 7 (Table InstrumentNo) 100 false
    ∷ plain_task 8 (Table InstrumentNo) 100 false
    ∷ []

-- the reply to the first request, which comes too late: it has the bytes of the answer in the run of one command
abbrev pub late : List ℕ
late = one.answer

-- the reply to the second request
abbrev pub answer : List ℕ
answer = codes "%R1P,0,2:0,123456"

-- the acts of the run: the station synchronizes, and its client's null procedure is answered; the first command is sent, and
-- nothing comes until its deadline; the second one is sent, and then both replies come
abbrev pub acts : List Act
acts =
    begun_with replies (
    cycle_begun 15 null_reply (
    Put (with_end (codes "%R1Q,5003,1:"))
    ∷ Told (at 15)
    ∷ Silent (at 115)
    ∷ Put (with_end (codes "%R1Q,5003,2:"))
    ∷ Told (at 115)
    ∷ Gave (with_end late) (at 120)
    ∷ Gave (with_end answer) (at 125)
    ∷ Closed
    ∷ []
    ))

-- what happens meanwhile: each request reaches the simulator, and each reply comes, that of the first command after its
-- deadline
abbrev pub moves : List (Move State)
moves =
    Tells 15
    ∷ null_answered 15 null_reply (
    Sends 7 (Table InstrumentNo) 115
    ∷ Tells 15
    ∷ OnLine Up_deliver
    ∷ Tells 115
    ∷ Sends 8 (Table InstrumentNo) 215
    ∷ Tells 115
    ∷ Tells 120
    ∷ Comes late
    ∷ OnLine Up_deliver
    ∷ Tells 125
    ∷ Comes answer
    ∷ []
    )

-- the run as a program (`run_and_end`)
abbrev pub program : Program State
program = record { plan = plan; commands = commands; scope = scope; acts = acts; runs = run_and_end eight_answered moves }

-- what is in flight once the run has synchronized
abbrev pub from : UnderWay State
from = left_by_turns simulator_ends eight_answered at_start

-- this is a run in the field over a line with nothing in flight, after which no act follows. It recorded the first command as
-- late, and the second one's answer; and each of these lines was made on executing its own request
pub record IsLateInField : Type 0 where
  pub field : IsInField simulator_ends IsFittingState kept_of at_start program
  pub over : NoActFollows program
  pub records :
      program_records program
      ≡ plain_record 15 1 120 0 7 (Table InstrumentNo) end.Late
      ∷ plain_record 115 2 125 1 8 (Table InstrumentNo) (end.Answered Fine (Some (Long (pos 123456))) answer)
      ∷ []
  pub late_made_on : WasMadeOn WINDOW simulator_ends from moves 9 (Table InstrumentNo) late
  pub answer_made_on : WasMadeOn WINDOW simulator_ends from moves 10 (Table InstrumentNo) answer
