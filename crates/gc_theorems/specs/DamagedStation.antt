-- A station's run over a line that damages, this project's own, over the simulator: it synchronizes though a null procedure's reply is lost
-- and a damaged line comes in its place; of its two commands the first is answered by a damaged line, and the second by its own reply,
-- though a request that damage made reached the simulator before its request did. So what is said of all such runs is said of some.
use Rattle.gc_theorems.specs.Common.{with_end, Long, Table, InstrumentNo, WINDOW, State, IsFittingState, simulator_opening, Task, Fine, Act, Told, Put, Gave, Closed, is_over, state_after}
use Rattle.std.specs.Prelude.{◌≡◌, ℕ, true, false, List, [], ◌∷◌, ◌++◌, codes, map, pos, Some}
use Rattle.gc_theorems.specs.Plain.{plain_record, plain_task}
use Rattle.gc_theorems.specs.Simulator.{simulator_ends}
use Rattle.gc_theorems.specs.World.{Up_deliver, Down_lose}
use Rattle.gc_theorems.specs.Begin.{UnderWay, none_under_way}
use Rattle.gc_theorems.specs.Field.{Sends, Tells, Comes, OnLine}
use Rattle.gc_theorems.specs.Laws.{kept_of}
use Rattle.gc_theorems.specs.Witness.{plan, scope, at, begun_with, cycle_begun, null_answered, null_reply, replies}
use Rattle.gc_theorems.specs.Harm.{Harm, Does, Damages, Strikes, WasMadeAmid}
use Rattle.gc_theorems.specs.DamagedRuns.{HarmedProgram, IsInHarmedField, WasSettledByDamage, records_of_program}
use Rattle.gc_theorems.specs.Stretches.{HarmedStretch, HasDamageApart, left_by_stretch, once_synchronized}
use Rattle.gc_theorems.specs.DamagedSynchronizing.{SyncHarm}
use Rattle.gc_texts.specs.Endings as end
use Rattle.gc_theorems.specs.Begin as turn
use Rattle.gc_theorems.specs.DamagedSynchronizing as sync

-- nothing is in flight at the start
abbrev pub at_start : UnderWay State
at_start = none_under_way simulator_opening

-- two requests for the instrument's number
abbrev pub commands : List Task
commands = plain_task 7 (Table InstrumentNo) 100 false ∷ plain_task 8 (Table InstrumentNo) 100 false ∷ []

-- the damaged line that comes in place of the reply to the first request: the value in it is another
abbrev pub damaged : List ℕ
damaged = codes "%R1P,0,1:0,999"

-- the reply to the second request
abbrev pub answer : List ℕ
answer = codes "%R1P,0,2:0,123456"

-- the acts of the run: the station synchronizes, and the client's null procedure is answered; then each command is sent, and a line that
-- answers it comes
abbrev pub acts : List Act
acts =
    begun_with replies (
    cycle_begun 15 null_reply (
    Put (with_end (codes "%R1Q,5003,1:"))
    ∷ Told (at 15)
    ∷ Gave (with_end damaged) (at 20)
    ∷ Put (with_end (codes "%R1Q,5003,2:"))
    ∷ Told (at 20)
    ∷ Gave (with_end answer) (at 25)
    ∷ Closed
    ∷ []
    ))

-- what happens while the station synchronizes, until the eighth null procedure's reply comes: the first one's reply is lost, and a damaged line
-- comes in its place; the others are answered by their own replies
abbrev pub until_last : List (SyncHarm State)
until_last =
    sync.Does turn.Asks ∷ sync.Does turn.Reaches ∷ sync.Does (turn.Down_lose 0) ∷ sync.Damages (codes "%R1P,0,6:0")
    ∷ map sync.Does (
    turn.Asks ∷ turn.Reaches ∷ turn.Comes ∷ turn.Asks ∷ turn.Reaches ∷ turn.Comes ∷ turn.Asks ∷ turn.Reaches ∷ turn.Comes
    ∷ turn.Asks ∷ turn.Reaches ∷ turn.Comes ∷ turn.Asks ∷ turn.Reaches ∷ turn.Comes ∷ turn.Asks ∷ turn.Reaches ∷ turn.Comes
    ∷ turn.Asks ∷ turn.Reaches ∷ []
    )

-- what happens while the station synchronizes
abbrev pub turns : List (SyncHarm State)
turns = until_last ++ sync.Does turn.Comes ∷ []

-- what happens after that, until the first command is answered: the client's null procedure is answered; the first command's reply is lost
abbrev pub until_damage : List (Harm State)
until_damage =
    map Does (
    Tells 15 ∷ null_answered 15 null_reply (
    Sends 7 (Table InstrumentNo) 115 ∷ Tells 15 ∷ OnLine Up_deliver ∷ OnLine (Down_lose 0) ∷ Tells 20 ∷ []
    ))

-- what happens from the damaged line on until the second command's request reaches the simulator
abbrev pub until_reached : List (Harm State)
until_reached =
    Damages damaged
    ∷ Does (Sends 8 (Table InstrumentNo) 120)
    ∷ Does (Tells 20)
    ∷ Strikes 3 (Table InstrumentNo)
    ∷ []

-- what happens from then on
abbrev pub until_end : List (Harm State)
until_end = Does (OnLine Up_deliver) ∷ Does (Tells 25) ∷ Does (Comes answer) ∷ []

-- what happens once the station has synchronized
abbrev pub steps : List (Harm State)
steps = until_damage ++ (until_reached ++ until_end)

-- the stretch of the run
abbrev pub stretch : HarmedStretch State
stretch = record { over = at_start; turns = turns; steps = steps }

-- the run as a program, and after its end one more stretch, in which nothing happens
abbrev pub program : HarmedProgram State
program = record {
  plan = plan;
  commands = commands;
  scope = scope;
  acts = acts;
  stretches = stretch ∷ record { over = left_by_stretch simulator_ends stretch; turns = []; steps = [] } ∷ [];
}

-- this is a run over a line that damages, after which no act follows, and damage is apart in its stretch. It
-- recorded an answer to each command: the first by a damaged line, and the second by the line that was made on executing its own request
pub record IsDamagedStation : Type 0 where
  pub field : IsInHarmedField simulator_ends IsFittingState kept_of at_start program
  pub apart : HasDamageApart simulator_ends stretch
  pub over : is_over (state_after plan commands scope acts).progress ≡ true
  pub records :
      records_of_program program
      ≡ plain_record 15 1 20 0 7 (Table InstrumentNo) (end.Answered Fine (Some (Long (pos 123456))) damaged)
      ∷ plain_record 20 2 25 1 8 (Table InstrumentNo) (end.Answered Fine (Some (Long (pos 123456))) answer)
      ∷ []
  pub by_damage : WasSettledByDamage simulator_ends stretch 9 damaged
  pub own : WasMadeAmid WINDOW simulator_ends (once_synchronized simulator_ends stretch) steps 10 (Table InstrumentNo) answer
