-- There is a run in the field, this project's own: the station synchronizes over a line with an older request and an older
-- reply in flight: eight null procedures are answered, and then that of the client. A command is asked and answered. So what is
-- said of all such runs is said of some.
use Rattle.gc_theorems.specs.Common.{with_end, Answer, Long, Table, InstrumentNo, NullProc, WINDOW, State, IsFittingState, simulator_opening, Task, Fine, Plan, Act, Told, Put, Gave, Closed, Opened, Scope, scoped}
use Rattle.std.specs.Prelude.{◌≡◌, ℕ, ◌+◌, false, List, [], ◌∷◌, codes, drop, pos, Some, None}
use Rattle.gc_catalogue.specs.declared.answer.Reading.TheVariants.{Value}
use Rattle.gc_theorems.specs.Plain.{plain_record, plain_task}
use Rattle.gc_theorems.specs.Simulator.{simulator_ends}
use Rattle.gc_theorems.specs.World.{Up_deliver}
use Rattle.gc_theorems.specs.Begin.{SyncTurn, Asks, Reaches, UnderWay, left_by_turns}
use Rattle.gc_theorems.specs.Beginnings.{Run}
use Rattle.gc_theorems.specs.Begun.{WasMadeOn}
use Rattle.gc_theorems.specs.Field.{Move, Sends, Tells, Comes, OnLine}
use Rattle.gc_theorems.specs.Laws.{kept_of}
use Rattle.gc_theorems.specs.Runs.{IsInField, NoActFollows, Program, program_records}
use Rattle.gc_texts.specs.Endings as end
pub use Rattle.gc_station.specs.BoundRuns.{at, null_lines, null_replies as replies}
use Rattle.gc_theorems.specs.Begin as turn

-- a plan with requests in flight up to this width, deadlines of 100 ms, one cycle, a quiet time of 10 ms, and one retry
abbrev pub plan_of_width : ℕ → Plan
plan_of_width width = record { width = width; deadline = 100; every = 0; first = 1000; at = None; cycles = 1; quiet = 10; retries = 1; setup = 0; stale = 0; watched = false }

-- the plan of this run: one request at a time
abbrev pub plan : Plan
plan = plan_of_width 1

-- the command: a request for the instrument's number
abbrev pub commands : List Task
commands = plain_task 7 (Table InstrumentNo) 100 false ∷ []

-- a scope of at most a hundred acts, in which nothing is watched, and every reply is taken to say this
abbrev pub scope_saying : Answer → Scope
scope_saying said = scoped 100 [] (λ form call line. Value said)

-- the scope of this run: every reply is taken to say what the reply to the command says
abbrev pub scope : Scope
scope = scope_saying (Long (pos 123456))

-- the acts by which each of these lines is sent at the moment `now`, and its reply, the next of the second list, comes, until
-- either list ends; and then `acts`
abbrev pub exchanged : ℕ → (requests answers : List (List ℕ)) → List Act → List Act
exchanged now (line ∷ others) (reply ∷ later) acts = Put (with_end line) ∷ Told (at now) ∷ Gave (with_end reply) (at now) ∷ exchanged now others later acts
exchanged now _ _ acts = acts

-- the acts of a synchronization, and then `acts`: a connection is made and cleared, and the eight null procedures are answered at
-- once, with the replies `answers`
abbrev pub begun_with : List (List ℕ) → List Act → List Act
begun_with answers acts = Opened ∷ Put (10 ∷ []) ∷ Told (at 0) ∷ exchanged 10 null_lines answers acts

-- the acts by which the client's null procedure is sent at the moment `now`, and its reply comes at once; and then `acts`
abbrev pub null_exchanged : ℕ → (reply : List ℕ) → List Act → List Act
null_exchanged now reply acts = exchanged now (codes "%R1Q,0,0:" ∷ []) (reply ∷ []) acts

-- the acts by which the first cycle begins at the moment `now`, and the client's null procedure is answered; and then `acts`
abbrev pub cycle_begun : ℕ → (reply : List ℕ) → List Act → List Act
cycle_begun now reply acts = Told (at now) ∷ null_exchanged now reply acts

-- the simulator's reply to the client's null procedure
abbrev pub null_reply : List ℕ
null_reply = codes "%R1P,0,0:0"

-- the moves by which the client's null procedure, whose deadline is 100 ms after the moment `now`, reaches the instrument, and
-- its reply comes; and then the moves `ms`
abbrev pub null_answered : {S : Type 0} → (now : ℕ) → (reply : List ℕ) → List (Move S) → List (Move S)
null_answered now reply ms = Sends 0 (Table NullProc) (now + 100) ∷ Tells now ∷ OnLine Up_deliver ∷ Tells now ∷ Comes reply ∷ ms

-- what happens in a synchronization: each null procedure reaches the instrument, and its reply comes
abbrev pub eight_answered : {S : Type 0} → List (SyncTurn S)
eight_answered =
    Asks ∷ Reaches ∷ turn.Comes ∷ Asks ∷ Reaches ∷ turn.Comes ∷ Asks ∷ Reaches ∷ turn.Comes ∷ Asks ∷ Reaches ∷ turn.Comes
    ∷ Asks ∷ Reaches ∷ turn.Comes ∷ Asks ∷ Reaches ∷ turn.Comes ∷ Asks ∷ Reaches ∷ turn.Comes ∷ Asks ∷ Reaches ∷ turn.Comes ∷ []

-- a run with these turns and moves, and after its end one more, in which nothing happens
abbrev pub run_and_end : {S : Type 0} → List (SyncTurn S) → List (Move S) → List (Run S)
run_and_end turns moves = record { turns = turns; moves = moves } ∷ record { turns = []; moves = [] } ∷ []

-- in flight at the start: a reply with id 1, and a request with that id, which the first command will have too
abbrev pub at_start : UnderWay State
at_start = record { up = record { id = 1; call = Table InstrumentNo } ∷ []; down = codes "%R1P,0,1:0,654321" ∷ []; state = simulator_opening }

-- the reply to the command; the one to the request from before has the same bytes
abbrev pub answer : List ℕ
answer = codes "%R1P,0,1:0,123456"

-- the acts of the run: a connection is made and cleared; the first null procedure is sent, and both old replies come, which are
-- discarded; all eight are answered, and then that of the client; the command is sent and is answered, and the connection is
-- closed
abbrev pub acts : List Act
acts =
    Opened
    ∷ Put (10 ∷ [])
    ∷ Told (at 0)
    ∷ Put (with_end (codes "%R1Q,0,6:"))
    ∷ Told (at 0)
    ∷ Gave (with_end (codes "%R1P,0,1:0,654321")) (at 5)
    ∷ Gave (with_end answer) (at 5)
    ∷ Gave (with_end (codes "%R1P,0,6:0")) (at 10)
    ∷ exchanged 10 (drop 1 null_lines) (drop 1 replies) (
    cycle_begun 15 null_reply (
    Put (with_end (codes "%R1Q,5003,1:"))
    ∷ Told (at 15)
    ∷ Gave (with_end answer) (at 20)
    ∷ Closed
    ∷ []
    ))

-- what happens while the station synchronizes: each request reaches the simulator, the old one first, and each reply
-- comes
abbrev pub turns : List (SyncTurn State)
turns = Asks ∷ turn.Comes ∷ Reaches ∷ turn.Comes ∷ Reaches ∷ turn.Comes ∷ drop 3 eight_answered

-- what happens once the station has synchronized: the client's null procedure is answered, the command reaches the simulator,
-- and its reply comes
abbrev pub moves : List (Move State)
moves = Tells 15 ∷ null_answered 15 null_reply (Sends 7 (Table InstrumentNo) 115 ∷ Tells 15 ∷ OnLine Up_deliver ∷ Tells 20 ∷ Comes answer ∷ [])

-- the run as a program (`run_and_end`)
abbrev pub program : Program State
program = record { plan = plan; commands = commands; scope = scope; acts = acts; runs = run_and_end turns moves }

-- this is a run in the field, after which no act follows; it recorded the command's answer, which was made on executing the
-- command's request
pub record SomeRunIsInField : Type 0 where
  pub field : IsInField simulator_ends IsFittingState kept_of at_start program
  pub over : NoActFollows program
  pub records : program_records program ≡ plain_record 15 1 20 0 7 (Table InstrumentNo) (end.Answered Fine (Some (Long (pos 123456))) answer) ∷ []
  pub made_on : WasMadeOn WINDOW simulator_ends (left_by_turns simulator_ends turns at_start) moves 9 (Table InstrumentNo) answer
