-- Some run resynchronizes within itself, this project's own. Six commands are sent at once, and have timed out. The reply to the
-- first is in flight then, and the sixth request: both come while the station synchronizes again, on the same connection. The
-- seventh command is sent after that, with the first one's id, and has the answer that was made for it.
use Rattle.gc_theorems.specs.Common.{with_end, Long, Table, InstrumentNo, WINDOW, Task, Fine, Plan, Act, Told, Put, Gave, Silent, Closed, SynchronizesAnew, Record, Scope}
use Rattle.std.specs.Prelude.{◌≡◌, ℕ, false, List, [], ◌∷◌, ◌++◌, codes, drop, map, pos, Some}
use Rattle.gc_theorems.specs.Plain.{plain_record, plain_task}
use Rattle.gc_theorems.specs.World.{Up_deliver, Up_lose}
use Rattle.gc_theorems.specs.Begin.{SyncTurn, Asks, Reaches, UnderWay, left_by_turns}
use Rattle.gc_theorems.specs.Beginnings.{Run, left_by_run}
use Rattle.gc_theorems.specs.Begun.{WasMadeOn}
use Rattle.gc_theorems.specs.CountingChain.{Counter, at_start, null_replies, null_reply, counting, first_reply, kept_by}
use Rattle.gc_theorems.specs.Field.{Move, Sends, Tells, Comes, OnLine}
use Rattle.gc_theorems.specs.Instrument.{IsAnInstrument, AnyState}
use Rattle.gc_theorems.specs.Runs.{IsInField, NoActFollows, Program, program_records}
use Rattle.gc_theorems.specs.Witness.{null_lines, at, begun_with, cycle_begun, null_answered, null_exchanged, eight_answered, exchanged, plan_of_width, run_and_end, scope_saying}
use Rattle.gc_texts.specs.Endings as end
use Rattle.gc_theorems.specs.Begin as turn

-- the plan of this run: seven requests at a time, of which the station holds the seventh back
abbrev pub plan : Plan
plan = plan_of_width 7

-- the seven commands of this run, with a deadline of 100 ms each
abbrev pub commands : List Task
commands = map (λ target. plain_task target (Table InstrumentNo) 100 false) (1 ∷ 2 ∷ 3 ∷ 4 ∷ 5 ∷ 6 ∷ 7 ∷ [])

-- the scope of this run: every reply is taken to say what the reply to the last command says
abbrev pub scope : Scope
scope = scope_saying (Long (pos 47))

-- the lines of the six commands' requests, which are sent at once
abbrev pub six_lines : List (List ℕ)
six_lines =
    codes "%R1Q,5003,1:" ∷ codes "%R1Q,5003,2:" ∷ codes "%R1Q,5003,3:" ∷ codes "%R1Q,5003,4:" ∷ codes "%R1Q,5003,5:" ∷ codes "%R1Q,5003,6:" ∷ []

-- the reply to the sixth of the six
abbrev pub sixth_reply : List ℕ
sixth_reply = codes "%R1P,0,6:0,38"

-- the replies to the null procedures of the second synchronization after the first. The first null procedure has the sixth
-- request's id, so the reply to that request answers it, and is all that the instrument sends for it
abbrev pub later_replies : List (List ℕ)
later_replies =
    codes "%R1P,0,5:0,39" ∷ codes "%R1P,0,4:0,40" ∷ codes "%R1P,0,3:0,41" ∷ codes "%R1P,0,2:0,42" ∷ codes "%R1P,0,1:0,43" ∷ codes "%R1P,0,0:0,44"
    ∷ codes "%R1P,0,7:0,45" ∷ []

-- the reply to the null procedure of the new client
abbrev pub new_null_reply : List ℕ
new_null_reply = codes "%R1P,0,0:0,46"

-- the reply to the last command
abbrev pub answer : List ℕ
answer = codes "%R1P,0,1:0,47"

-- the acts by which each of these lines is sent at the moment `now`; and then `acts`
abbrev pub put_all : ℕ → List (List ℕ) → List Act → List Act
put_all now [] acts = acts
put_all now (line ∷ others) acts = Put (with_end line) ∷ Told (at now) ∷ put_all now others acts

-- the acts by which the client's null procedure is answered, and six commands are sent, and time out: nothing comes until their
-- deadline
abbrev pub six_unanswered : List Act
six_unanswered = cycle_begun 15 null_reply (put_all 15 six_lines (Silent (at 115) ∷ []))

-- the acts until six have timed out: the station synchronizes, and then sends its client's null procedure, and the six
abbrev pub acts_until_anew : List Act
acts_until_anew = begun_with null_replies six_unanswered

-- the acts from there on: the station resynchronizes, and its first null procedure is sent. The reply to the first command
-- comes, and is discarded; the reply to the sixth comes twice, and the second is discarded; the other null procedures are
-- answered, and then that of the new client. The seventh command is sent and is answered, and the connection is closed
abbrev pub acts_anew : List Act
acts_anew =
    Told (at 115)
    ∷ Put (with_end (codes "%R1Q,0,6:"))
    ∷ Told (at 115)
    ∷ Gave (with_end first_reply) (at 118)
    ∷ Gave (with_end sixth_reply) (at 118)
    ∷ Put (with_end (codes "%R1Q,0,5:"))
    ∷ Told (at 118)
    ∷ Gave (with_end sixth_reply) (at 120)
    ∷ Gave (with_end (codes "%R1P,0,5:0,39")) (at 120)
    ∷ exchanged 120 (drop 2 null_lines) (drop 1 later_replies) (
    null_exchanged 120 new_null_reply (
    Put (with_end (codes "%R1Q,5003,1:"))
    ∷ Told (at 120)
    ∷ Gave (with_end answer) (at 125)
    ∷ Closed
    ∷ []
    ))

-- all acts of the run
abbrev pub acts : List Act
acts = acts_until_anew ++ acts_anew

-- the moves by which a request for the instrument's number is sent for each of these targets, at the moment `now` and with this
-- deadline; and then the moves `ms`
abbrev pub send_all : {S : Type 0} → (now deadline : ℕ) → List ℕ → List (Move S) → List (Move S)
send_all now deadline [] ms = ms
send_all now deadline (target ∷ others) ms = Sends target (Table InstrumentNo) deadline ∷ Tells now ∷ send_all now deadline others ms

-- what happens meanwhile: the client's null procedure is answered; the first of the six reaches the instrument, the four after it
-- are lost, and the last stays in flight
abbrev pub moves : List (Move Counter)
moves =
    Tells 15
    ∷ null_answered 15 null_reply (
    send_all 15 115 (1 ∷ 2 ∷ 3 ∷ 4 ∷ 5 ∷ 6 ∷ []) (
    OnLine Up_deliver
    ∷ OnLine (Up_lose 0)
    ∷ OnLine (Up_lose 0)
    ∷ OnLine (Up_lose 0)
    ∷ OnLine (Up_lose 0)
    ∷ Tells 115
    ∷ Tells 115
    ∷ []
    ))

-- what happens while the station resynchronizes: the reply to the first command comes, and the sixth request reaches the
-- instrument, whose reply is sent again for the first null procedure, which has that request's id; the other null procedures are
-- answered
abbrev pub turns : List (SyncTurn Counter)
turns = Asks ∷ turn.Comes ∷ Reaches ∷ turn.Comes ∷ Asks ∷ Reaches ∷ turn.Comes ∷ Reaches ∷ turn.Comes ∷ drop 6 eight_answered

-- what happens once the station has resynchronized: the new client's null procedure is answered, and the seventh command
abbrev pub moves_anew : List (Move Counter)
moves_anew = null_answered 120 new_null_reply (Sends 7 (Table InstrumentNo) 220 ∷ Tells 120 ∷ OnLine Up_deliver ∷ Tells 125 ∷ Comes answer ∷ [])

-- what happens until the run resynchronizes
abbrev pub first_run : Run Counter
first_run = record { turns = eight_answered; moves = moves }

-- the run as a program: until it resynchronizes, and from there on; after its end is one more run on the line, in which nothing
-- happens
abbrev pub program : Program Counter
program = record { plan = plan; commands = commands; scope = scope; acts = acts; runs = first_run ∷ run_and_end turns moves_anew }

-- what is in flight when the run resynchronizes
abbrev pub left_by_first : UnderWay Counter
left_by_first = left_by_run WINDOW counting at_start first_run

-- what is in flight once the run has synchronized again
abbrev pub from : UnderWay Counter
from = left_by_turns counting turns left_by_first

-- the record of a lost command, at this place and for this target, whose request had the target's number as its id
abbrev pub lost_record : (place target : ℕ) → Record
lost_record place target = plain_record 15 target 115 place target (Table InstrumentNo) end.Lost

-- the records of the run: the first six commands are lost, and the seventh has its answer
abbrev pub records : List Record
records =
    lost_record 0 1
    ∷ lost_record 1 2
    ∷ lost_record 2 3
    ∷ lost_record 3 4
    ∷ lost_record 4 5
    ∷ lost_record 5 6
    ∷ plain_record 120 1 125 6 7 (Table InstrumentNo) (end.Answered Fine (Some (Long (pos 47))) answer)
    ∷ []

-- this is a run in the field, over an instrument, after which no act follows. It resynchronizes where six have timed out. Two
-- old lines are in flight then, of which the reply has the last command's id; and that command's answer was made on executing
-- its request
pub record IsAnsweredAnew : Type 0 where
  pub instrument : IsAnInstrument counting AnyState kept_by
  pub field : IsInField counting AnyState kept_by at_start program
  pub over : NoActFollows program
  pub begins_anew : SynchronizesAnew plan commands scope acts_until_anew (Told (at 115))
  pub up : left_by_first.up ≡ record { id = 6; call = Table InstrumentNo } ∷ []
  pub down : left_by_first.down ≡ first_reply ∷ []
  pub written : program_records program ≡ records
  pub made_on : WasMadeOn WINDOW counting from moves_anew 9 (Table InstrumentNo) answer
