-- A run over an instrument that isn't the simulator, this project's own: it keeps no reply, and what it measures changes by
-- itself. Its second command asks for a procedure that isn't in the table. The first null procedure is sent again, and the
-- synchronization goes on over another connection; a reply is lost, and its request timed out; the instrument starts again, and
-- its connection is made again.
use Rattle.gc_theorems.specs.Common.{decimal, with_end, reply_text, asked_line, Nothing, Table, Raw, InstrumentNo, RawCall, WINDOW, Task, Fine, Plan, Act, Told, Put, Gave, Silent, Broke, Closed, Opened, Scope}
use Rattle.std.specs.Prelude.{◌≡◌, ℕ, true, false, List, [], ◌∷◌, ◌++◌, codes, map, Some}
use Rattle.gc_theorems.specs.Plain.{plain_record, plain_task}
use Rattle.gc_theorems.specs.World.{Ends, Up_deliver, Down_lose, ends_of}
use Rattle.gc_theorems.specs.Begin.{SyncTurn, Asks, Reaches, left_by_turns, none_under_way}
use Rattle.gc_theorems.specs.Begun.{WasMadeOn}
use Rattle.gc_theorems.specs.Field.{Move, Sends, Tells, Comes, OnLine, Anew, Changes}
use Rattle.gc_theorems.specs.Instrument.{IsAnInstrument, AnyState, never_kept}
use Rattle.gc_theorems.specs.Runs.{IsInField, NoActFollows, Program, program_records}
use Rattle.gc_theorems.specs.Witness.{plan_of_width, scope_saying, null_lines, at, cycle_begun, null_answered, eight_answered, exchanged, replies, run_and_end}
use Rattle.gc_texts.specs.Endings as end
use Rattle.gc_theorems.specs.Begin as turn

-- an instrument that keeps no reply, and answers every request with its state: `text` gives the parameters of the reply in a
-- state, and `new` is the state after a start
abbrev pub tells_its_state : {State : Type 0} → (text : State → List ℕ) → (new : State) → Ends State
tells_its_state {State = State} text new =
    ends_of {State = State} (λ s id call. record { state = s; reply = reply_text (record { rc_com = 0; id = Some id; rc = 0; params = text s }); executed = true }) (λ s. new)

-- the instrument: its state is the number that it measures, with which it answers every request; a start sets it to 0
abbrev pub drifting : Ends ℕ
drifting = tells_its_state {State = ℕ} decimal 0

-- the plan of this run: one request at a time, and three retries
abbrev pub plan : Plan
plan = record (plan_of_width 1) { retries = 3 }

-- the two commands of this run: one asks for the instrument's number, the other for a procedure that isn't in the table
abbrev pub commands : RawCall → List Task
commands raw =
    plain_task 7 (Table InstrumentNo) 100 false
    ∷ plain_task 8 (Raw raw) 100 false
    ∷ []

-- the scope of this run: the parameters of replies aren't read, so each reply says nothing
abbrev pub scope : Scope
scope = scope_saying Nothing

-- the replies to the null procedures: those of the simulator, each with the number 12 behind it
abbrev pub null_replies : List (List ℕ)
null_replies = map (λ line. line ++ codes ",12") replies

-- the reply to the client's null procedure
abbrev pub null_reply : List ℕ
null_reply = codes "%R1P,0,0:0,12"

-- the reply to the second command
abbrev pub answer : List ℕ
answer = codes "%R1P,0,2:0,31"

-- the acts of the run: the first null procedure is sent again at its deadline, and the dead line is closed and connected again;
-- the synchronization goes on there, and the client's null procedure is answered. The first command has timed out; the
-- connection breaks, and the second command's reply comes over the next one
abbrev pub acts : RawCall → List Act
acts raw =
    Opened
    ∷ Put (10 ∷ [])
    ∷ Told (at 0)
    ∷ Put (with_end (codes "%R1Q,0,6:"))
    ∷ Told (at 0)
    ∷ Silent (at 100)
    ∷ Put (with_end (codes "%R1Q,0,6:"))
    ∷ Told (at 100)
    ∷ Silent (at 200)
    ∷ Closed
    ∷ Told (at 200)
    ∷ Silent (at 210)
    ∷ Opened
    ∷ Put (10 ∷ [])
    ∷ Told (at 210)
    ∷ exchanged 215 null_lines null_replies (
    cycle_begun 220 null_reply (
    Put (with_end (codes "%R1Q,5003,1:"))
    ∷ Told (at 220)
    ∷ Silent (at 320)
    ∷ Put (with_end (asked_line (Some 2) (Raw raw)))
    ∷ Told (at 320)
    ∷ Broke
    ∷ Closed
    ∷ Told (at 325)
    ∷ Silent (at 345)
    ∷ Opened
    ∷ Put (10 ∷ [])
    ∷ Told (at 345)
    ∷ Silent (at 355)
    ∷ Gave (with_end answer) (at 360)
    ∷ Closed
    ∷ []
    ))

-- what happens while the station synchronizes: the line loses the first reply to the first null procedure, and that procedure's
-- second request; and the number that the instrument measures becomes 12
abbrev pub turns : List (SyncTurn ℕ)
turns = Asks ∷ Reaches ∷ turn.Down_lose 0 ∷ Asks ∷ turn.Up_lose 0 ∷ turn.Changes 12 ∷ eight_answered

-- what happens once the station has synchronized: the client's null procedure is answered; the first command is answered, and
-- that reply is lost; the second command reaches the instrument after a start, and is answered with what it measures by then,
-- over another connection
abbrev pub moves : RawCall → List (Move ℕ)
moves raw =
    Tells 220
    ∷ null_answered 220 null_reply (
    Sends 7 (Table InstrumentNo) 320
    ∷ Tells 220
    ∷ OnLine Up_deliver
    ∷ OnLine (Down_lose 0)
    ∷ Tells 320
    ∷ Changes 27
    ∷ Sends 8 (Raw raw) 420
    ∷ Tells 320
    ∷ Anew
    ∷ Changes 31
    ∷ OnLine Up_deliver
    ∷ Tells 325
    ∷ Tells 345
    ∷ Tells 345
    ∷ Tells 355
    ∷ Tells 360
    ∷ Comes answer
    ∷ []
    )

-- the run as a program (`run_and_end`)
abbrev pub program : RawCall → Program ℕ
program raw = record { plan = plan; commands = commands raw; scope = scope; acts = acts raw; runs = run_and_end turns (moves raw) }

-- `drifting` is an instrument, and this is a run in the field, after which no act follows. The run recorded the first command
-- as lost, and the second one's answer, which was made on executing the second command's request
pub record IsAnsweredByDrifting (raw : RawCall) : Type 0 where
  pub instrument : IsAnInstrument drifting AnyState never_kept
  pub field : IsInField drifting AnyState never_kept (none_under_way 5) (program raw)
  pub over : NoActFollows (program raw)
  pub records :
      program_records (program raw)
      ≡ plain_record 220 1 360 0 7 (Table InstrumentNo) end.Lost
      ∷ plain_record 320 2 360 1 8 (Raw raw) (end.Answered Fine (Some Nothing) answer)
      ∷ []
  pub made_on : WasMadeOn WINDOW drifting (left_by_turns drifting turns (none_under_way 5)) (moves raw) 10 (Raw raw) answer

-- `IsAnsweredByDrifting` holds whichever procedure the second command asks for
abbrev pub SomeRunIsOverADriftingInstrument : Type 0
SomeRunIsOverADriftingInstrument = (raw : RawCall) → IsAnsweredByDrifting raw
