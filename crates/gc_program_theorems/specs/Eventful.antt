-- An eventful run, this project's own. Each kind of act of a link comes in it, but for a clock that can't be read, which ends a
-- run; each kind of turn and of move, but for a lost line feed that joins two requests; and each of the seven ways in which a
-- command may end. Of its three cycles the second is missed. In the first one the reply to the first command of a chain is
-- lost, and so the second one is skipped; the reply to the third command is late; then six requests have timed out, and the
-- station resynchronizes, with requests and a reply of before in flight. In the third both commands of the chain are answered.
use Rattle.gc_program_theorems.specs.Common.{flat_map, with_end, Answer, Asked, Table, InstrumentNo, NullProc, WINDOW, judged_one_more, none_judged, End, Fine, Task, Act, Told, Put, Cut, Gave, Silent, Ended, Broke, Closed, Opened, Unopened, SynchronizesAnew, AreChained, Record, Reads, Scope, tally_of, Tally, Ends, Up_deliver, Up_lose, Up_repeat, Down_lose, Down_repeat, SyncTurn, Asks, Reaches, UnderWay, left_by_turns, Run, left_by_run, put_all, send_all, WasMadeOn, hz, v, points, reads_all, first_reply, tells_its_state, Move, Sends, Tells, Foreign, OnLine, Anew, Changes, IsAnInstrument, AnyState, never_kept, plain_task, IsInField, NoActFollows, Program, program_records, world, Stretch, null_lines, at, cycle_begun, null_answered, null_exchanged, null_reply, eight_answered, exchanged, plan_of_width, replies, run_and_end}
use Rattle.std.specs.Prelude.{◌≡◌, ℕ, suc, ◌+◌, Bool, true, false, List, [], ◌∷◌, ◌++◌, ◌==◌, if◌then◌else◌, codes, drop, map, pos, refl, replicate, Option, Some, None}
use Rattle.gc_values.specs.Prelude.{decimal}
use Rattle.gc_values.specs.declared.decimal.Decimal.{Decimal}
use Rattle.gc_values.specs.declared.fault.ValueFault.TheVariants.{Count}
use Rattle.gc_catalogue.specs.declared.answer.Answer.TheVariants.{Nothing, Long, Measured}
use Rattle.gc_texts.specs.declared.judgement.Judgement.TheVariants.{OffTarget}
use Rattle.gc_texts.specs.declared.near.Near.{Near}
use Rattle.gc_station.specs.declared.plan.Plan.{Plan}
use Rattle.gc_theorems.specs.Field.{Comes}
use Rattle.gc_texts.specs.Endings as end
use Rattle.gc_texts.specs.declared.turn.Turn as command
use Rattle.gc_theorems.specs.Begin as turn

-- The instrument.

-- the instrument: its state is a text, which it sends as the parameters of every reply. It keeps no reply, and a start leaves
-- it with no text
abbrev pub reporting : Ends (List ℕ)
reporting = tells_its_state {State = List ℕ} (λ text. text) []

-- The station.

-- the plan of this run: at most seven requests at a time, a deadline of 100 ms for null procedures, three cycles, one of which
-- is due every 182 ms, a quiet time of 10 ms, and at most three reconnects in a row
abbrev pub plan : Plan
plan = record (plan_of_width 7) { every = 182; cycles = 3; retries = 3 }

-- the turn of a command at this place, in the first attempt: a command that is chained is the second of its chain, and any other
-- the first
abbrev pub turn_of_place : ℕ → Bool → command.Turn
turn_of_place place chained = record { place = place; attempt = 1; link = if chained then 1 else 0 }

-- a command with a deadline of 50 ms, whose chain isn't sent again: its place, its target, what it asks, whether it is chained to
-- the one before it, and where its target is, if its answer is compared with that
abbrev pub task : (place target : ℕ) → Asked → Bool → Option Near → Task
task place target call chained near = record (plain_task target call 50 chained) { near = near; turn = turn_of_place place chained }

-- where a target is: in this direction, within a hundredth of a radian, at whatever distance
abbrev pub near_place : ℕ → (hz v : Decimal) → Option Near
near_place target hz v = Some (record { target = target; place = record { hz = hz; v = v }; tolerance = decimal (pos 1) 2 refl; range = None })

-- the seven commands, numbered from 0: to point the telescope at target 7; chained to that, to read angles and distance there; to
-- read them at target 8; and for each of four targets, to read the instrument's number
abbrev pub commands : List Task
commands =
    task 0 7 points false None
    ∷ task 1 7 reads_all true (near_place 7 hz v)
    ∷ task 2 8 reads_all false (near_place 8 (decimal (pos 125) 2 refl) (decimal (pos 15) 1 refl))
    ∷ map (λ target. task (2 + target) target (Table InstrumentNo) false None) (1 ∷ 2 ∷ 3 ∷ 4 ∷ [])

-- the request line of command 0. The id of a command is one more than its number, in the first cycle and in the third
abbrev pub point_line : List ℕ
point_line = codes "%R1Q,9027,1:2.25,1.625,0,0,0"

-- the request line of command 1
abbrev pub measure_line : List ℕ
measure_line = codes "%R1Q,2108,2:3000,1"

-- the request lines of commands 2 to 5
abbrev pub four_lines : List (List ℕ)
four_lines = codes "%R1Q,2108,3:3000,1" ∷ codes "%R1Q,5003,4:" ∷ codes "%R1Q,5003,5:" ∷ codes "%R1Q,5003,6:" ∷ []

-- the request line of command 6
abbrev pub last_line : List ℕ
last_line = codes "%R1Q,5003,7:"

-- the request line of the null procedure with this id, a single digit (48 is the digit 0)
abbrev pub null_line : ℕ → List ℕ
null_line id = codes "%R1Q,0," ++ (48 + id) ∷ codes ":"

-- the reply to command 0 in the third cycle, `%R1P,0,1:0`: without parameters, as the simulator's to its first command
abbrev pub pointed_reply : List ℕ
pointed_reply = first_reply

-- the reply to command 1 in the third cycle: angles and distance, where target 7 stands
abbrev pub measured_reply : List ℕ
measured_reply = codes "%R1P,0,2:0,2.25,1.625,110.0625"

-- the reply to command 2 in the third cycle: angles and distance, where target 8 doesn't stand
abbrev pub off_target_reply : List ℕ
off_target_reply = codes "%R1P,0,3:0,0.5,1.5,87.25"

-- the reply to command 3 in the third cycle: a number
abbrev pub numbered_reply : List ℕ
numbered_reply = codes "%R1P,0,4:0,31"

-- the reply to command 4 in the third cycle, without the number that it should have
abbrev pub empty_reply : List ℕ
empty_reply = codes "%R1P,0,5:0"

-- the scope of this run: at most two hundred acts, nothing that is watched, and what each reply says of its call
abbrev pub scope : Reads → Scope
scope reads = record { turns = 200; watched = []; reads = reads }

-- Acts and moves.

-- the acts by which each of these lines is sent at this moment
abbrev pub puts : ℕ → List (List ℕ) → List Act
puts now lines = put_all now lines []

-- the act by which these lines come in one piece
abbrev pub gave : ℕ → List (List ℕ) → Act
gave now lines = Gave (flat_map with_end lines) (at now)

-- the acts by which a connection is closed at the first of these moments, and made again and cleared at the second
abbrev pub connects_again : (now later : ℕ) → List Act
connects_again now later = Closed ∷ Told (at now) ∷ Silent (at later) ∷ Opened ∷ Put (10 ∷ []) ∷ Told (at later) ∷ []

-- the moves by which a request for the instrument's number is sent for each of these targets, at the first of these moments;
-- the second is its deadline
abbrev pub sends_all : (now deadline : ℕ) → List ℕ → List (Move (List ℕ))
sends_all now deadline targets = send_all now deadline targets []

-- The synchronization.

-- in flight at the start are a reply and a request, each with the id that command 0 will have
abbrev pub at_start : UnderWay (List ℕ)
at_start = record { up = record { id = 1; call = Table InstrumentNo } ∷ []; down = codes "%R1P,0,1:0,4" ∷ []; state = codes "5" }

-- the acts: an attempt to connect fails. The first connection is made, and the first null procedure is sent over it. The null
-- procedure's echo and the old reply come in one piece. The connection breaks. The second connection is made. Over it all eight
-- null procedures are sent and answered
abbrev pub sync_acts : List Act
sync_acts =
    Unopened
    ∷ Told (at 0)
    ∷ Silent (at 10)
    ∷ Opened
    ∷ Put (10 ∷ [])
    ∷ Told (at 10)
    ∷ puts 10 (null_line 6 ∷ [])
    ++ gave 12 (null_line 6 ∷ codes "%R1P,0,1:0,4" ∷ [])
    ∷ Broke
    ∷ connects_again 15 35
    ++ exchanged 40 null_lines replies []

-- what happens meanwhile: the line repeats the old request, of which one copy reaches the instrument, and the other is lost. The
-- line repeats the reply to the first copy, and both replies are lost; so is the reply to the first null procedure. The
-- instrument starts again
abbrev pub sync_turns : List (SyncTurn (List ℕ))
sync_turns =
    Asks
    ∷ turn.Foreign (null_line 6)
    ∷ turn.Comes
    ∷ turn.Up_repeat 0
    ∷ Reaches
    ∷ turn.Up_lose 0
    ∷ turn.Down_repeat 0
    ∷ turn.Down_lose 0
    ∷ turn.Down_lose 0
    ∷ Reaches
    ∷ turn.Down_lose 0
    ∷ turn.Anew
    ∷ turn.Changes []
    ∷ eight_answered

-- The first cycle.

-- the acts: the client's null procedure is answered. Command 0 is sent, and no reply to it comes until its deadline. A null
-- procedure is sent, and its reply settles command 0 as lost. Command 1, which is chained to command 0, is skipped. Commands 2 to
-- 6 are sent. At their deadline the reply to command 2 comes, which is late. A null procedure is sent, and after its deadline
-- another one. No reply comes to any of these six requests. Once the last of them has timed out, the line is dead: the second
-- connection is closed, and the third is made
abbrev pub first_acts : List Act
first_acts =
    cycle_begun 40 null_reply (
    puts 40 (point_line ∷ [])
    ++ Silent (at 90)
    ∷ puts 90 (null_line 2 ∷ [])
    ++ gave 95 (codes "%R1P,0,2:0" ∷ [])
    ∷ Told (at 95)
    ∷ puts 95 (four_lines ++ last_line ∷ [])
    ++ gave 145 (codes "%R1P,0,3:0,27" ∷ [])
    ∷ puts 145 (null_line 0 ∷ [])
    ++ Silent (at 245)
    ∷ puts 245 (null_line 1 ∷ [])
    ++ Silent (at 345)
    ∷ connects_again 345 355
    ++ Silent (at 365)
    ∷ []
    )

-- what happens meanwhile: command 0 is executed, and its reply is lost. Commands 2 and 3 are executed, and the reply to command 3
-- stays in flight. The requests of commands 4 and 6 are lost, and so is that of the first of the two null procedures; the requests
-- of command 5 and of the other one stay in flight
abbrev pub first_moves : List (Move (List ℕ))
first_moves =
    Tells 40
    ∷ null_answered 40 null_reply (
    Sends 7 points 90
    ∷ Tells 40
    ∷ OnLine Up_deliver
    ∷ OnLine (Down_lose 0)
    ∷ Tells 90
    ∷ Sends 0 (Table NullProc) 190
    ∷ Tells 90
    ∷ OnLine Up_deliver
    ∷ Tells 95
    ∷ Comes (codes "%R1P,0,2:0")
    ∷ Tells 95
    ∷ Changes (codes "27")
    ∷ Sends 8 reads_all 145
    ∷ Tells 95
    ∷ sends_all 95 145 (1 ∷ 2 ∷ 3 ∷ 4 ∷ [])
    ++ map OnLine (Up_deliver ∷ Up_deliver ∷ Up_lose 0 ∷ Up_lose 1 ∷ [])
    ++ Tells 145
    ∷ Comes (codes "%R1P,0,3:0,27")
    ∷ Sends 0 (Table NullProc) 245
    ∷ Tells 145
    ∷ OnLine (Up_lose 1)
    ∷ Tells 245
    ∷ Sends 0 (Table NullProc) 345
    ∷ Tells 245
    ∷ map Tells (345 ∷ 345 ∷ 355 ∷ 355 ∷ 365 ∷ 365 ∷ [])
    )

-- The station resynchronizes.

-- the acts: the first null procedure is sent. The replies to commands 3 and 5 of the first cycle come; the one to command 5 has
-- its id, and so answers it. The second is sent. Three replies come in one piece: to the last null procedure of the first cycle,
-- which has the id 1, to the first one here, and to the second. The third is sent. The third connection ends, and the fourth is
-- made, over which the null procedures from the third on are sent and answered
abbrev pub anew_acts : List Act
anew_acts =
    Told (at 365)
    ∷ puts 365 (null_line 6 ∷ [])
    ++ gave 370 (codes "%R1P,0,4:0,27" ∷ codes "%R1P,0,6:0,27" ∷ [])
    ∷ puts 370 (null_line 5 ∷ [])
    ++ gave 375 (codes "%R1P,0,1:0" ∷ codes "%R1P,0,6:0" ∷ codes "%R1P,0,5:0" ∷ [])
    ∷ puts 375 (null_line 4 ∷ [])
    ++ Ended
    ∷ connects_again 375 395
    ++ exchanged 400 (drop 2 null_lines) (drop 2 replies) []

-- what happens meanwhile: both requests of before reach the instrument. The request of the third null procedure is lost, and is
-- sent again
abbrev pub anew_turns : List (SyncTurn (List ℕ))
anew_turns =
    Asks
    ∷ Reaches
    ∷ turn.Comes
    ∷ turn.Comes
    ∷ Asks
    ∷ turn.Changes []
    ∷ replicate 3 Reaches
    ++ replicate 3 turn.Comes
    ++ Asks
    ∷ turn.Up_lose 0
    ∷ drop 6 eight_answered

-- The second cycle, and the third.

-- the acts, first: the clock is read nine times: the second cycle begins and is missed, its seven commands are left out, and the
-- third cycle begins. The client's null procedure is answered, and command 0 is sent and answered. Commands 1 to 6 are sent; the
-- request of command 6 is cut after five bytes
abbrev pub sent_acts : List Act
sent_acts =
    map (λ now. Told (at now)) (replicate 9 405)
    ++ null_exchanged 405 null_reply (puts 405 (point_line ∷ []))
    ++ gave 410 (pointed_reply ∷ [])
    ∷ puts 410 (measure_line ∷ four_lines)
    ++ Cut (with_end last_line) 5
    ∷ []

-- and then: the fourth connection is closed, and the fifth is made. Over it noise comes, then a second reply to command 0, and
-- then the replies to commands 1 to 4, the one to command 3 twice. Commands 5 and 6 time out. A null procedure is sent. The
-- reply to command 5 comes, late. The reply to the null procedure comes, and settles command 6 as lost. The fifth connection is
-- closed
abbrev pub heard_acts : List Act
heard_acts =
    connects_again 410 420
    ++ Silent (at 430)
    ∷ gave 435 (codes "?" ∷ pointed_reply ∷ measured_reply ∷ off_target_reply ∷ numbered_reply ∷ numbered_reply ∷ empty_reply ∷ [])
    ∷ Silent (at 460)
    ∷ puts 460 (null_line 0 ∷ [])
    ++ gave 465 (codes "%R1P,0,6:0,31" ∷ codes "%R1P,0,0:0,31" ∷ [])
    ∷ Closed
    ∷ []

-- all acts of the second cycle and the third
abbrev pub last_acts : List Act
last_acts = sent_acts ++ heard_acts

-- what happens meanwhile, first: the null procedure is answered, and the seven commands are sent; the line repeats the request of
-- command 0, which is executed twice
abbrev pub sent_moves : List (Move (List ℕ))
sent_moves =
    map Tells (replicate 9 405)
    ++ null_answered 405 null_reply (Sends 7 points 455 ∷ Tells 405 ∷ [])
    ++ map OnLine (Up_repeat 0 ∷ Up_deliver ∷ Up_deliver ∷ [])
    ++ Tells 410
    ∷ Comes pointed_reply
    ∷ Sends 7 reads_all 460
    ∷ Tells 410
    ∷ Sends 8 reads_all 460
    ∷ Tells 410
    ∷ sends_all 410 460 (1 ∷ 2 ∷ 3 ∷ [])
    ++ Sends 4 (Table InstrumentNo) 460
    ∷ []

-- then: the instrument changes by itself before it executes commands 1, 2 and 3, as by a hand that turns it, and starts again
-- before it executes command 4; the line repeats the reply to command 3
abbrev pub executed_moves : List (Move (List ℕ))
executed_moves =
    flat_map (λ text. Changes text ∷ OnLine Up_deliver ∷ []) (codes "2.25,1.625,110.0625" ∷ codes "0.5,1.5,87.25" ∷ codes "31" ∷ [])
    ++ OnLine (Down_repeat 3)
    ∷ Anew
    ∷ OnLine Up_deliver
    ∷ map Tells (410 ∷ 420 ∷ 420 ∷ 430 ∷ 435 ∷ [])

-- and at last: the replies come, behind a line that is none; a null procedure is sent. The instrument changes before it executes
-- command 5, and the line loses the request of command 6
abbrev pub heard_moves : List (Move (List ℕ))
heard_moves =
    Foreign (codes "?")
    ∷ map Comes (pointed_reply ∷ measured_reply ∷ off_target_reply ∷ numbered_reply ∷ numbered_reply ∷ empty_reply ∷ [])
    ++ Tells 460
    ∷ Sends 0 (Table NullProc) 560
    ∷ Tells 460
    ∷ Changes (codes "31")
    ∷ map OnLine (Up_deliver ∷ Up_lose 0 ∷ Up_deliver ∷ [])
    ++ Tells 465
    ∷ map Comes (codes "%R1P,0,6:0,31" ∷ codes "%R1P,0,0:0,31" ∷ [])

-- all that happens during `last_acts`
abbrev pub last_moves : List (Move (List ℕ))
last_moves = sent_moves ++ (executed_moves ++ heard_moves)

-- The whole run.

-- the acts until six requests have timed out
abbrev pub acts_until_anew : List Act
acts_until_anew = sync_acts ++ first_acts

-- all acts of the run
abbrev pub acts : List Act
acts = acts_until_anew ++ (anew_acts ++ last_acts)

-- what happens until the station resynchronizes
abbrev pub first_run : Run (List ℕ)
first_run = record { turns = sync_turns; moves = first_moves }

-- the run in its parts: until the station resynchronizes; from there on; and after its end, where nothing happens
abbrev pub runs : List (Run (List ℕ))
runs = first_run ∷ run_and_end anew_turns last_moves

-- the run as a program
abbrev pub program : Reads → Program (List ℕ)
program reads = record { plan = plan; commands = commands; scope = scope reads; acts = acts; runs = runs }

-- what is in flight when the station resynchronizes
abbrev pub left_by_first : UnderWay (List ℕ)
left_by_first = left_by_run WINDOW reporting at_start first_run

-- the stretch of the first cycle
abbrev pub first_stretch : Stretch (List ℕ)
first_stretch = record { from = left_by_turns reporting sync_turns at_start; moves = first_moves }

-- the stretch of the second cycle, which is missed, and of the third
abbrev pub last_stretch : Stretch (List ℕ)
last_stretch = record { from = left_by_turns reporting anew_turns left_by_first; moves = last_moves }

-- The records of the run.

-- the id of the request of a command at this place: one more, if it was sent at a moment, and else 0
abbrev pub id_of_place : Option ℕ → ℕ → ℕ
id_of_place None place = 0
id_of_place (Some utc) place = suc place

-- the record of a command of this cycle and place, for this target and with this call: it was sent at the moment `sent`, if it
-- was, and ended at the moment `utc`, which for a missed command is when its cycle was due
abbrev pub ended_record : Option ℕ → (utc cycle place target : ℕ) → Asked → End → Record
ended_record sent utc cycle place target call end =
    record {
      sent = sent;
      id = id_of_place sent place;
      utc = utc;
      cycle = cycle;
      place = place;
      turn = turn_of_place place (place == 1);
      command = record { target = target; call = call };
      end = end;
    }

-- what the reply to command 1 says
abbrev pub at_target : Answer
at_target = Measured hz v (decimal (pos 1100625) 4 refl)

-- the record of command 0 in the third cycle: answered, without values
abbrev pub points_record : Record
points_record = ended_record (Some 405) 410 3 0 7 points (end.Answered Fine (Some Nothing) pointed_reply)

-- the record of command 1 in the third cycle: answered, with what was measured at target 7
abbrev pub chained_record : Record
chained_record = ended_record (Some 410) 435 3 1 7 reads_all (end.Answered Fine (Some at_target) measured_reply)

-- the record of command 2 in the third cycle: off target
abbrev pub off_target_record : Record
off_target_record = ended_record (Some 410) 435 3 2 8 reads_all (end.Judged OffTarget off_target_reply)

-- the record of command 3 in the third cycle: answered, with a number
abbrev pub number_record : Record
number_record = ended_record (Some 410) 435 3 3 1 (Table InstrumentNo) (end.Answered Fine (Some (Long (pos 31))) numbered_reply)

-- the record of command 4 in the third cycle: unreadable
abbrev pub unreadable_record : Record
unreadable_record = ended_record (Some 410) 435 3 4 2 (Table InstrumentNo) (end.Unreadable empty_reply Count)

-- all records of the run, in order
abbrev pub records : List Record
records =
    ended_record (Some 40) 95 1 0 7 points end.Lost
    ∷ ended_record None 95 1 1 7 reads_all end.Skipped
    ∷ ended_record (Some 95) 145 1 2 8 reads_all end.Late
    ∷ ended_record (Some 95) 365 1 3 1 (Table InstrumentNo) end.Lost
    ∷ ended_record (Some 95) 365 1 4 2 (Table InstrumentNo) end.Lost
    ∷ ended_record (Some 95) 365 1 5 3 (Table InstrumentNo) end.Lost
    ∷ ended_record (Some 95) 365 1 6 4 (Table InstrumentNo) end.Lost
    ∷ ended_record None 222 2 0 7 points end.Missed
    ∷ ended_record None 222 2 1 7 reads_all end.Missed
    ∷ ended_record None 222 2 2 8 reads_all end.Missed
    ∷ ended_record None 222 2 3 1 (Table InstrumentNo) end.Missed
    ∷ ended_record None 222 2 4 2 (Table InstrumentNo) end.Missed
    ∷ ended_record None 222 2 5 3 (Table InstrumentNo) end.Missed
    ∷ ended_record None 222 2 6 4 (Table InstrumentNo) end.Missed
    ∷ points_record
    ∷ chained_record
    ∷ off_target_record
    ∷ number_record
    ∷ unreadable_record
    ∷ ended_record (Some 410) 465 3 5 3 (Table InstrumentNo) end.Late
    ∷ ended_record (Some 410) 465 3 6 4 (Table InstrumentNo) end.Lost
    ∷ []

-- how many commands ended in each of the seven ways; no chain is sent again
abbrev pub tally : Tally
tally = record { answered = 3; refused = 0; late = 2; lost = 6; skipped = 1; unreadable = 1; missed = 7; judged = judged_one_more OffTarget none_judged; retried = 0 }

-- What the run shows.

-- how many connections these acts made
abbrev pub connections : List Act → ℕ
connections [] = 0
connections (Opened ∷ acts) = suc (connections acts)
connections (_ ∷ acts) = connections acts

-- where `reads` gives what replies say of their calls: `reporting` is an instrument, and the run is one in the field, which is
-- over after these acts and has these records
pub record IsEventful (reads : Reads) : Type 0 where
  pub is_instrument : IsAnInstrument reporting AnyState never_kept
  pub field : IsInField reporting AnyState never_kept at_start (program reads)
  pub over : NoActFollows (program reads)
  pub written : program_records (program reads) ≡ records
  -- commands end in each of the seven ways
  pub counted : tally_of records ≡ tally
  -- command 1 is sent only once command 0 was answered well
  pub chained : AreChained commands 0 1
  -- a reply is lost: in the first cycle, too, the instrument made this line on executing the request of command 0
  pub made : WasMadeOn WINDOW reporting first_stretch.from first_stretch.moves 9 points pointed_reply
  -- the station resynchronizes where six requests wait that have all timed out. Two requests and a reply are in flight then
  pub begins_anew : SynchronizesAnew plan commands (scope reads) acts_until_anew (Told (at 365))
  pub up : left_by_first.up ≡ record { id = 6; call = Table InstrumentNo } ∷ record { id = 1; call = Table NullProc } ∷ []
  pub down : left_by_first.down ≡ codes "%R1P,0,4:0,27" ∷ []
  -- the instrument starts again in the third cycle, after six executions
  pub starts : (world reporting last_stretch).wire.starts ≡ 6 ∷ []
  -- five connections are made
  pub connected : connections acts ≡ 5
