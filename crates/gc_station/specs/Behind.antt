-- Where commands are sent after calls of the table, this project's own. The table is that of the procedures that this project
-- knows. An instrument may keep its reply to a request, and send it again for a later one with the same id; of eight requests in
-- a row no two have one id. Procedures that aren't in the table may leave what it keeps. So no command is sent unless one of the
-- seven requests before it is a call of the table that a reply ended. As no reply has ended a request of a client that is new, the
-- first one after a synchronization is a null procedure (`NullFirst`). A part reaches from one synchronization to the next (`Parts`).
use Rattle.gc_station.specs.Common.{AllByRecursion, is_of_table, Asked, Step, Send, begun, course, WINDOW, IsNearTheTable, Task}
use Rattle.std.specs.Prelude.{◌≡◌, ◌⊎◌, ℕ, true, false, List, ◌∷◌, ◌++◌, length, Some, slice_get}
use Rattle.gc_station.specs.declared.mark.Mark.{Mark}
use Rattle.gc_station.specs.declared.plan.Plan.{Plan}
use Rattle.gc_station.specs.Deciding.{has_begun, action_to_send, action_room}
use Rattle.gc_station.specs.Links.{parts}
use Rattle.gc_station.specs.Marks.{commands_in}
use Rattle.gc_station.specs.Model.{Model, waiting_of}
use Rattle.gc_station.specs.Parts.{Part}
use Rattle.gc_station.specs.Progressing.{is_over}
use Rattle.gc_station.specs.Runs.{state_after, OfEachRun}
use Rattle.gc_station.specs.declared.progress.Action.TheVariants as action

-- wherever a command is sent in this part of a run, one of the seven requests before it in the part is a call of the table that a
-- reply ended (`IsNearTheTable`). `front` are the client's steps before the command
abbrev pub IsSentNearTheTable : Part → Type 0
IsSentNearTheTable part =
    (front later : List (Step Asked)) (target : ℕ) (call : Asked) (deadline : ℕ) (mark : Mark) → part.steps ≡ front ++ Send target call deadline ∷ later
    → slice_get part.marks (length (course WINDOW begun front).sent) ≡ Some (Some mark) → IsNearTheTable (course WINDOW begun front)

-- in each part of a run commands are sent as `IsSentNearTheTable` says
abbrev pub CommandsAreSentNearTheTable : Type 0
CommandsAreSentNearTheTable =
    OfEachRun (λ plan commands scope acts. (i : ℕ) (part : Part) → slice_get (parts plan commands scope acts) i ≡ Some part → IsSentNearTheTable part)

-- each of `tasks` asks for a call of the table
abbrev pub AreOfTable : List Task → Type 0
AreOfTable tasks = AllByRecursion (λ task. is_of_table task.command.call ≡ true) tasks

-- a station with the model `s` sends a command that may be sent as soon as there is room, unless the line is dead: as many requests
-- are outstanding as were sent after the last call of the table that a reply ended (`behind`), so no null procedure has to be sent
-- first
abbrev pub IsNotHeldUp : Plan → Model → Type 0
IsNotHeldUp plan s =
    (s.progress.exchange.behind ≡ length s.client.waiting)
    × (action_to_send plan s.progress (waiting_of s) action.Send ≡ action_room plan s.progress (waiting_of s) action.Send)
    × (action_to_send plan s.progress (waiting_of s) action.Prepare ≡ action_room plan s.progress (waiting_of s) action.Prepare)

-- a station with the model `s` awaits the first reply since its synchronization: no request that was sent since then was ended by
-- a reply (`behind`); it sent nothing but null procedures, so no command is outstanding, no chain goes on, and nothing of the setup
-- was sent
abbrev pub AwaitsFirstReply : Model → Type 0
AwaitsFirstReply s = (s.progress.exchange.behind ≡ WINDOW) × (commands_in s.marks ≡ 0) × (s.progress.chain_unbroken ≡ false) × (s.progress.prepared ≡ 0)

-- if all commands are calls of the table, none is held up (`IsNotHeldUp`) once a run has synchronized and a reply has ended the null
-- procedure that it sends then (until then: `AwaitsFirstReply`), as long as it isn't over
abbrev pub TheTableIsNeverHeldUp : Type 0
TheTableIsNeverHeldUp = OfEachRun (λ plan commands scope acts.
    AreOfTable commands
    → let s = state_after plan commands scope acts in has_begun s.progress ≡ true → is_over s.progress ≡ false → AwaitsFirstReply s ⊎ IsNotHeldUp plan s)
