-- No part of a promise: what is seen of a link that commands are asked over, and what its calls do. A step is one call that
-- uses the link, or several in a row. A place is the number of a request, counted from 0. A link is remote where the
-- instrument's end isn't in this program.
use Rattle.gc_ask.specs.Common.{Appends, Consumes, Keeps, Ports, Taken, TakesFront, Input, RunFault, Read, Write, TooManyReads, LinkClosed}
use Rattle.std.specs.Prelude.{◌≡◌, ℕ, ◌+◌, ◌*◌, ◌-◌, ◌<◌, Bool, true, false, not, List, [], Option, Some, Result, Ok, Err, OnOk, ◌≤◌, length, take}
use Rattle.std.specs.Borrow.{GName}
use Rattle.gc_ask.specs.Asking.{LinkResult, UseEnds, NoneEnded}
use Rattle.gc_ask.specs.Looping.{IsOfOneEnd, SeenAtBoth}
use Rattle.gc_ask.specs.declared.unused.TheConstants.{ROOM}

-- the ghost names of the references that a link holds: of its client's end, and of its instrument's
pub record HeldNames : Type 0 where
  pub client_in : GName
  pub client_out : GName
  pub instrument_in : GName
  pub instrument_out : GName

-- the ports of an end that isn't there: nothing is read of it, and none of them fails
abbrev pub no_ports : Ports
no_ports = record { remaining = Some []; reads = 0; ended = false; source_failed = false; taken = Some []; sink_failed = false }

-- a source was read once: it gave these bytes (`Ok`, with false where that was its end), or none (`Err`)
abbrev pub ReadsOnce : {E : Type 0} → (old new : Input) → (given : List ℕ) → Result Bool E → Type 0
ReadsOnce old new given (Ok more) = Consumes old.remaining new.remaining given × (new.reads ≡ old.reads + 1) × (new.ended ≡ not more)
ReadsOnce old new given (Err _) = Keeps old.remaining new.remaining × (new.reads ≡ old.reads) × (new.ended ≡ old.ended)

-- a source was read from `old` to `new`, maybe not once or several times, and none of these reads was the end of its input. Without a
-- read `ended` is as before
abbrev pub StaysOpen : (old new : Input) → Type 0
StaysOpen old new = NoneEnded old new × (new.reads ≡ old.reads → new.ended ≡ old.ended)

-- why reading a source ended, with `after` reads left. Only with `LinkClosed` was the last read the end of the input; with
-- `Read` the source failed, and a read was left; with `TooManyReads` none was
abbrev pub ReadEnds : (old new : Input) → (after : ℕ) → LinkResult → Type 0
ReadEnds old new after (Ok _) = StaysOpen old new × (new.failed ≡ old.failed)
ReadEnds old new after (Err Read) = StaysOpen old new × (0 < after) × (new.failed ≡ true)
ReadEnds old new after (Err TooManyReads) = StaysOpen old new × (after ≡ 0) × (new.failed ≡ old.failed)
ReadEnds old new after (Err LinkClosed) = (old.reads < new.reads) × (new.ended ≡ true) × (new.failed ≡ old.failed)
ReadEnds old new after (Err _) = ⊥

-- the bytes that a read gave, by its result: none after a fault
abbrev pub given_unless_failed : LinkResult → (given : List ℕ) → List ℕ
given_unless_failed (Ok _) given = given
given_unless_failed (Err _) given = []

-- a source was read once more, if one of `before` reads was left, where `after` are left then. `Ok`: it gave these bytes
pub record ReadsMore (old new : Input) (given : List ℕ) (before after : ℕ) (result : LinkResult) : Type 0 where
  pub gave : Consumes old.remaining new.remaining (given_unless_failed result given)
  pub few : length (given_unless_failed result given) ≤ ROOM * (new.reads - old.reads)
  pub ends : ReadEnds old new after result
  pub reads : new.reads + after ≡ old.reads + before
  pub grows : old.reads ≤ new.reads
  pub spends : OnOk result (after < before)

-- the ports of an end after one step with this result: the reads don't get fewer, and without a read `ended` is as before
pub record StepEnds (old new : Ports) (result : LinkResult) : Type 0 where
  pub ends : UseEnds old new result
  pub same : new.reads ≡ old.reads → new.ended ≡ old.ended
  pub grows : old.reads ≤ new.reads

-- the ports of both ends after one step, which had this result at one of them and went well at the other
abbrev pub BothStep : (client_old client_new instrument_old instrument_new : Ports) → LinkResult → Type 0
BothStep client_old client_new instrument_old instrument_new result =
    IsOfOneEnd (StepEnds client_old client_new) (StepEnds instrument_old instrument_new) result

-- one step, with this result, took both ends of a link from what was seen of them before (`old`) to what is seen now (`new`)
abbrev pub SeenStep : (old new : SeenAtBoth) → LinkResult → Type 0
SeenStep old new = BothStep old.client new.client old.instrument new.instrument

-- a write of the text at this place was cut, with this fault, which is `Write`: it has the place, and how many of the text's first bytes
-- were taken, not all of them
abbrev pub CutsText : (place : ℕ) → (text : List ℕ) → (old new : Option (List ℕ)) → RunFault → Type 0
CutsText place text old new (Write count bytes) = (count ≡ place) × TakesFront old new bytes text
CutsText place text old new _ = ⊥

-- the text at this place went out whole, or the sink failed and took its first bytes (`CutsText`)
abbrev pub Sends : (place : ℕ) → (text : List ℕ) → (old new : Taken) → LinkResult → Type 0
Sends place text old new (Ok _) = Appends old.bytes new.bytes text × (new.failed ≡ old.failed)
Sends place text old new (Err fault) = CutsText place text old.bytes new.bytes fault × (new.failed ≡ true)

-- what the client's end took of the request at this place, where this program answers at the other end, and sending or answering had
-- this fault. `Write`, whose count is the place: its first bytes, or none or all of them. Another fault: all of it
abbrev pub LeavesUnanswered : (place : ℕ) → (text : List ℕ) → (old new : Option (List ℕ)) → RunFault → Type 0
LeavesUnanswered place text old new (Write count _) = (count ≡ place) × ((bytes : ℕ) × Appends old new (take bytes text))
LeavesUnanswered place text old new _ = Appends old new text

-- what the client's end took of the request at this place as it was sent, and, unless the link is remote, answered at the other end:
-- all of it, or what a fault left
abbrev pub TakesRequest : (is_remote : Bool) → (place : ℕ) → (text : List ℕ) → (old new : Option (List ℕ)) → LinkResult → Type 0
TakesRequest is_remote place text old new (Ok _) = Appends old new text
TakesRequest true place text old new (Err fault) = CutsText place text old new fault
TakesRequest false place text old new (Err fault) = LeavesUnanswered place text old new fault

-- where the result is `Write`, its count is `place`: that many replies went out whole before the one that was cut
abbrev pub CountsReplies : (place : ℕ) → LinkResult → Type 0
CountsReplies place (Err (Write count _)) = count ≡ place
CountsReplies place _ = Unit {0}

-- what took an end's ports from `old` to `new` left its sink as it was: what that has taken, and whether it has failed
abbrev pub LeavesSink : (old new : Ports) → Type 0
LeavesSink old new = (new.taken ≡ old.taken) × (new.sink_failed ≡ old.sink_failed)
