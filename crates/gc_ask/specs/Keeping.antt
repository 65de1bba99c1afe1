-- A port or a device that is kept: how its connections ended, and what is written of them. This project's own.
use Rattle.gc_ask.specs.Common.{Appends, AnswerRule, serve_fault_text, Frame, Served, ServeFault, run_fault_text}
use Rattle.std.specs.Prelude.{◌≡◌, ◌⊎◌, ℕ, ◌+◌, ◌-◌, ◌^◌, Bool, true, List, [], ◌∷◌, ◌++◌, length, Option, Some, None, Result, Ok, Err, codes}
use Rattle.std.specs.Fmt.{decimal}
use Rattle.gc_ask.specs.Serving.{ServesOne}
use Rattle.gc_ask.specs.declared.callers.CallerFault.{CallerFault}
use Rattle.gc_ask.specs.declared.callers.CallerFault.TheVariants.{Serving, Socket, Idle}
use Rattle.gc_lines.specs.declared.served.ServeFault.TheVariants as serving
use Rattle.gc_texts.specs.declared.fault.RunFault.TheVariants as fault

-- how a connection ended: it was served to its end, or left for a fault
abbrev pub ConnectionEnd : Type 0
ConnectionEnd = Result (Unit {0}) CallerFault

-- a fault as it is printed: an idle connection has no number, because nothing failed
abbrev pub caller_fault_text : CallerFault → List ℕ
caller_fault_text (Serving fault) = serve_fault_text fault
caller_fault_text Socket = run_fault_text fault.Socket
caller_fault_text Idle = codes "idle"

-- the line of a connection that was left for a fault
abbrev pub caller_line : (number : ℕ) → CallerFault → List ℕ
caller_line number fault = codes "geocom: connection " ++ (decimal number ++ (codes ": " ++ (caller_fault_text fault ++ codes "\n")))

-- what is written of a connection: its fault's line, or nothing where it was served to its end
abbrev pub end_line : (number : ℕ) → ConnectionEnd → List ℕ
end_line number (Ok _) = []
end_line number (Err fault) = caller_line number fault

-- what is written of connections, of which the first has this number: the lines of their faults, in order
abbrev pub end_lines : (number : ℕ) → List ConnectionEnd → List ℕ
end_lines number [] = []
end_lines number (end ∷ later) = end_line number end ++ end_lines (number + 1) later

-- some connections ended as `more` says: the ends known now are those known before, followed by these. Where the ends before aren't
-- known, nothing is said
abbrev pub AddsEnds : (old new : Option (List ConnectionEnd)) → (more : List ConnectionEnd) → Type 0
AddsEnds None new more = Unit {0}
AddsEnds (Some ends) new more = new ≡ Some (ends ++ more)

-- `most` callers were served, whatever became of each. If all lines were written (`all_written`), the messages grew by the line of
-- each fault, and by nothing else. `old` are the ends of the connections that were served before, and `new` those of all,
-- if they are known
pub record ServesCallers (most : ℕ) (all_written : Bool) (old new : Option (List ConnectionEnd)) (messages_old messages_new : Option (List ℕ)) : Type 0 where
  pub ends : List ConnectionEnd
  pub count : length ends ≡ most
  pub served : AddsEnds old new ends
  pub lines : all_written ≡ true → Appends messages_old messages_new (end_lines 1 ends)

-- the end of a connection by the result of serving it
abbrev pub end_of_caller : Result Served ServeFault → ConnectionEnd
end_of_caller (Ok _) = Ok tt
end_of_caller (Err fault) = Err (Serving fault)

-- how many callers a kept port or device serves: the number that was asked for, or else the greatest u64
abbrev pub most_callers : Option ℕ → ℕ
most_callers None = 2 ^ 64 - 1
most_callers (Some connections) = connections

-- a kept port or device served as many callers as `most_callers` has it, as `ServesCallers` says; how their
-- connections ended isn't known
abbrev pub ServesConnections : (connections : Option ℕ) → (all_written : Bool) → (messages_old messages_new : Option (List ℕ)) → Type 0
ServesConnections connections all_written messages_old messages_new = ServesCallers (most_callers connections) all_written None None messages_old messages_new

-- callers were served one after the other, and their connections ended so; `serves` says of each what was done, between what was there
-- before and after
abbrev pub ServesTurns : {C : Type 0} → (serves : C → C → ConnectionEnd → Type 0) → (before : C) → List ConnectionEnd → (after : C) → Type 0
ServesTurns serves before [] after = after ≡ before
ServesTurns {C} serves before (end ∷ later) after = (state : C) × serves before state end × ServesTurns serves state later after

-- `most` callers were served, as `ServesCallers` says, one after the other, as `serves` says of each (`ServesTurns`); `served` gives the
-- ends that are known
pub record KeepsCallers {C : Type 0} (serves : C → C → ConnectionEnd → Type 0) (served : C → Option (List ConnectionEnd)) (most : ℕ) (all_written : Bool)
    (before after : C) (messages_old messages_new : Option (List ℕ)) : Type 0 where
  pub kept : ServesCallers most all_written (served before) (served after) messages_old messages_new
  pub turns : ServesTurns serves before kept.ends after

-- the end of a connection of which serving ended so: as that did, but a read that failed may have timed out, and then the connection was
-- idle
abbrev pub IsEndOf : Result Served ServeFault → ConnectionEnd → Type 0
IsEndOf served (Err Idle) = (replies : ℕ) × (served ≡ Err (serving.Read replies))
IsEndOf served end = end ≡ end_of_caller served

-- what was done of one caller, where an instrument with this rule served at most `most` reads: his connection was served by the
-- instrument, which was restarted for it (`ServesOne`), and ended so; or he had no connection that could be served, and the instrument is as
-- it was
abbrev pub ServesCaller : {State : Type 0} → AnswerRule State Frame → (restart : State → State) → (most : ℕ) → (before after : State)
    → ConnectionEnd → Type 0
ServesCaller rule restart most before after end =
    ((end ≡ Err Socket) × (after ≡ before))
    ⊎ ((served : Result Served ServeFault) × IsEndOf served end × ServesOne rule restart most before after served)

-- a kept port or device served as many callers as `ServesConnections` says, one after the other, each with the instrument as
-- `ServesCaller` says, which at first was in the state `before`; and the messages grew by the lines of their faults
pub record KeepsServing {State : Type 0} (rule : AnswerRule State Frame) (restart : State → State) (most : ℕ) (connections : Option ℕ)
    (before : State) (all_written : Bool) (messages_old messages_new : Option (List ℕ)) : Type 0 where
  pub after : State
  pub kept : ServesConnections connections all_written messages_old messages_new
  pub turns : ServesTurns (ServesCaller rule restart most) before kept.ends after
