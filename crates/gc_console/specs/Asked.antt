-- How `ask`, `loop` and `serve` report how they ended: this project's own.
use Rattle.gc_console.specs.Common.{Appends, AskRunsConnected, LoopRunsConnected, IsFaultOfPlace, Ports, Taken, Place, is_port, Refuses, range_line, command_stop_text, with_command_fault, run_fault_text, Tells, source_of, RunFault}
use Rattle.std.specs.Prelude.{◌≡◌, ◌⊎◌, ℕ, Bool, true, false, List, Option, None, Result, Ok, Err}
use Rattle.gc_console.specs.Refusing.{EndSeen}
use Rattle.gc_console.specs.Scenes.{AreUnused}
use Rattle.gc_console.specs.Serves.{most_reads}
use Rattle.gc_texts.specs.declared.command_text.CommandStop.{CommandStop}
use Rattle.gc_texts.specs.declared.command_text.CommandStop.TheVariants.{Fault, Line}

-- what is seen of the sink of these ports
abbrev pub sink_of : Ports → Taken
sink_of ports = record { bytes = ports.taken; failed = ports.sink_failed }

-- how the end of asking commands is reported: status 0 and no message, or status 1 and the lines of the stop. `old` and `new` are
-- the messages before and after
abbrev pub TellsAsked : {X : Type 0} → Result X CommandStop → (status : ℕ) → (old new : Option (List ℕ)) → Type 0
TellsAsked (Ok _) status old new = (status ≡ 0) × (new ≡ old)
TellsAsked (Err stop) status old new = (status ≡ 1) × Appends old new (command_stop_text stop)

-- how the end of asking commands at a port of 127.0.0.1 (`at_port`) or at another place is reported: as `TellsAsked` says. After a fault at
-- another place, unless a line of the text is faulty, further lines may follow, and of what the messages took then nothing is said
abbrev pub TellsAskedAt : {X : Type 0} → (at_port : Bool) → Result X CommandStop → (status : ℕ) → (old new : Option (List ℕ)) → Type 0
TellsAskedAt true end status old new = TellsAsked end status old new
TellsAskedAt false (Ok _) status old new = (status ≡ 0) × (new ≡ old)
TellsAskedAt false (Err (Line n trouble)) status old new = (status ≡ 1) × Appends old new (command_stop_text (Line n trouble))
TellsAskedAt false (Err (Fault _)) status old new = status ≡ 1

-- commands had an end of which `Ends` holds, by its fault; the status and the messages tell that end (`TellsAsked`): the messages by the
-- line of the fault, if there was one, by a second one of a faulty line of the text, and by nothing else
pub record TellsAskedEnd (Ends : Result (Unit {0}) RunFault → Type 0) (seen : EndSeen) : Type 0 where
  pub end : Result (Unit {0}) CommandStop
  pub ends : Ends (with_command_fault end)
  pub tells : TellsAsked end seen.status seen.told_before seen.told

-- commands were asked over a connection to a place (`AskRunsConnected`), and the status and the messages tell how that ended
-- (`TellsAskedEnd`)
abbrev pub TellsAsk : EndSeen → Type 0
TellsAsk seen =
    TellsAskedEnd (λ end. AskRunsConnected IsFaultOfPlace (source_of seen.old) (source_of seen.new) most_reads (sink_of seen.old) (sink_of seen.new) end) seen

-- commands were asked over a connection to this place (`AskRunsConnected`), and the status and the messages tell how that ended
-- (`TellsAskedAt`)
pub record TellsAskAt (place : Place) (seen : EndSeen) : Type 0 where
  pub end : Result (Unit {0}) CommandStop
  pub asks : AskRunsConnected IsFaultOfPlace (source_of seen.old) (source_of seen.new) most_reads (sink_of seen.old) (sink_of seen.new)
      (with_command_fault end)
  pub tells : TellsAskedAt (is_port place) end seen.status seen.told_before seen.told

-- commands were asked over a connection with an instrument of this program at its other end (`LoopRunsConnected`), and the status and the
-- messages tell how that ended, as in `TellsAsk`
abbrev pub TellsLooped : EndSeen → Type 0
TellsLooped seen =
    TellsAskedEnd (λ end. LoopRunsConnected (source_of seen.old) (source_of seen.new) most_reads (sink_of seen.old) (sink_of seen.new) end) seen

-- a scene was named and refused, with status 1, and source and sink weren't used (`AreUnused`)
pub record RefusesNamed {Name : Type 0} (scene : Option Name) (seen : EndSeen) : Type 0 where
  pub status : seen.status ≡ 1
  pub unused : AreUnused seen.old seen.new
  pub named : scene ≡ None → ⊥

-- the scene was refused, or commands were asked of an instrument of this program, and how that ended is reported
abbrev pub TellsLoop : {Name : Type 0} → (scene : Option Name) → EndSeen → Type 0
TellsLoop scene seen = RefusesNamed scene seen ⊎ TellsLooped seen

-- something ended, and the status and the messages tell how (`Tells`): the messages by the line of a fault, if there was one, and by nothing
-- else
abbrev pub TellsSomeEnd : (status : ℕ) → (old new : Option (List ℕ)) → Type 0
TellsSomeEnd status old new = (end : Result (Unit {0}) RunFault) × Tells run_fault_text end status old new

-- a number of the command line was refused, or something ended, and the messages have one line or none
abbrev pub TellsServed : (status : ℕ) → (old new : Option (List ℕ)) → Type 0
TellsServed status old new = Refuses range_line status old new ⊎ TellsSomeEnd status old new
