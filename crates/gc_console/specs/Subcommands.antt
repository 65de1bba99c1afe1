-- What a subcommand other than `station` had done when it ended, by what its words named: this project's own. What is seen of it
-- (`EndSeen`) are its ports at its start and at its end, its status, and what the messages had taken by its start and by its end.
use Rattle.gc_console.specs.Common.{unless_shown, Ports, Place, Standard}
use Rattle.std.specs.Prelude.{◌≡◌, ◌≤◌, ℕ, Bool, false, List, [], Option, Some, None}
use Rattle.gc_client.specs.declared.window.TheConstants.{WINDOW}
use Rattle.gc_console.specs.Asked.{TellsAskAt, TellsLoop}
use Rattle.gc_console.specs.Drills.{PlaysScene, ReadsWholeSource, TellsDrill}
use Rattle.gc_console.specs.Refusing.{EndSeen, end_seen}
use Rattle.gc_console.specs.Served.{TellsServe}
use Rattle.gc_console.specs.Serves.{FailsByPorts, IsDoneAtEnd, TellsChecking, TellsExec}
use Rattle.gc_console.specs.declared.drill.Drilling.{Drilling}
use Rattle.gc_console.specs.declared.serve.Serving.{Serving}
use Rattle.gc_console.specs.declared.traces.Traces.{Traces}

-- the standard streams before a program reads and writes: the bytes that its input gives, and those that its messages have taken, where
-- they are known
pub record Opening : Type 0 where
  pub remaining : Option (List ℕ)
  pub told : Option (List ℕ)

-- standard streams of which this is known
abbrev pub opening : (remaining told : Option (List ℕ)) → Opening
opening remaining told = record { remaining = remaining; told = told }

-- the ports over these streams before the first read and write: no read was answered, no port has failed, and nothing was written yet
-- that is noted of the output
abbrev pub opening_ports : (remaining : Option (List ℕ)) → Ports
opening_ports remaining =
    record { remaining = remaining; reads = 0; ended = false; source_failed = false; taken = Some []; sink_failed = false }

-- a subcommand that began over these streams ended with this status, and `Does` says what it did. `new` are its ports at the end; what its
-- output and its messages have taken then are exactly the bytes of the traces
pub record EndsFrom (Does : EndSeen → Type 0) (begun : Opening) (traces : Traces) (status : ℕ) : Type 0 where
  pub new : Ports
  pub took : new.taken ≡ Some traces.told.bytes
  pub does : Does (end_seen (opening_ports begun.remaining) new status begun.told (Some traces.said.bytes))

-- `exec` answered the requests of its input: the scene was refused, or its instrument, the simulator where none is named, answered the
-- lines in order, and the output took exactly its replies. Status 0 exactly where the last read was the end of the input; without a
-- scene status 1 only where a port failed or all reads were used up
pub record DoesExec {Name : Type 0} (scene : Option Name) (seen : EndSeen) : Type 0 where
  pub told : TellsExec scene seen
  pub done : IsDoneAtEnd seen.old seen.new seen.status
  pub fault : scene ≡ None → FailsByPorts seen.old seen.new seen.status

-- `check` judged its input, as a log (`is_log`) or as a stream: the output took exactly its verdicts. Status 0 exactly where the last
-- read was the end of the input
pub record DoesCheck (is_log : Bool) (seen : EndSeen) : Type 0 where
  pub told : TellsChecking is_log seen
  pub done : IsDoneAtEnd seen.old seen.new seen.status

-- `drill` played the schedule of its input on the instrument of the scene, with the width and the totals that its words name; or the
-- scene or the width was refused, and then nothing was read or written. Status 0 only where the input was read to its end, and the
-- output took all that is written of the events
pub record DoesDrill (drilling : Drilling) (seen : EndSeen) : Type 0 where
  pub told : TellsDrill drilling seen
  pub width : 1 ≤ drilling.width → drilling.width ≤ WINDOW → seen.status ≤ 1
  pub done : seen.status ≡ 0 → PlaysScene drilling seen.old seen.new
  pub whole : seen.status ≡ 0 → ReadsWholeSource seen.old seen.new

-- ports whose sink is seen through an output that may show its bytes on a terminal: of a terminal it isn't known what it has taken
abbrev pub shown_ports : (at_terminal : Bool) → Ports → Ports
shown_ports at_terminal ports = record ports { taken = unless_shown at_terminal ports.taken }

-- what is seen of a subcommand whose output may be shown on a terminal
abbrev pub seen_shown : (at_terminal : Bool) → EndSeen → EndSeen
seen_shown at_terminal seen = record seen { old = shown_ports at_terminal seen.old; new = shown_ports at_terminal seen.new }

-- `loop` asked the commands of its input, one at a time, of the instrument of the scene in this program: the scene was refused, and
-- nothing was read or written; or the output took exactly the lines of the settlements, and how that ended is reported
abbrev pub DoesLoop : {Name : Type 0} → (at_terminal : Bool) → (scene : Option Name) → EndSeen → Type 0
DoesLoop at_terminal scene seen = TellsLoop scene (seen_shown at_terminal seen)

-- `ask` asked the commands of its input, one at a time, of an instrument at this place: the output took exactly the lines of the
-- settlements, and how that ended is reported
abbrev pub DoesAsk : (at_terminal : Bool) → Place → EndSeen → Type 0
DoesAsk at_terminal place seen = TellsAskAt place (seen_shown at_terminal seen)

-- `serve` served the instrument of the scene at its place, as its words say: each connection that was served had the instrument's replies
-- to its lines, in order; or nothing was served. `old` and `new` are what the messages had taken before and after
abbrev pub DoesServe : Standard → Serving → (old new : Option (List ℕ)) → (status : ℕ) → Type 0
DoesServe standard serving old new status = TellsServe standard serving status old new
