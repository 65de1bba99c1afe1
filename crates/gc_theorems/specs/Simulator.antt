-- The simulator as an instrument of which any procedure is asked, this project's own.
use Rattle.gc_theorems.specs.Common.{Asked, Table, Raw, Unknown, Handed, refusal_line, State, restarted}
use Rattle.std.specs.Prelude.{ℕ, true}
use Rattle.gc_theorems.specs.World.{Ends, ends_of}
use Rattle.gc_instrument.specs.Replying as calls

-- what the simulator does with a request: its state afterwards, its reply, and whether it executed the request. A request that is
-- no call of the table is refused (communication code 3081), which counts as executed, and changes nothing
abbrev pub simulator_handed : State → ℕ → Asked → Handed State
simulator_handed s id (Table call) = calls.handed s id call
simulator_handed s id (Raw raw) = record { state = s; reply = refusal_line id Unknown; executed = true }

-- the two ends: the simulated instrument, and a client that reads replies by their grammar
abbrev pub simulator_ends : Ends State
simulator_ends = ends_of simulator_handed restarted
