-- The fault that the program reports if a run ends for a cause, this project's own.
use Rattle.gc_station.specs.Common.{RunFault}
use Rattle.std.specs.Prelude.{Option, Some, None}
use Rattle.gc_station.specs.declared.cause.Cause.{Cause}
use Rattle.gc_station.specs.declared.cause.Cause.TheVariants.{Done, Dead, Read, End, Write, Clock, Open, Turns, Stale, Stopped, SetUp}
use Rattle.gc_texts.specs.declared.fault.RunFault.TheVariants as fault

-- the fault that a run reports if it stopped for this cause; `None` if the run is done, or its end was asked for
abbrev pub fault_of_cause : Cause → Option RunFault
fault_of_cause Done = None
fault_of_cause Dead = Some fault.Mute
fault_of_cause Read = Some fault.Read
fault_of_cause End = Some fault.LinkClosed
fault_of_cause (Write requests bytes) = Some (fault.Write requests bytes)
fault_of_cause Clock = Some fault.Clock
fault_of_cause Open = Some fault.Socket
fault_of_cause SetUp = Some fault.SetUp
fault_of_cause Turns = Some fault.TooManyReads
fault_of_cause Stale = Some fault.Stale
fault_of_cause Stopped = None
