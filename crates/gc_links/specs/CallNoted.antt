-- The call for which each note of the system's calls stands: this project's own.
use Rattle.std.specs.Time.{instant_nanos, system_time_nanos}
use Rattle.std.specs.Net.ToAddrs.{host_addrs}
use Rattle.gc_links.specs.Calls.{End, Call}
use Rattle.gc_links.specs.declared.calls.FarEnd.{FarEnd}
use Rattle.gc_links.specs.declared.calls.FarEnd.TheVariants.{Address, Device}
use Rattle.gc_links.specs.declared.calls.CallNote.{CallNote}
use Rattle.gc_links.specs.declared.calls.CallNote.TheVariants.{Monotonic, NoMonotonic, Wall, NoWall, Found, NotFound, Reached, NotReached, Took, TookNone, NotTaken, Came, CameNone, NotCome, Dropped, Asked, Looked, Kept, NotKept}
use Rattle.gc_links.specs.Calls as call

-- the end that this value names
abbrev pub end_of : FarEnd → End
end_of (Address address) = call.Address address
end_of (Device path) = call.Device path.now

-- the call that a note stands for
abbrev pub call_of : CallNote → Call
call_of (Monotonic instant) = call.Monotonic (instant_nanos instant)
call_of NoMonotonic = call.NoMonotonic
call_of (Wall time) = call.Wall (system_time_nanos time)
call_of NoWall = call.NoWall
call_of (Found name addresses) = call.Found name.now (host_addrs addresses.now)
call_of (NotFound name) = call.NotFound name.now
call_of (Reached end) = call.Reached (end_of end)
call_of (NotReached end) = call.NotReached (end_of end)
call_of (Took end bytes count) = call.Took (end_of end) bytes.now count
call_of (TookNone end bytes) = call.TookNone (end_of end) bytes.now
call_of (NotTaken end bytes) = call.NotTaken (end_of end) bytes.now
call_of (Came end bytes) = call.Came (end_of end) bytes.now
call_of (CameNone end) = call.CameNone (end_of end)
call_of (NotCome end) = call.NotCome (end_of end)
call_of (Dropped end) = call.Dropped (end_of end)
call_of (Asked end still) = call.Asked (end_of end) still
call_of (Looked path here) = call.Looked path.now here
call_of (Kept path changed bytes) = call.Kept path.now changed bytes.now
call_of (NotKept path) = call.NotKept path.now
