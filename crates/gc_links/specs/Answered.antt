-- The note of each of the system's calls by what it answered: this project's own.
use Rattle.std.specs.Prelude.{ℕ, ◌≤◌, ⊤, List, length, take, Option, Some, None, Result, Ok, Err}
use Rattle.std.specs.Time.{instant_nanos, system_time_nanos}
use Rattle.std.specs.declared.time.Instant.{Instant}
use Rattle.std.specs.declared.time.SystemTime.{SystemTime}
use Rattle.std.specs.declared.net.socket_addr.SocketAddr.{SocketAddr}
use Rattle.std.specs.Net.ToAddrs.{HostAddrs, host_addrs}
use Rattle.gc_links.specs.Calls.{End, Call, Address}
use Rattle.gc_links.specs.declared.system.files.SmallFile.{SmallFile}
use Rattle.gc_links.specs.declared.system.sockets.Wired.{Wired}
use Rattle.gc_links.specs.declared.system.sockets.Written.{Written}
use Rattle.gc_links.specs.declared.system.sockets.Heard.{Heard}
use Rattle.gc_links.specs.Calls as call
use Rattle.gc_links.specs.declared.system.sockets.Written.TheVariants as wrote
use Rattle.gc_links.specs.declared.system.sockets.Heard.TheVariants as heard

-- the call that read the monotonic clock, by its answer
abbrev pub monotonic_call : {E : Type 0} → Result Instant E → Call
monotonic_call (Ok instant) = call.Monotonic (instant_nanos instant)
monotonic_call (Err _) = call.NoMonotonic

-- the call that read the clock of the time of day, by its answer
abbrev pub wall_call : {E : Type 0} → Result SystemTime E → Call
wall_call (Ok time) = call.Wall (system_time_nanos time)
wall_call (Err _) = call.NoWall

-- the call that looked up this name, by its answer
abbrev pub look_up_call : {E : Type 0} → (name : List ℕ) → Result HostAddrs E → Call
look_up_call name (Ok addresses) = call.Found name (host_addrs addresses)
look_up_call name (Err _) = call.NotFound name

-- the call that connected to this address, by its answer
abbrev pub connect_call : {X E : Type 0} → SocketAddr → Result X E → Call
connect_call address (Ok _) = call.Reached (Address address)
connect_call address (Err _) = call.NotReached (Address address)

-- the call that wrote these bytes to this end, by its answer
abbrev pub write_call : End → (bytes : List ℕ) → Written → Call
write_call end bytes (wrote.Took n) = call.Took end bytes n
write_call end bytes wrote.TookNone = call.TookNone end bytes
write_call end bytes wrote.Failed = call.NotTaken end bytes

-- the call that read from this end, by its answer and the buffer after it
abbrev pub read_call : End → Heard → (buf : List ℕ) → Call
read_call end (heard.Came n) buf = call.Came end (take n buf)
read_call end heard.CameNone buf = call.CameNone end
read_call end heard.Failed buf = call.NotCome end

-- the bytes of a small file
abbrev pub file_bytes : SmallFile → List ℕ
file_bytes file = take file.len file.bytes

-- the call that read the file at this path, by its answer
abbrev pub file_call : (path : List ℕ) → Option SmallFile → Call
file_call path (Some file) = call.Kept path file.changed (file_bytes file)
file_call path None = call.NotKept path

-- a write took no more bytes than it was handed
abbrev pub TakesAtMost : Written → (bytes : List ℕ) → Type 0
TakesAtMost (wrote.Took n) bytes = n ≤ length bytes
TakesAtMost _ bytes = ⊤

-- a read gave no more bytes than the buffer has room for
abbrev pub IsWithin : Heard → (buf : List ℕ) → Type 0
IsWithin (heard.Came n) buf = n ≤ length buf
IsWithin _ buf = ⊤

-- the end that a connection is to
abbrev pub wired_end : Wired → End
wired_end wired = Address wired.address

-- the end that the open connection is to, if one is open
abbrev pub open_end : Option Wired → Option End
open_end (Some wired) = Some (wired_end wired)
open_end None = None
