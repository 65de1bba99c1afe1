-- The calls that a link makes of the system, with what the system answered: this project's own. The rests between two calls and the
-- setting of a connection's options are no calls of these.
use Rattle.std.specs.Prelude.{◌≡◌, ℕ, Bool, List, ◌++◌}
use Rattle.std.specs.declared.net.socket_addr.SocketAddr.{SocketAddr}

-- the far end of a connection: an address, or the device at a path
pub data End : Type 0 where
  Address : (address : SocketAddr) → End
  Device : (path : List ℕ) → End

-- one call of the system, and its answer
pub data Call : Type 0 where
  -- the monotonic clock was read: so many nanoseconds since its start
  Monotonic : (nanos : ℕ) → Call
  -- the monotonic clock couldn't be read
  NoMonotonic : Call
  -- the clock of the time of day was read: so many nanoseconds since 1970
  Wall : (nanos : ℕ) → Call
  -- the clock of the time of day couldn't be read
  NoWall : Call
  -- a name with its port was looked up, and has these addresses
  Found : (name : List ℕ) (addresses : List SocketAddr) → Call
  -- a name with its port couldn't be looked up
  NotFound : (name : List ℕ) → Call
  -- a connection to this end was made
  Reached : (end : End) → Call
  -- no connection to this end could be made, or only one to itself, which was dropped at once
  NotReached : (end : End) → Call
  -- these bytes were handed to a write, which took the first `count` of them
  Took : (end : End) (bytes : List ℕ) (count : ℕ) → Call
  -- these bytes were handed to a write, which was interrupted, or had no room yet, and took none
  TookNone : (end : End) (bytes : List ℕ) → Call
  -- these bytes were handed to a write, which failed
  NotTaken : (end : End) (bytes : List ℕ) → Call
  -- a read gave these bytes: none where the other end has closed the connection
  Came : (end : End) (bytes : List ℕ) → Call
  -- a read gave nothing in its time
  CameNone : (end : End) → Call
  -- a read failed, or couldn't be given its time
  NotCome : (end : End) → Call
  -- the connection to this end was dropped
  Dropped : (end : End) → Call
  -- the system was asked whether the open device at this end is a terminal still: it is (`still`), or it isn't
  Asked : (end : End) (still : Bool) → Call
  -- a file was looked for at this path: it is there (`here`), or it isn't, or the system didn't say
  Looked : (path : List ℕ) (here : Bool) → Call
  -- the file at this path was read, which was changed last at the moment `changed`, in milliseconds since 1970, and has these bytes
  Kept : (path : List ℕ) (changed : ℕ) (bytes : List ℕ) → Call
  -- at this path there is no regular file of at most 64 bytes, or the system didn't give it, or didn't say when it was changed
  NotKept : (path : List ℕ) → Call

-- between these two lists of calls (`old` and `new`) some were made, and this fact holds of them
pub record Makes (old new : List Call) (Fact : List Call → Type 0) : Type 0 where
  pub calls : List Call
  pub added : new ≡ old ++ calls
  pub are : Fact calls
