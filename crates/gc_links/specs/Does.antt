-- What the system's calls of each act of a link are: this project's own.
use Rattle.std.specs.Prelude.{◌≡◌, ℕ, ◌<◌, ◌≤◌, ⊤, List, [], ◌∷◌, ◌++◌, length, drop, All, Option, Some, None}
use Rattle.gc_links.specs.declared.link.Moment.{Moment}
use Rattle.gc_links.specs.Acts.{Act, Told, Untold, Put, Cut, Gave, Silent, Ended, Broke}
use Rattle.gc_links.specs.Calls.{End, Call, Monotonic, Wall, Took, TookNone, NotTaken, Came, CameNone, NotCome}
use Rattle.gc_links.specs.Clocks.{ReadsClocks, MissesClocks}

-- these calls write a front of these bytes over the connection to this end, without a gap, and `rest` is what is left of them. Each
-- write is handed all that the writes before it left
abbrev pub Sends : (end : End) (bytes : List ℕ) (calls : List Call) (rest : List ℕ) → Type 0
Sends end bytes [] rest = rest ≡ bytes
Sends end bytes (Took to handed count ∷ calls) rest =
    (to ≡ end) × (handed ≡ bytes) × (0 < count) × (count ≤ length bytes) × Sends end (drop count bytes) calls rest
Sends end bytes (TookNone to handed ∷ calls) rest = (to ≡ end) × (handed ≡ bytes) × Sends end bytes calls rest
Sends end bytes (_ ∷ calls) rest = ⊥

-- this write is the last that is tried of these bytes: it failed, it took none, or it was interrupted once too often
pub data GivesUp (end : End) (bytes : List ℕ) (call : Call) : Type 0 where
  fails : call ≡ NotTaken end bytes → GivesUp end bytes call
  takes_none : call ≡ Took end bytes 0 → GivesUp end bytes call
  is_interrupted : call ≡ TookNone end bytes → GivesUp end bytes call

-- these calls wrote the first `count` of these bytes over the connection to this end, and then one write more gave up
pub record PutsFront (end : End) (bytes : List ℕ) (count : ℕ) (calls : List Call) : Type 0 where
  pub sending : List Call
  pub last : Call
  pub sends : Sends end bytes sending (drop count bytes)
  pub gives_up : GivesUp end (drop count bytes) last
  pub calls_are : calls ≡ sending ++ last ∷ []

-- this call was made while nothing came: a reading of a clock, or a read of the connection that gave nothing
abbrev pub IsIdle : End → Call → Type 0
IsIdle end (Monotonic _) = ⊤
IsIdle end (Wall _) = ⊤
IsIdle end (CameNone from) = from ≡ end
IsIdle end _ = ⊥

-- nothing came, and the last of these calls is this one
pub record EndsBy (end : End) (last : Call) (calls : List Call) : Type 0 where
  pub idle : List Call
  pub was_idle : All (IsIdle end) idle
  pub calls_are : calls ≡ idle ++ last ∷ []

-- nothing came, then a read gave these bytes, at least one, and then the clocks gave this moment
pub record Gives (start : ℕ) (end : End) (bytes : List ℕ) (moment : Moment) (calls : List Call) : Type 0 where
  pub idle : List Call
  pub clocks : List Call
  pub was_idle : All (IsIdle end) idle
  pub some : 0 < length bytes
  pub reads : ReadsClocks start moment clocks
  pub calls_are : calls ≡ idle ++ Came end bytes ∷ clocks

-- nothing came, then the clocks gave this moment, and then one read more gave nothing
pub record IsSilent (start : ℕ) (end : End) (moment : Moment) (calls : List Call) : Type 0 where
  pub idle : List Call
  pub clocks : List Call
  pub was_idle : All (IsIdle end) idle
  pub reads : ReadsClocks start moment clocks
  pub calls_are : calls ≡ idle ++ clocks ++ CameNone end ∷ []

-- nothing came, and then a clock couldn't be read; or a read gave bytes, which are lost, as a clock couldn't be read after it
pub data Misses (end : End) (calls : List Call) : Type 0 where
  without_bytes : (idle : List Call) → (clocks : List Call) → All (IsIdle end) idle → MissesClocks clocks
      → calls ≡ idle ++ clocks → Misses end calls
  with_bytes : (idle : List Call) → (bytes : List ℕ) → (clocks : List Call) → All (IsIdle end) idle → 0 < length bytes
      → MissesClocks clocks → calls ≡ idle ++ Came end bytes ∷ clocks → Misses end calls

-- these calls did this act over the connection to this end, which was open, and stays open. `start` is what the monotonic clock
-- was read as when the link was made
abbrev pub DoesConnected : (start : ℕ) (end : End) → Act → List Call → Type 0
DoesConnected start end (Told moment) calls = ReadsClocks start moment calls
DoesConnected start end Untold calls = Misses end calls
DoesConnected start end (Put bytes) calls = Sends end bytes calls []
DoesConnected start end (Cut bytes count) calls = PutsFront end bytes count calls
DoesConnected start end (Gave bytes moment) calls = Gives start end bytes moment calls
DoesConnected start end (Silent moment) calls = IsSilent start end moment calls
DoesConnected start end Ended calls = EndsBy end (Came end []) calls
DoesConnected start end Broke calls = EndsBy end (NotCome end) calls
DoesConnected start end _ calls = ⊥

-- these calls did this act while no connection was open
abbrev pub DoesUnconnected : (start : ℕ) → Act → List Call → Type 0
DoesUnconnected start (Told moment) calls = ReadsClocks start moment calls
DoesUnconnected start Untold calls = MissesClocks calls
DoesUnconnected start (Cut bytes count) calls = (count ≡ 0) × (calls ≡ [])
DoesUnconnected start (Silent moment) calls = ReadsClocks start moment calls
DoesUnconnected start _ calls = ⊥

-- these calls did this act, which neither opens nor closes a connection, over the connection to the end `over`, or without one
abbrev pub DoesOver : (start : ℕ) (over : Option End) → Act → List Call → Type 0
DoesOver start (Some end) act calls = DoesConnected start end act calls
DoesOver start None act calls = DoesUnconnected start act calls
