-- Which kind of call on the link an act is, this project's own, in terms of the act alone. An act is one call on the link, with
-- its result.
use Rattle.gc_station.specs.Common.{Moment, Act, Told, Untold, Put, Cut, Gave, Silent, Ended, Broke, Opened, Unopened}
use Rattle.std.specs.Prelude.{◌≡◌, ℕ, ◌<◌, List, length, Option, Some, None}

-- the moment that the act read, alone or together with bytes or silence; `None` if it read none
abbrev pub moment_in : Act → Option Moment
moment_in (Told m) = Some m
moment_in (Gave bytes m) = Some m
moment_in (Silent m) = Some m
moment_in _ = None

-- the act writes `bytes` on the link: all of them (`Put`), or fewer (`Cut`)
abbrev pub Puts : List ℕ → Act → Type 0
Puts bytes (Put out) = out ≡ bytes
Puts bytes (Cut out count) = (out ≡ bytes) × (count < length bytes)
Puts bytes _ = ⊥

-- the act reads the clock alone, or fails to
abbrev pub ReadsClock : Act → Type 0
ReadsClock (Told m) = Unit {0}
ReadsClock Untold = Unit {0}
ReadsClock _ = ⊥

-- the act makes a connection, or fails to
abbrev pub IsOpening : Act → Type 0
IsOpening Opened = Unit {0}
IsOpening Unopened = Unit {0}
IsOpening _ = ⊥

-- the act is a read, whatever came of it: bytes, nothing, the end of the connection, a failure, or a clock that can't be read
abbrev pub ReadsLink : Act → Type 0
ReadsLink (Gave bytes m) = Unit {0}
ReadsLink (Silent m) = Unit {0}
ReadsLink Ended = Unit {0}
ReadsLink Broke = Unit {0}
ReadsLink Untold = Unit {0}
ReadsLink _ = ⊥
