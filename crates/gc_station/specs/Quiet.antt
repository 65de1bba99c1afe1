-- Which acts are requests, stay on a connection, or are quiet: this project's own, in terms of the acts alone. An act is one
-- call on the link, with its result.
use Rattle.gc_station.specs.Common.{AllByRecursion, Moment, Act, Told, Put, Cut, Silent, Closed, Opened, Unopened}
use Rattle.std.specs.Prelude.{◌≡◌, ◌≢◌, ℕ, ◌-◌, ◌≤◌, List, [], ◌∷◌, ◌++◌, IsSome, IsSomeAnd}
use Rattle.gc_station.specs.declared.progress.Action.{Action}
use Rattle.gc_station.specs.declared.progress.Action.TheVariants.{Prepare, Send, Flush}
use Rattle.gc_station.specs.ActKinds.{moment_in}

-- one of these acts is the last, and `Holds` is true of the acts before it and of it
abbrev pub HasLast : List Act → (Holds : (earlier : List Act) → Act → Type 0) → Type 0
HasLast acts Holds = (earlier : List Act) × (last : Act) × (acts ≡ earlier ++ last ∷ []) × Holds earlier last

-- the act sends a request, whole or in part: bytes that aren't the lone line feed
abbrev pub SendsRequest : Act → Type 0
SendsRequest (Put bytes) = bytes ≢ 10 ∷ []
SendsRequest (Cut bytes count) = bytes ≢ 10 ∷ []
SendsRequest _ = ⊥

-- the action sends a request of the client: a command, or by `Flush` a null procedure, but none of a synchronization
abbrev pub IsAsking : Action → Type 0
IsAsking Prepare = Unit {0}
IsAsking Send = Unit {0}
IsAsking Flush = Unit {0}
IsAsking _ = ⊥

-- the act reads the moment `elapsed`, alone or together with bytes or silence
abbrev pub TellsMoment : ℕ → Act → Type 0
TellsMoment elapsed act = IsSomeAnd (moment_in act) (λ m. m.elapsed ≡ elapsed)

-- the act reads the clock, or is a read that gave bytes or nothing. So it reads a moment, sends nothing, and leaves the
-- connection as it is
abbrev pub IsListening : Act → Type 0
IsListening act = IsSome (moment_in act)

-- the act is a read that gave nothing, or reads the clock alone
abbrev pub IsSilent : Act → Type 0
IsSilent (Silent m) = Unit {0}
IsSilent (Told m) = Unit {0}
IsSilent _ = ⊥

-- the act doesn't close the connection
abbrev pub KeepsOpen : Act → Type 0
KeepsOpen Closed = ⊥
KeepsOpen _ = Unit {0}

-- the act doesn't close the connection, and doesn't make one or try to
abbrev pub StaysConnected : Act → Type 0
StaysConnected Closed = ⊥
StaysConnected Opened = ⊥
StaysConnected Unopened = ⊥
StaysConnected _ = Unit {0}

-- `acts` begin with a quiet time of `quiet` milliseconds, before anything is sent. First bytes may come (`drain`); then `start`
-- reads the moment `from`; and the acts after it (`silence`) are reads that give nothing, and readings of the clock, until a read
-- that gives nothing reads a moment (`last`) at least `quiet` milliseconds later by the clock. A quiet time of 0 has always passed,
-- also if the clock went back
pub record IsQuietFirst (quiet : ℕ) (acts : List Act) : Type 0 where
  pub drain : List Act
  pub start : Act
  pub from : ℕ
  pub silence : List Act
  pub last : Moment
  pub behind : List Act
  pub order : acts ≡ drain ++ start ∷ (silence ++ Silent last ∷ behind)
  pub drains : AllByRecursion IsListening drain
  pub starts : TellsMoment from start
  pub silent : AllByRecursion IsSilent silence
  pub long : quiet ≤ last.elapsed - from
