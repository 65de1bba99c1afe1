-- The acts of a link: each call adds its result, in the order of the calls. This project's own.
use Rattle.std.specs.Prelude.{◌≡◌, ℕ, ◌<◌, ◌≤◌, List, ◌++◌, length, take, Option, Some, None, Result, Ok, Err, IfOk, IfSome}
use Rattle.gc_links.specs.declared.link.Came.{Came}
use Rattle.gc_links.specs.declared.link.Came.TheVariants.{Bytes, Silence, End, Failure, NoMoment}
use Rattle.gc_links.specs.declared.link.Moment.{Moment}

-- one call of a link, and its result
pub data Act : Type 0 where
  -- the clock was read
  Told : (moment : Moment) → Act
  -- the clock couldn't be read, by itself or in a read of the link; what that read gave isn't known then
  Untold : Act
  -- these bytes went out whole
  Put : (bytes : List ℕ) → Act
  -- of these bytes the first `count` went out, and the connection failed, or there was none
  Cut : (bytes : List ℕ) (count : ℕ) → Act
  -- a read gave these bytes, and then it was this moment
  Gave : (bytes : List ℕ) (moment : Moment) → Act
  -- a read gave no byte, as none had come by this moment
  Silent : (moment : Moment) → Act
  -- the other end closed the connection, or the device is at its end, as a read said
  Ended : Act
  -- a read failed
  Broke : Act
  -- the connection was closed
  Closed : Act
  -- a new connection was made
  Opened : Act
  -- no new connection could be made
  Unopened : Act

-- where the acts of a link were known before a call (`old`), they are known after it (`new`), and are those before and then
-- `acts`. Of a link whose acts aren't known (`None`) nothing is claimed
abbrev pub AddsActs : (old new : Option (List Act)) (acts : List Act) → Type 0
AddsActs None new acts = Unit {0}
AddsActs (Some xs) None acts = ⊥
AddsActs (Some xs) (Some ys) acts = ys ≡ xs ++ acts

-- the act of a reading of the clock, by its result
abbrev pub clock_act : {E : Type 0} → Result Moment E → Act
clock_act (Ok moment) = Told moment
clock_act (Err _) = Untold

-- the act of a write of these bytes, by its result
abbrev pub put_act : Result (Unit {0}) ℕ → (bytes : List ℕ) → Act
put_act (Ok _) bytes = Put bytes
put_act (Err n) bytes = Cut bytes n

-- the act of a read, by its outcome and the buffer after it
abbrev pub read_act : Came → (buf : List ℕ) → Act
read_act (Bytes n moment) buf = Gave (take n buf) moment
read_act (Silence moment) buf = Silent moment
read_act End buf = Ended
read_act Failure buf = Broke
read_act NoMoment buf = Untold

-- the act of an opening, by its result
abbrev pub open_act : {X E : Type 0} → Result X E → Act
open_act (Ok _) = Opened
open_act (Err _) = Unopened

-- where a read gave bytes, there is at least one, and no more than the buffer has room for
abbrev pub CameWithin : Came → (buf : List ℕ) → Type 0
CameWithin (Bytes n moment) buf = (0 < n) × (n ≤ length buf)
CameWithin _ buf = Unit {0}

-- where a read that may also give nothing (`None`) gave bytes, they are no more than the buffer has room for
abbrev pub GivesAtMost : {E : Type 0} → Result (Option ℕ) E → (buf : List ℕ) → Type 0
GivesAtMost result buf = IfOk result (λ given. IfSome given (λ n. n ≤ length buf))

-- where a write of these bytes failed, fewer than all of them went out
abbrev pub IsPartIfErr : Result (Unit {0}) ℕ → (bytes : List ℕ) → Type 0
IsPartIfErr (Ok _) bytes = Unit {0}
IsPartIfErr (Err n) bytes = n < length bytes
