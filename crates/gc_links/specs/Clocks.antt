-- What a moment of a link is by the system's clocks: this project's own.
use Rattle.std.specs.Prelude.{◌≡◌, ℕ, ◌-◌, ◌/◌, ◌^◌, ◌<◌, min, false, List, [], ◌∷◌, Result, Ok, Err}
use Rattle.gc_values.specs.Prelude.{no_values}
use Rattle.gc_links.specs.declared.link.Came.{Came}
use Rattle.gc_links.specs.declared.link.Came.TheVariants.{Bytes, End, NoMoment}
use Rattle.gc_links.specs.declared.link.Moment.{Moment}
use Rattle.gc_links.specs.Calls.{Call, Monotonic, NoMonotonic, Wall, NoWall}

-- nanoseconds in milliseconds, rounded down, as a machine number of 64 bits holds them
abbrev pub in_millis : (nanos : ℕ) → ℕ
in_millis nanos = min (nanos / 1_000_000) (2 ^ 64 - 1)

-- the moment at which the monotonic clock was read as `now`, and the time of day as `utc`, both in nanoseconds, of a link that was
-- made when the monotonic clock was read as `start`. Where that clock went back behind the start, no time has gone by. Nothing is
-- known of the end of the run, nor of values of files
abbrev pub moment_at : (start now utc : ℕ) → Moment
moment_at start now utc = record { elapsed = in_millis (now - start); utc = in_millis utc; stops = false; touched = 0; values = no_values }

-- these calls read both clocks, the monotonic one first, and this is the moment
pub record ReadsClocks (start : ℕ) (moment : Moment) (calls : List Call) : Type 0 where
  pub now : ℕ
  pub utc : ℕ
  pub calls_are : calls ≡ Monotonic now ∷ Wall utc ∷ []
  pub moment_is : moment ≡ moment_at start now utc

-- these calls tried to read both clocks, the monotonic one first, and one couldn't be read
pub data MissesClocks (calls : List Call) : Type 0 where
  no_monotonic : calls ≡ NoMonotonic ∷ [] → MissesClocks calls
  no_wall : (now : ℕ) → calls ≡ Monotonic now ∷ NoWall ∷ [] → MissesClocks calls

-- what the calls of a reading of the clocks are, by its result
abbrev pub ClocksGive : {E : Type 0} → (start : ℕ) → Result Moment E → List Call → Type 0
ClocksGive start (Ok moment) calls = ReadsClocks start moment calls
ClocksGive start (Err _) calls = MissesClocks calls

-- the calls of the clocks after a read that gave `n` bytes, by the outcome that is told: none at the end of the stream
abbrev pub ClocksAfter : (start : ℕ) (n : ℕ) → Came → (calls : List Call) → Type 0
ClocksAfter start n (Bytes m moment) calls = (m ≡ n) × (0 < n) × ReadsClocks start moment calls
ClocksAfter start n End calls = (n ≡ 0) × (calls ≡ [])
ClocksAfter start n NoMoment calls = (0 < n) × MissesClocks calls
ClocksAfter start n _ calls = ⊥
