-- Not cited by theorems: what the functions of a queue do to the lines in it, the one that was sent first in front.
use Rattle.std.specs.Prelude.{◌≡◌, ◌⊎◌, ℕ, List, [], ◌∷◌, ◌++◌, map, Some}
use Rattle.gc_lines.specs.Prelude.{with_end}
use Rattle.gc_rehearsal.specs.Carrying.{HasPlayed, IsRepeated, Lines, IsSentOrLost}
use Rattle.gc_rehearsal.specs.declared.carried.Traffic.{Traffic}
use Rattle.gc_rehearsal.specs.declared.flight.Flight.{Flight}

-- the lines of a queue
abbrev pub texts : List Flight → List (List ℕ)
texts flights = map (λ f. f.line.items) flights

-- the queue is the same, or has this line at its back
abbrev pub MayAdd : (old : List Flight) → Flight → (new : List Flight) → Type 0
MayAdd old flight new = (new ≡ old) ⊎ (new ≡ old ++ flight ∷ [])

-- the queue is the same, or has one more line at its back, and these bytes are that line with its CR LF
abbrev pub MayAddLine : (old : List Flight) → (bytes : List ℕ) → (new : List Flight) → Type 0
MayAddLine old bytes new = (new ≡ old) ⊎ ((flight : Flight) × (bytes ≡ with_end flight.line.items) × (new ≡ old ++ flight ∷ []))

-- the queue is the same, or has its last line twice
abbrev pub MayRepeat : (old new : List Flight) → Type 0
MayRepeat old new = (new ≡ old) ⊎ IsRepeated (texts old) (texts new)

-- the lines of the queue are the same, or have this reply at their back, if it is one line
abbrev pub MaySend : (old : List Flight) → (reply : List ℕ) → (new : List Flight) → Type 0
MaySend old reply new = IsSentOrLost (texts old) (Some reply) (texts new)

-- the lines in flight, and the instrument
abbrev pub lines_of : Traffic → Lines
lines_of traffic = record { up = texts traffic.up.items; down = texts traffic.down.items; state = traffic.instrument }

-- the request in front was taken from those in flight, and the instrument played it (`HasPlayed`)
pub record IsHandedOver (old new : Traffic) : Type 0 where
  pub request : Flight
  pub front : old.up.items ≡ request ∷ new.up.items
  pub plays : HasPlayed request.line.items (lines_of old) (lines_of new)

-- the lines in flight and the instrument are the same; or the request in front was handed to the instrument (`IsHandedOver`)
abbrev pub MayHandOver : (old new : Traffic) → Type 0
MayHandOver old new = (lines_of new ≡ lines_of old) ⊎ IsHandedOver old new
