-- However bytes are cut into deliveries, what they leave is the same: this project's own.
use Rattle.gc_world.specs.Common.{State}
use Rattle.std.specs.Prelude.{◌≡◌, ℕ, ◌+◌, ◌<◌, List, [], ◌∷◌, ◌++◌, length}
use Rattle.gc_world.specs.declared.direction.Direction.{Direction}
use Rattle.gc_world.specs.declared.event.Event.{Event}
use Rattle.gc_world.specs.Clients.{streamed}
use Rattle.gc_world.specs.Directions.{bytes, lines}

-- some bytes of a direction and some more, at least one each, leave the same streams in one event as in two, if after the first
-- of the two a line is in flight in this direction
abbrev pub BytesAdd : Direction → Type 0
BytesAdd d =
    (width : ℕ) (opening : State) (events : List Event) (m n : ℕ) →
    0 < length (lines d (streamed width opening (events ++ bytes d (m + 1) ∷ [])).world.wire) →
    streamed width opening (events ++ bytes d (m + 1 + (n + 1)) ∷ []) ≡ streamed width opening (events ++ bytes d (m + 1) ∷ bytes d (n + 1) ∷ [])

-- if an event of some bytes, at least one, leaves no line in flight in its direction, an event of as many or more bytes in its
-- place leaves the same streams
abbrev pub BytesEnd : Direction → Type 0
BytesEnd d =
    (width : ℕ) (opening : State) (events : List Event) (m n : ℕ) →
    lines d (streamed width opening (events ++ bytes d (m + 1) ∷ [])).world.wire ≡ [] →
    streamed width opening (events ++ bytes d (m + 1 + n) ∷ []) ≡ streamed width opening (events ++ bytes d (m + 1) ∷ [])
