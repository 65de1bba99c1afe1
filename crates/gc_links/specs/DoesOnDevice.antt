-- What the system's calls of each act of a link over a device are: this project's own.
use Rattle.std.specs.Prelude.{◌≡◌, ℕ, true, false, List, [], ◌∷◌, ◌++◌}
use Rattle.gc_links.specs.Acts.{Act, Closed, Opened, Unopened}
use Rattle.gc_links.specs.Calls.{End, Device, Call, Monotonic, Reached, NotReached, Asked, Dropped}
use Rattle.gc_links.specs.Does.{DoesOver}
use Rattle.gc_links.specs.Holds.{Hold, Nothing, Aside, Linked, linked_end, hold_after, ended, ending}
use Rattle.gc_links.specs.Meant.{AreMeant}

-- these calls left no device open: none was, or the one that was held aside isn't a terminal any more, and was dropped
pub data LeavesNone (hold : Hold) (calls : List Call) : Type 0 where
  none : hold ≡ Nothing → calls ≡ [] → LeavesNone hold calls
  dropped : (end : End) → hold ≡ Aside end → calls ≡ Asked end false ∷ Dropped end ∷ [] → LeavesNone hold calls

-- these calls took the device that was held aside, which is a terminal still; or opened the one at this path
pub data Takes (path : List ℕ) (hold : Hold) (calls : List Call) (after : Hold) : Type 0 where
  again : (end : End) → hold ≡ Aside end → calls ≡ Asked end true ∷ [] → after ≡ Linked end → Takes path hold calls after
  anew : (left : List Call) → LeavesNone hold left → calls ≡ left ++ Reached (Device path) ∷ [] → after ≡ Linked (Device path)
      → Takes path hold calls after

-- no device was held aside that is a terminal still, and the one at this path couldn't be opened
pub record TakesNone (path : List ℕ) (hold : Hold) (calls : List Call) (after : Hold) : Type 0 where
  pub left : List Call
  pub leaves : LeavesNone hold left
  pub calls_are : calls ≡ left ++ NotReached (Device path) ∷ []
  pub after_is : after ≡ Nothing

-- these calls did this act of a link to the device at a path, which was made when the monotonic clock was read as `start`. `before`
-- and `after` are what the link has of its device before it and after it. An opening ends the old connection first
abbrev pub DoesOnDevice : (path : List ℕ) (start : ℕ) (before : Hold) → Act → List Call → (after : Hold) → Type 0
DoesOnDevice path start before Closed calls after = (calls ≡ ending before) × (after ≡ ended before)
DoesOnDevice path start before Opened calls after =
    (taking : List Call) × (calls ≡ ending before ++ taking) × Takes path (ended before) taking after
DoesOnDevice path start before Unopened calls after =
    (taking : List Call) × (calls ≡ ending before ++ taking) × TakesNone path (ended before) taking after
DoesOnDevice path start before act calls after = (after ≡ hold_after act before) × DoesOver start (linked_end before) act calls

-- the device at a path was opened and is held aside, or couldn't be opened
pub data HoldsFirst (path : List ℕ) (calls : List Call) (begun : Hold) : Type 0 where
  held : calls ≡ Reached (Device path) ∷ [] → begun ≡ Aside (Device path) → HoldsFirst path calls begun
  unheld : calls ≡ NotReached (Device path) ∷ [] → begun ≡ Nothing → HoldsFirst path calls begun

-- the system's calls of a link to the device at a path are those of its making, which read the clock and then opened the device or
-- couldn't (`HoldsFirst`), and of its acts, as `AreMeant` says. `now` is what the link has of its device now
pub record AreMeantOnDevice (path : List ℕ) (start : ℕ) (acts : List Act) (calls : List Call) (now : Hold) : Type 0 where
  pub opening : List Call
  pub begun : Hold
  pub holds : HoldsFirst path opening begun
  pub are : AreMeant (DoesOnDevice path start) (Monotonic start ∷ opening) begun acts calls now
