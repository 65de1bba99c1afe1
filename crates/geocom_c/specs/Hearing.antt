-- What bytes that are fed to a session come to: what the frame that they end settles, and what the call returns. This project's own.
use Rattle.geocom_c.specs.Common.{position, is_line_feed, frame_of, reply_at, Frame, Line, Cleared, Overlong, More, Asked, Settlement, Session, came, line_came, line_settles}
use Rattle.std.specs.Prelude.{◌≡◌, ◌↔◌, ◌<◌, ◌≤◌, ◌+◌, ◌++◌, ℕ, List, [], ◌∷◌, length, take, nat_lt, Some, None}
use Rattle.geocom_c.specs.Feeding.{FeedEffect, FeedFaultLeavesState, HasRoomToSettle, IsFedAs, WritesSettled, feed_effect, line_kind, unended}
use Rattle.geocom_c.specs.SessionState.{IsOfNoSession, IsOfSession, StandsForSession}
use Rattle.geocom_c.specs.declared.answers.GeocomHeard.{GeocomHeard}
use Rattle.geocom_c.specs.declared.header.TheConstants.{MORE, CLEARED, OVERLONG, NO_CLIENT, NO_ROOM}
use Rattle.geocom_c.specs.declared.session_state.GeocomSession.{GeocomSession}
use Rattle.geocom_c.specs.Rooms.{SettlingEffect}

-- the session s at the moment `now` by which these bytes came; without bytes nothing happens
abbrev pub at_feed : (now : ℕ) → (bytes : List ℕ) → Session → Session
at_feed now [] s = s
at_feed now (byte ∷ bytes) s = came now s

-- what a frame settles in the session s
abbrev pub frame_settles : Session → Frame → List (Settlement Asked)
frame_settles s (Line line) = line_settles line.items s
frame_settles s other = []

-- the session after a frame
abbrev pub session_past : Session → Frame → Session
session_past s (Line line) = line_came line.items s
session_past s other = s

-- the kind of a frame for the session s: a line that settles something is told from another reply and from a line that is none
abbrev pub frame_kind_in : Session → Frame → ℕ
frame_kind_in s (Line line) = line_kind (reply_at line.items) (nat_lt 0 (length (line_settles line.items s)))
frame_kind_in s Cleared = CLEARED
frame_kind_in s Overlong = OVERLONG
frame_kind_in s More = MORE

-- a frame was fed to the session s
abbrev pub IsFedTo : Session → Frame → FeedEffect → Type 0
IsFedTo s frame x = IsFedAs (frame_kind_in s frame) (frame_settles s frame) frame x

-- a frame was fed to the session s (`IsFedTo`), by `used` bytes, and the state is that of the session after the frame, with no byte of
-- a line
pub record FeedsSessionFrame (s : Session) (frame : Frame) (used : ℕ) (state : GeocomSession) (x : FeedEffect) : Type 0 where
  pub used_is : x.told.used ≡ used
  pub fed : IsFedTo s frame x
  pub stands : StandsForSession state (session_past s frame) []

-- if these bytes have no line feed, feeding them at the moment `now` to the session s uses all, as `told` says, and changes the state from
-- `old` to `new`, which keeps them
abbrev pub FeedsSessionUnended : Session → (now : ℕ) → (bytes : List ℕ) → (old new : GeocomSession) → (told : GeocomHeard) → Type 0
FeedsSessionUnended s now bytes old new told =
    (rest : List ℕ) → StandsForSession old s rest → position is_line_feed bytes ≡ None
    → (told ≡ unended (length bytes)) × StandsForSession new (at_feed now bytes s) (rest ++ bytes)

-- if these bytes have a line feed, feeding them at the moment `now` to the session s in the state `old` feeds the frame that the first one
-- ends, as `FeedsSessionFrame` says of the session at that moment, of the state `new` and of the feed
abbrev pub FeedsSessionLine : Session → (now : ℕ) → (bytes : List ℕ) → (old new : GeocomSession) → FeedEffect → Type 0
FeedsSessionLine s now bytes old new x =
    (rest : List ℕ) (at : ℕ) → StandsForSession old s rest → position is_line_feed bytes ≡ Some at
    → FeedsSessionFrame (at_feed now bytes s) (frame_of (rest ++ take at bytes)) (at + 1) new x

-- what a feed did and returned: with enough room the session is fed what the bytes come to by their first line feed; each fault comes
-- exactly for its reason, too little room before a state that is no session's; and after a fault nothing has changed
pub record IsFeed (now : ℕ) (bytes : List ℕ) (x : SettlingEffect GeocomHeard) : Type 0 where
  pub more : HasRoomToSettle x.before x.blank → (s : Session) → FeedsSessionUnended s now bytes x.old x.new x.told
  pub frame : HasRoomToSettle x.before x.blank → (s : Session) → FeedsSessionLine s now bytes x.old x.new (feed_effect x.told x.records x.text)
  pub used : (x.told.used ≤ length bytes) × (x.told.fault ≡ 0 → 0 < length bytes → 0 < x.told.used)
  pub room : (x.told.fault ≡ NO_ROOM) ↔ (HasRoomToSettle x.before x.blank → ⊥)
  pub astray : (x.told.fault ≡ NO_CLIENT) ↔ (HasRoomToSettle x.before x.blank × IsOfNoSession x.old)
  pub done : x.told.fault ≡ 0 → IsOfSession x.old
  pub refused : FeedFaultLeavesState x.told x.old x.new
  pub written : WritesSettled x.told.count x.before x.records x.blank x.text
