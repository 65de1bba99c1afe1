-- What a frame that is fed comes to for a client, this project's own: its kind, what it settles, and what the call returns.
use Rattle.geocom_c.specs.Common.{position, LineFault, line_fault_number, is_line_feed, frame_of, reply_at, ReplyFields, Frame, Line, Cleared, Overlong, More, Asked, Settlement, Windowed, heard, hears_line, fits, restarts, WINDOW}
use Rattle.std.specs.Prelude.{◌≡◌, ◌≢◌, ◌<◌, ◌≤◌, ◌+◌, ◌++◌, ℕ, Bool, true, false, List, [], length, take, Result, Ok, Err, Some, None}
use Rattle.geocom_c.specs.FirstAre.{FirstAre}
use Rattle.geocom_c.specs.Rooms.{KeepsLength, WritesFirst}
use Rattle.geocom_c.specs.Settled.{IsRecord}
use Rattle.geocom_c.specs.State.{IfOfClient, StandsForClient}
use Rattle.geocom_c.specs.declared.answers.GeocomCount.{GeocomCount}
use Rattle.geocom_c.specs.declared.answers.GeocomHeard.{GeocomHeard}
use Rattle.geocom_c.specs.declared.header.TheConstants.{TEXT_ROOM, MORE, SETTLED, STRAY, UNREAD, CLEARED, OVERLONG}
use Rattle.geocom_c.specs.declared.settled.GeocomSettlement.{GeocomSettlement}
use Rattle.geocom_c.specs.declared.state.GeocomClient.{GeocomClient}

-- there is room for what a line can settle
pub record HasRoomToSettle (settlements : List GeocomSettlement) (text : List ℕ) : Type 0 where
  pub for_records : WINDOW ≤ length settlements
  pub for_text : TEXT_ROOM ≤ length text

-- the kind of a line, by how it reads as a reply and by whether it fits an outstanding request
abbrev pub line_kind : Result ReplyFields LineFault → (fit : Bool) → ℕ
line_kind (Ok reply) true = SETTLED
line_kind (Ok reply) false = STRAY
line_kind (Err fault) fit = UNREAD

-- the kind of a frame, for the client `c`
abbrev pub frame_kind : Windowed Asked → Frame → ℕ
frame_kind c (Line line) = line_kind (reply_at line.items) (fits c.ids (heard line.items))
frame_kind c Cleared = CLEARED
frame_kind c Overlong = OVERLONG
frame_kind c More = MORE

-- the number of a line's fault if it is no reply, else 0
abbrev pub fault_number_in : Result ReplyFields LineFault → ℕ
fault_number_in (Ok reply) = 0
fault_number_in (Err fault) = line_fault_number fault

-- the number of a frame's line fault; 0 for a frame without one
abbrev pub frame_fault : Frame → ℕ
frame_fault (Line line) = fault_number_in (reply_at line.items)
frame_fault other = 0

-- what a frame settles
abbrev pub settled_by : Windowed Asked → Frame → List (Settlement Asked)
settled_by c (Line line) = (hears_line c.ids line.items).settlements
settled_by c other = []

-- the client after a frame
abbrev pub client_past : Windowed Asked → Frame → Windowed Asked
client_past c (Line line) = record c { ids = (hears_line c.ids line.items).client }
client_past c other = c

-- if a line settled at least one request, by this count, it is at the front of the text
abbrev pub IsInFront : Frame → (count : ℕ) → (text : List ℕ) → Type 0
IsInFront (Line line) count text = 0 < count → take (length line.items) text ≡ line.items
IsInFront other count text = Unit {0}

-- what a feed returned, and the records and the text after it
pub record FeedEffect : Type 0 where
  pub told : GeocomHeard
  pub records : List GeocomSettlement
  pub text : List ℕ

-- the feed that returned `told`, and left these records and this text
abbrev pub feed_effect : (told : GeocomHeard) → (records : List GeocomSettlement) → (text : List ℕ) → FeedEffect
feed_effect told records text = record { told = told; records = records; text = text }

-- a frame of this kind, which settles this, was fed: the call has no fault; what it returned has the frame's kind, its line fault and the
-- number of its settlements; a record says of each settlement how the request ended; and a line that settled is at the front of the text
pub record IsFedAs (number : ℕ) (settled : List (Settlement Asked)) (frame : Frame) (x : FeedEffect) : Type 0 where
  pub fault : x.told.fault ≡ 0
  pub kind : x.told.kind ≡ number
  pub line_fault : x.told.line_fault ≡ frame_fault frame
  pub count : x.told.count ≡ length settled
  pub recorded : FirstAre (IsRecord x.text) x.records settled
  pub front : IsInFront frame x.told.count x.text

-- a frame was fed to the client `c`
abbrev pub IsFed : Windowed Asked → Frame → FeedEffect → Type 0
IsFed c frame x = IsFedAs (frame_kind c frame) (settled_by c frame) frame x

-- what a feed returns for bytes without a line feed, all of which it used
abbrev pub unended : (used : ℕ) → GeocomHeard
unended used = record { used = used; fault = 0; count = 0; kind = MORE; line_fault = 0 }

-- a frame was fed to the client `c` (`IsFed`), by `used` bytes, and the state is that of the client after the frame, with no byte of
-- a line
pub record FeedsFrame (c : Windowed Asked) (frame : Frame) (used : ℕ) (state : GeocomClient) (x : FeedEffect) : Type 0 where
  pub used_is : x.told.used ≡ used
  pub fed : IsFed c frame x
  pub stands : StandsForClient state (client_past c frame) []

-- the client `c` was restarted: the fault is 0, the state is the rule's, with no byte of a line, each request that was
-- outstanding has a record, and the count is that of these requests
pub record HasRestarted (c : Windowed Asked) (state : GeocomClient) (told : GeocomCount) (records : List GeocomSettlement)
    : Type 0 where
  pub fault : told.fault ≡ 0
  pub stands : StandsForClient state (record c { ids = (restarts c.ids).client }) []
  pub count : told.count ≡ length (restarts c.ids).settlements
  pub recorded : FirstAre (IsRecord []) records (restarts c.ids).settlements

-- if these bytes have no line feed, feeding them to the client `c` uses all, as `told` says, and changes the state from `old` to
-- `new`, which keeps them
abbrev pub FeedsUnended : Windowed Asked → (bytes : List ℕ) → (old new : GeocomClient) → (told : GeocomHeard) → Type 0
FeedsUnended c bytes old new told =
    (rest : List ℕ) → StandsForClient old c rest → position is_line_feed bytes ≡ None → (told ≡ unended (length bytes)) × StandsForClient new c (rest ++ bytes)

-- if these bytes have a line feed, feeding them to the client `c` in the state `old` feeds the frame that the first one ends, as
-- `FeedsFrame` says of the state `new` and of the feed
abbrev pub FeedsFirstLine : Windowed Asked → (bytes : List ℕ) → (old new : GeocomClient) → FeedEffect → Type 0
FeedsFirstLine c bytes old new x =
    (rest : List ℕ) (at : ℕ) → StandsForClient old c rest → position is_line_feed bytes ≡ Some at
    → FeedsFrame c (frame_of (rest ++ take at bytes)) (at + 1) new x

-- what is returned with this fault if a feed used nothing
abbrev pub unheard_with : (fault : ℕ) → GeocomHeard
unheard_with fault = record { used = 0; fault = fault; count = 0; kind = MORE; line_fault = 0 }

-- a feed that returned `told`: after a fault all other numbers are 0, and the state (`old` before the feed, `new` after it) has
-- not changed
abbrev pub FeedFaultLeavesState : {State : Type 0} → (told : GeocomHeard) → (old new : State) → Type 0
FeedFaultLeavesState told old new = told.fault ≢ 0 → (told ≡ unheard_with told.fault) × (new ≡ old)

-- a feed that settled `count` requests wrote that many records, at most seven, and nothing after them. The records and the text
-- kept their lengths. If no request was settled, nothing was written
pub record WritesSettled (count : ℕ) (before after : List GeocomSettlement) (text_before text_after : List ℕ) : Type 0 where
  pub records : WritesFirst count before after
  pub text : KeepsLength text_before text_after
  pub silent : count ≡ 0 → (after ≡ before) × (text_after ≡ text_before)

-- a client in the state `old` was restarted: what was returned, the state `new` and the records are as `HasRestarted` says
abbrev pub RestartsClient : (old new : GeocomClient) → (told : GeocomCount) → (records : List GeocomSettlement) → Type 0
RestartsClient old new told records = IfOfClient old (λ c rest. HasRestarted c new told records)
