-- A synchronization over calls on a state, this project's own: what it makes of the bytes that come, and which line is sent.
-- Its word is the ids of its null procedures, in the order in which they are asked.
use Rattle.geocom_c.specs.Common.{with_end, rest_behind, Frame, Line, the_word, asks, left_by, heard}
use Rattle.std.specs.Prelude.{◌≡◌, ◌≢◌, ◌↔◌, ℕ, Bool, true, false, List, [], ◌∷◌, length, take, nat_eq, Option, Some, None}
use Rattle.geocom_c.specs.Rest.{lines_completed, IsRest}
use Rattle.geocom_c.specs.State.{IfOfClient, StandsForClient, left_of}
use Rattle.geocom_c.specs.declared.answers.GeocomBeginning.{GeocomBeginning}
use Rattle.geocom_c.specs.declared.rest.GeocomRest.{GeocomRest}
use Rattle.geocom_c.specs.declared.state.GeocomClient.{GeocomClient}
pub use Rattle.gc_client.specs.Beginning.{unanswered_after}

-- the ids that aren't answered after these bytes, where `left` weren't before: each line that the bytes end, after the bytes
-- `rest` since the last line feed, is heard
abbrev pub left_by_bytes : (left rest bytes : List ℕ) → List ℕ
left_by_bytes left rest bytes = unanswered_after left (lines_completed rest bytes)

-- no part of a promise: all these bytes were handed to a synchronization, whatever came since the last line feed, which has heard
-- each line that they end. `old` and `new` are what is kept of an incomplete line before and after them, `before` and `after` the
-- ids that aren't answered
abbrev pub SynchronizesBy : (bytes : List ℕ) → (old new : GeocomRest) → (before after : List ℕ) → Type 0
SynchronizesBy bytes old new before after =
    (rest : List ℕ) → IsRest old rest → IsRest new (rest_behind rest bytes) × (after ≡ left_by_bytes before rest bytes)

-- the ids that aren't answered after a frame, where `left` weren't before: a line is heard
abbrev pub left_past : (left : List ℕ) → Frame → List ℕ
left_past left (Line line) = left_by left (heard line.items)
left_past left other = left

-- the line that is sent, where `after` are the ids that aren't answered: none while a reply is still waited for
-- (`is_waiting`), or once all ids are answered
abbrev pub given_unless : (is_waiting : Bool) → (after : List ℕ) → Option (List ℕ)
given_unless true after = None
given_unless false after = asks after

-- whether there are bytes, and they answer nothing: as many ids aren't answered after them as before
abbrev pub came_in_vain : (bytes before after : List ℕ) → Bool
came_in_vain [] before after = false
came_in_vain (byte ∷ bytes) before after = nat_eq (length before) (length after)

-- the line that is sent after these bytes, by the ids that aren't answered before and after them. Without bytes it is the null
-- procedure that is asked for, the first time or again; if the bytes answer any, it is the next one; otherwise, and once the
-- client has synchronized, none is sent
abbrev pub given : (bytes before after : List ℕ) → Option (List ℕ)
given bytes before after = given_unless (came_in_vain bytes before after) after

-- the line is, with its CR LF, at the front of `room`, and these are `count` bytes; if there is none the count is 0
abbrev pub IsGiven : Option (List ℕ) → (count : ℕ) → (room : List ℕ) → Type 0
IsGiven None count room = count ≡ 0
IsGiven (Some line) count room = (count ≡ length (with_end line)) × (take count room ≡ with_end line)

-- what isn't answered of the word after a restart: all of it for a client that had synchronized; for one that hadn't, what
-- wasn't answered before
abbrev pub left_by_restart : List ℕ → List ℕ
left_by_restart [] = the_word
left_by_restart (asked ∷ later) = asked ∷ later

-- these bytes were handed to the synchronization of a client in the state `old`: the fault is 0, and in the state `new` the
-- client is the same, each line that the bytes end is heard, and the bytes since the last line feed are kept
abbrev pub HearsBytes : (bytes : List ℕ) → (old new : GeocomClient) → (fault : ℕ) → Type 0
HearsBytes bytes old new fault =
    IfOfClient old (λ c rest.
    (fault ≡ 0) × StandsForClient new c (rest_behind rest bytes) × (left_of new ≡ left_by_bytes (left_of old) rest bytes))

-- if the call that returned `told` had no fault, `room` has the line that is sent after these bytes, where `old` and `new` are
-- the states before and after the call
abbrev pub GivesLine : (bytes : List ℕ) → (old new : GeocomClient) → GeocomBeginning → (room : List ℕ) → Type 0
GivesLine bytes old new told room = told.fault ≡ 0 → IsGiven (given bytes (left_of old) (left_of new)) told.count room

-- if the call that returned `told` had no fault, `told` says that the client has synchronized if and only if no id is unanswered
-- in this state
abbrev pub ReportsBegun : GeocomBeginning → GeocomClient → Type 0
ReportsBegun told state = told.fault ≡ 0 → (told.has_begun ≡ 1) ↔ (left_of state ≡ [])

-- what is returned with this fault if the synchronization heard nothing
abbrev pub unbegun_with : (fault : ℕ) → GeocomBeginning
unbegun_with fault = record { fault = fault; count = 0; answered = 0; has_begun = 0 }

-- a call that returned `told`: after a fault all other numbers are 0, and the call changed neither the state (`old` before it,
-- `new` after) nor the room for the line (`before` and `after`)
abbrev pub BeginFaultLeavesAll : GeocomBeginning → (old new : GeocomClient) → (before after : List ℕ) → Type 0
BeginFaultLeavesAll told old new before after = told.fault ≢ 0 → (told ≡ unbegun_with told.fault) × (new ≡ old) × (after ≡ before)
