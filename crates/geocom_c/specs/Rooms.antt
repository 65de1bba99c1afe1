-- The lists that a call writes into (its rooms), this project's own: what stays as it was, and what a fault says.
use Rattle.geocom_c.specs.Common.{WINDOW}
use Rattle.std.specs.Prelude.{◌≡◌, ◌≢◌, ◌↔◌, ◌<◌, ◌≤◌, ◌+◌, ◌++◌, ℕ, List, length, take, drop}
use Rattle.geocom_c.specs.State.{IsOfNoClient}
use Rattle.geocom_c.specs.declared.answers.GeocomCount.{GeocomCount}
use Rattle.geocom_c.specs.declared.header.TheConstants.{NO_ROOM, NO_CLIENT}
use Rattle.geocom_c.specs.declared.session_state.GeocomSession.{GeocomSession}
use Rattle.geocom_c.specs.declared.settled.GeocomSettlement.{GeocomSettlement}
use Rattle.geocom_c.specs.declared.state.GeocomClient.{GeocomClient}

-- a list is as long `after` as `before`
abbrev pub KeepsLength : {A : Type 0} → (before after : List A) → Type 0
KeepsLength before after = length after ≡ length before

-- a text is written over the list `before` from place `at` on: `after` begins with what `before` has in front of that place, and
-- then with the text
abbrev pub IsWritten : {A : Type 0} → (at : ℕ) → (text before after : List A) → Type 0
IsWritten at text before after = take (at + length text) after ≡ take at before ++ text

-- a call wrote over no more than the first `count` items of a list: what follows them is the same `after` as `before`, and so is the
-- list's length
pub record WritesWithin {A : Type 0} (count : ℕ) (before after : List A) : Type 0 where
  pub untouched : drop count after ≡ drop count before
  pub length : KeepsLength before after

-- a call wrote over the first `count` items of a list (`WritesWithin`), at most as many as requests can be outstanding
pub record WritesFirst {A : Type 0} (count : ℕ) (before after : List A) : Type 0 where
  pub few : count ≤ WINDOW
  pub within : WritesWithin count before after

-- the fault is that of too little room if and only if the list `room` has fewer than `least` items
abbrev pub ReportsNoRoom : {A : Type 0} → (room : List A) → (least fault : ℕ) → Type 0
ReportsNoRoom room least fault = (fault ≡ NO_ROOM) ↔ (length room < least)

-- the fault is `NO_CLIENT` if and only if the list `room` has at least `least` items and the bytes of the state are no client's
abbrev pub ReportsNoClient : {A : Type 0} → (room : List A) → (least : ℕ) → GeocomClient → (fault : ℕ) → Type 0
ReportsNoClient room least state fault = (fault ≡ NO_CLIENT) ↔ ((least ≤ length room) × IsOfNoClient state)

-- a call that returned `told`: after a fault the count is 0, and the call changed neither the state (`old` before it, `new`
-- after) nor its room (`before` and `after`)
abbrev pub FaultLeavesAll : {State A : Type 0} → GeocomCount → (old new : State) → (before after : List A) → Type 0
FaultLeavesAll told old new before after = told.fault ≢ 0 → (told.count ≡ 0) × (new ≡ old) × (after ≡ before)

-- if the call that returned `told` had no fault, the first `told.count` bytes of `room` are this text
abbrev pub WritesText : GeocomCount → (room text : List ℕ) → Type 0
WritesText told room text = told.fault ≡ 0 → take told.count room ≡ text

-- a state, and a room, before and after a call with one room, and what the call returned
pub record Effect (State Item : Type 0) : Type 0 where
  pub old : State
  pub new : State
  pub before : List Item
  pub after : List Item
  pub told : GeocomCount

-- the call that found the state `old` and the room `before`, left `new` and `after`, and returned `told`
abbrev pub effect : {State Item : Type 0} → (old new : State) → (before after : List Item) → (told : GeocomCount) → Effect State Item
effect old new before after told = record { old = old; new = new; before = before; after = after; told = told }

-- a session's state, the room for records, and the room for bytes, before and after a call with both, and what the call returned
pub record SettlingEffect (Told : Type 0) : Type 0 where
  pub old : GeocomSession
  pub new : GeocomSession
  pub before : List GeocomSettlement
  pub records : List GeocomSettlement
  pub blank : List ℕ
  pub text : List ℕ
  pub told : Told

-- the call that found the state `old` and the rooms `before` and `blank`, left `new`, `records` and `text`, and returned `told`
abbrev pub settling_effect : {Told : Type 0} → (old new : GeocomSession) → (before records : List GeocomSettlement) → (blank text : List ℕ) → (told : Told)
    → SettlingEffect Told
settling_effect old new before records blank text told =
    record { old = old; new = new; before = before; records = records; blank = blank; text = text; told = told }
