-- Requests that time out, and the earliest deadline in plain fields: this project's own.
use Rattle.geocom_c.specs.Common.{Asked, Windowed, IsEarliest, deadlines, expires, expiring}
use Rattle.std.specs.Prelude.{◌≡◌, ◌≢◌, ℕ, List, length, take, Option, Some, None, if◌then◌else◌, nat_eq}
use Rattle.geocom_c.specs.State.{IfOfClient, StandsForClient}
use Rattle.geocom_c.specs.declared.answers.GeocomCount.{GeocomCount}
use Rattle.geocom_c.specs.declared.answers.GeocomDeadline.{GeocomDeadline}
use Rattle.geocom_c.specs.declared.state.GeocomClient.{GeocomClient}

-- the deadline that a record of plain fields holds, if it holds one
abbrev pub earliest_in : GeocomDeadline → Option ℕ
earliest_in d = if nat_eq d.is_set 1 then Some d.deadline else None

-- the client `c`, with the bytes `rest` since the last line feed, was handed the moment `now`: the fault is 0, the state is the
-- rule's, and the targets of the requests that time out are at the front of `targets`, as many as `told` counts
pub record HasExpired (c : Windowed Asked) (rest : List ℕ) (now : ℕ) (state : GeocomClient) (told : GeocomCount) (targets : List ℕ)
    : Type 0 where
  pub fault : told.fault ≡ 0
  pub stands : StandsForClient state (record c { ids = expires c.ids now }) rest
  pub count : told.count ≡ length (expiring now c.ids.waiting)
  pub front : take told.count targets ≡ expiring now c.ids.waiting

-- the moment `now` was handed to a client in the state `old`: what was returned, the state `new` and the targets are as
-- `HasExpired` says
abbrev pub Expires : (now : ℕ) → (old new : GeocomClient) → (told : GeocomCount) → (targets : List ℕ) → Type 0
Expires now old new told targets = IfOfClient old (λ c rest. HasExpired c rest now new told targets)

-- for a client's state the fault is 0, and the deadline that was returned is the earliest of the client's requests that
-- haven't timed out, if there is one
abbrev pub ReportsEarliest : GeocomClient → GeocomDeadline → Type 0
ReportsEarliest state told =
    IfOfClient state (λ c rest. (told.fault ≡ 0) × IsEarliest (deadlines c.ids.waiting) (earliest_in told))

-- a record of plain fields that holds no deadline has 0 as `is_set` and as `deadline`
abbrev pub IsBlankIfUnset : GeocomDeadline → Type 0
IsBlankIfUnset told = told.is_set ≢ 1 → (told.is_set ≡ 0) × (told.deadline ≡ 0)

-- for a client's state the fault is 0, and the count that was returned is that of the client's outstanding requests
abbrev pub ReportsWaiting : GeocomClient → GeocomCount → Type 0
ReportsWaiting state told = IfOfClient state (λ c rest. (told.fault ≡ 0) × (told.count ≡ length c.ids.waiting))
