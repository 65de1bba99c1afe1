-- Holding back, this project's own. A damaged line may end several requests, and a client that then sends as many at once as its window
-- allows may take the replies that are still in flight for those of later requests with the same ids. So no request is sent unless the
-- outstanding ones, and those that the last line ended that ended any, are together fewer than seven. That is what the laws on damaged
-- lines ask of a client (`gc_theorems`). A part reaches from one synchronization to the next (`Parts`).
use Rattle.gc_station.specs.Common.{Asked, Step, Send, fresh, WINDOW, client_after, last_ended}
use Rattle.std.specs.Prelude.{◌≡◌, ℕ, ◌+◌, ◌<◌, List, ◌∷◌, ◌++◌, length, Some, slice_get}
use Rattle.gc_station.specs.Links.{parts}
use Rattle.gc_station.specs.Parts.{Part}
use Rattle.gc_station.specs.Runs.{OfEachRun}

-- wherever a request is sent in this part of a run, null procedures of the station's own too: the outstanding requests, and those that
-- the last line ended that ended any, are together fewer than seven. The part begins as if a line had ended one
abbrev pub IsHeldBack : Part → Type 0
IsHeldBack part =
    (front later : List (Step Asked)) (target : ℕ) (call : Asked) (deadline : ℕ) → part.steps ≡ front ++ Send target call deadline ∷ later
    → length (client_after fresh front).waiting + last_ended fresh 1 front < WINDOW

-- in each part of a run requests are sent as `IsHeldBack` says
abbrev pub RequestsAreHeldBack : Type 0
RequestsAreHeldBack = OfEachRun (λ plan commands scope acts. (i : ℕ) (part : Part) → slice_get (parts plan commands scope acts) i ≡ Some part → IsHeldBack part)
