-- How many requests may be in flight if one is sent: this project's own. An act is one call on the link, with its result.
use Rattle.gc_station.specs.Common.{deadlines, WINDOW}
use Rattle.std.specs.Prelude.{◌+◌, ◌≡◌, ◌⊎◌, ◌<◌, length}
use Rattle.gc_station.specs.Quiet.{IsAsking}
use Rattle.gc_station.specs.Runs.{state_after, OfAnyActs}
use Rattle.gc_station.specs.Model.{action_at}

-- if a request of the client is sent next (`IsAsking`), fewer requests that haven't timed out are in flight than the plan's
-- width, or none is; and those that are outstanding, and those that the last line ended that ended any, are together fewer than seven
abbrev pub RequestsHaveRoom : Type 0
RequestsHaveRoom = OfAnyActs (λ plan commands scope acts.
    let s = state_after plan commands scope acts in
    IsAsking (action_at plan s)
    → ((length (deadlines s.client.waiting) ≡ 0) ⊎ (length (deadlines s.client.waiting) < plan.width)) × (length s.client.waiting + s.progress.exchange.last_ended < WINDOW))
