-- From an id back to the request. `count` requests are settled, `total` were sent, `since` of them before the client's last
-- start, and request `number` has the id (number - since) % 8.
use Rattle.gc_world.proofs.Common.{◌≡◌, ℕ, ◌+◌, ◌-◌, ◌%◌, ◌<◌, ◌≤◌, arith, place}

-- where all requests that were sent before the client's last start are settled, and at most seven of those that were sent aren't,
-- the place (`place`) of the id of request `number`, which isn't settled, is number - count: how many of the requests that aren't
-- settled were sent before it
pub place_within : (since count total number : ℕ) → since ≤ count → count ≤ number → number < total → total ≤ count + 7
    → place ((total - since) % 8) (total - count) ((number - since) % 8) ≡ number - count
place_within since count total number h1 h2 h3 h4 = omega arith

-- where at most seven requests aren't settled, the place (`place`) of the id of request `number`, the one settled last, if it was
-- sent since the client's last start, is 7, which no window reaches
pub place_before : (since count total number : ℕ) → since ≤ number → number + 1 ≡ count → count ≤ total → total ≤ count + 7
    → place ((total - since) % 8) (total - count) ((number - since) % 8) ≡ 7
place_before since count total number h1 h2 h3 h4 = omega arith
