-- Places of requests in a window, as the code counts them: for contracts of private functions.
use Rattle.std.specs.Prelude.{◌≡◌, ℕ, List, ◌++◌, length, take, drop, Option, Some, None, if◌then◌else◌, nat_lt}
use Rattle.gc_client.specs.Rule.{ById, place}

-- the place of the request that waits for a reply with this id, which is from 0 to 7; none if no request does, or if the reply
-- has no id. `next` is the client's next id, and `waiting` how many requests wait
abbrev pub place_heard : (next waiting : ℕ) → (id : Option ℕ) → Option ℕ
place_heard next waiting None = None
place_heard next waiting (Some id) = if nat_lt (place next waiting id) waiting then Some (place next waiting id) else None

-- in this client, the request that waits for a reply with this id is at place k
abbrev pub IsPlaceHeard : {Q : Type 0} → ById Q → Option ℕ → (k : ℕ) → Type 0
IsPlaceHeard c id k = place_heard c.next (length c.waiting) id ≡ Some k

-- the `len` elements from the place `oldest` on, going round at the end of the list; each element once if the list has fewer
abbrev pub waiting_in : {A : Type 0} → (oldest len : ℕ) → List A → List A
waiting_in oldest len places = take len (drop oldest places ++ take oldest places)
