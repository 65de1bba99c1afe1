-- Acts once, this project's own: between two of its starts an instrument executes each request at most once, in the order in
-- which they were sent. `executed` has the numbers of the requests that were executed, in order; `starts` has, for each start,
-- how many executions came before it; `sent` are all requests.
use Rattle.gc_theorems.specs.Common.{AllByRecursion, Asked}
use Rattle.std.specs.Prelude.{◌≡◌, ℕ, ◌<◌, ◌≤◌, ◌⊎◌, Bool, true, List, Some, slice_get}
use Rattle.gc_theorems.specs.World.{Sent}

-- the instrument didn't start between executions j and k: each start had at most j executions before it, or more than k
abbrev pub HasNoStart : List ℕ → (j k : ℕ) → Type 0
HasNoStart starts j k = AllByRecursion (λ s. (s ≤ j) ⊎ (k < s)) starts

-- executions are in the order of sending, also over starts: of any two, the later one is of the same request, or of one that
-- was sent later
abbrev pub IsInOrder : List ℕ → Type 0
IsInOrder executed = (j k m n : ℕ) → j < k → slice_get executed j ≡ Some m → slice_get executed k ≡ Some n → m ≤ n

-- of two executions with no start between them, the later one is of a request that was sent later, if it is of a request that the
-- instrument knows (`knows`)
abbrev pub ExecutesOnce : (Asked → Bool) → List Sent → (executed starts : List ℕ) → Type 0
ExecutesOnce knows sent executed starts =
    (j k m n : ℕ) (r : Sent) → j < k → HasNoStart starts j k → slice_get executed j ≡ Some m → slice_get executed k ≡ Some n →
    slice_get sent n ≡ Some r → knows r.call ≡ true → m < n
