-- A stretch with damage, this project's own: a synchronization, and the steps after it.
use Rattle.gc_theorems.specs.Common.{WINDOW}
use Rattle.std.specs.Prelude.{ℕ, ◌≤◌, List}
use Rattle.gc_theorems.specs.World.{Ends}
use Rattle.gc_theorems.specs.Begin.{IsWellFormed, UnderWay, begins, leaves}
use Rattle.gc_theorems.specs.Instrument.{OfAnyInstrument}
use Rattle.gc_theorems.specs.Harm.{Harm, AllMayHarm, AreOwnOr, harm_begun}
use Rattle.gc_theorems.specs.DamagedSynchronizing.{SyncHarm, AllMaySyncHarm, OwnEighthComes, WasStruck, sync_harmed}

-- what a synchronization with damage leaves
abbrev pub left_by_sync : {State : Type 0} → Ends State → UnderWay State → List (SyncHarm State) → UnderWay State
left_by_sync ends u ts = leaves (sync_harmed ends ts (begins u))

-- for any instrument, a client with a window of at most seven, and whatever is in flight at the start, be it the word: if the eighth
-- null procedure is answered by its own reply, and each send after the synchronization is fresh, each answer was made on executing
-- that very request, or its line is damaged: it came so, or was made of a request that damage made, after the synchronization or in it
abbrev pub StretchesAreLocal : Type 0 → Type 0
StretchesAreLocal State = OfAnyInstrument {State = State} (λ ends Good kept.
    (width : ℕ) → width ≤ WINDOW → (u : UnderWay State) (ts : List (SyncHarm State)) (ms : List (Harm State)) →
    IsWellFormed Good u → AllMaySyncHarm ends Good kept ts (begins u) → OwnEighthComes ends u ts →
    AllMayHarm width ends Good kept ms (harm_begun width ends (left_by_sync ends u ts)) →
    AreOwnOr width ends (λ line. WasStruck ends u ts line) (harm_begun width ends (left_by_sync ends u ts)) ms)
