-- Which events take no memory, this project's own: those at which none of the report's lists and no queue grows.
use Rattle.gc_world.specs.Common.{Call, ById, fits, heard, State}
use Rattle.std.specs.Prelude.{◌≡◌, ◌⊎◌, ℕ, zero, suc, ◌+◌, ◌≤◌, true, false, List, [], ◌∷◌, length, take, Some, slice_get, ⊤}
use Rattle.gc_world.specs.declared.event.Event.{Event}
use Rattle.gc_world.specs.declared.event.Event.TheVariants.{Send, UpDeliver, UpBytes, UpLose, UpRepeat, DownDeliver, DownBytes, DownLose, DownRepeat, Expire, RestartClient, RestartInstrument}
use Rattle.gc_world.specs.Clients.{ends, streamed_between}
use Rattle.gc_world.specs.Streams.{Streams, up_lines, down_lines, cut, is_begun}
use Rattle.gc_world.specs.World.{Ends, Numbered}

-- no line is in flight: both queues are empty
abbrev pub NoneInFlight : {A B : Type 0} → (up : List A) → (down : List B) → Type 0
NoneInFlight up down = (up ≡ []) × (down ≡ [])

-- a line is in flight in at least one of the two queues
abbrev pub SomeInFlight : {A B : Type 0} → (up : List A) → (down : List B) → Type 0
SomeInFlight up down = ¬ (NoneInFlight up down)

-- the first k replies of the downward queue, or all if there are fewer, are strays: no request of the client waits for them
abbrev pub AreStrays : ById Call → ℕ → List (Numbered (List ℕ)) → Type 0
AreStrays client zero down = ⊤
AreStrays client (suc k) [] = ⊤
AreStrays client (suc k) (x ∷ rest) = (fits client (heard x.line) ≡ false) × AreStrays client k rest

-- no reply is in the downward queue, or the one in front is a stray
abbrev pub FrontIsStray : ById Call → List (Numbered (List ℕ)) → Type 0
FrontIsStray client down = AreStrays client (suc zero) down

-- a repeat of line k of a queue isn't possible, where `gone` bytes of the front line have gone: there is no line k, or its first
-- byte has gone
abbrev pub IsNoRepeat : {A : Type 0} → (k gone : ℕ) → List A → Type 0
IsNoRepeat k gone queue = (is_begun k gone ≡ true) ⊎ (length queue ≤ k)

-- on these streams, with a window of this width, the event takes no memory: it is a refused send, a loss, an expiry, a delivery
-- of strays, bytes that complete no line, or an event that isn't possible
abbrev pub TakesNoMemory : {S : Type 0} → ℕ → Streams (ById Call) S → Event → Type 0
TakesNoMemory width v (Send target call deadline) = length v.world.client.waiting ≡ width
TakesNoMemory width v UpDeliver = v.world.wire.up ≡ []
TakesNoMemory width v (UpBytes n) = (cut (up_lines v.world.wire) (v.up_gone + n)).lines ≡ 0
TakesNoMemory width v (UpLose k) = ⊤
TakesNoMemory width v (UpRepeat k) = IsNoRepeat k v.up_gone v.world.wire.up
TakesNoMemory width v DownDeliver = FrontIsStray v.world.client v.world.wire.down
TakesNoMemory width v (DownBytes n) = AreStrays v.world.client (cut (down_lines v.world.wire) (v.down_gone + n)).lines v.world.wire.down
TakesNoMemory width v (DownLose k) = ⊤
TakesNoMemory width v (DownRepeat k) = IsNoRepeat k v.down_gone v.world.wire.down
TakesNoMemory width v (Expire now) = ⊤
TakesNoMemory width v RestartClient = SomeInFlight v.world.wire.up v.world.wire.down
TakesNoMemory width v RestartInstrument = SomeInFlight v.world.wire.up v.world.wire.down

-- between two ends, none of these events takes memory, on the streams that those before it leave
abbrev pub NoneTakesMemoryBetween : {S : Type 0} → Ends S → ℕ → S → List Event → Type 0
NoneTakesMemoryBetween any_ends width opening events =
    (i : ℕ) (event : Event) → slice_get events i ≡ Some event → TakesNoMemory width (streamed_between any_ends width opening (take i events)) event

-- on the simulated instrument, none of these events takes memory, on the streams that those before it leave
abbrev pub NoneTakesMemory : ℕ → State → List Event → Type 0
NoneTakesMemory width opening events = NoneTakesMemoryBetween ends width opening events
