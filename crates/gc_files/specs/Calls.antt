-- What the calls of a file in memory stand for: this project's own.
use Rattle.std.specs.Prelude.{◌≡◌, ℕ, List, map, Some, Result}
use Rattle.gc_files.specs.declared.memory_file.Call.{Call}
use Rattle.gc_files.specs.Files.{Step, Append, Cut, Sync, Life, Makes, content}
use Rattle.gc_files.specs.declared.memory_file.Call.TheVariants as call

-- the step that a call is
abbrev pub step_of : Call → Step
step_of (call.Append bytes) = Append bytes.items
step_of (call.Cut size) = Cut size
step_of call.Sync = Sync

-- the life of a file that held `start` at first, after these calls
abbrev pub life_by : List ℕ → List Call → Life
life_by start calls = record { start = start; steps = map step_of calls }

-- a file that held `start` at first holds these bytes after these calls
abbrev pub HoldsAfter : (start : List ℕ) → List Call → (bytes : List ℕ) → Type 0
HoldsAfter start calls bytes = bytes ≡ content (life_by start calls)

-- of a file that held `start` at first, whose calls were `old` and are `new`: this call made its step, and none where it failed
abbrev pub MakesCall : {X E : Type 0} → (start : List ℕ) (old new : List Call) → Result X E → Call → Type 0
MakesCall start old new result c = Makes (Some (life_by start old)) (Some (life_by start new)) result (λ _. step_of c)
