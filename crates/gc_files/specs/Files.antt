-- A file that is only appended to and cut at its end, and what a crash leaves of it: this project's own.
use Rattle.std.specs.Prelude.{◌≡◌, ◌⊎◌, ℕ, ◌≤◌, Bool, true, false, List, [], ◌∷◌, ◌++◌, length, take, drop, Option, Some, Result, Ok, Err}

-- one call that changed a file, or synced it: these bytes were appended, or it was cut to its first `size` bytes, or all of it
-- was synced
pub data Step : Type 0 where
  Append : (bytes : List ℕ) → Step
  Cut : (size : ℕ) → Step
  Sync : Step

-- what a file held at some moment, such as the machine's start, all of it taken to be on the disk then; and the calls since that
-- moment
pub record Life : Type 0 where
  pub start : List ℕ
  pub steps : List Step

-- the life of a file that holds this, all of it taken to be on the disk
abbrev pub settled : List ℕ → Life
settled held = record { start = held; steps = [] }

-- what a file holds after a step
abbrev pub stepped : List ℕ → Step → List ℕ
stepped held (Append bytes) = held ++ bytes
stepped held (Cut size) = take size held
stepped held Sync = held

-- what a file that held `held` holds after these steps
abbrev pub held_after : (held : List ℕ) → List Step → List ℕ
held_after held [] = held
held_after held (step ∷ steps) = held_after (stepped held step) steps

-- what a crash in the course of a step finds: what the file held with a front of what is appended; at a cut, the first k bytes of
-- what the file held, where k is at least `size`; at a sync, what the file held
abbrev pub InPart : (held : List ℕ) → Step → (left : List ℕ) → Type 0
InPart held (Append bytes) left = (k : ℕ) × (left ≡ held ++ take k bytes)
InPart held (Cut size) left = (k : ℕ) × (size ≤ k) × (left ≡ take k held)
InPart held Sync left = left ≡ held

-- whether a sync is among these steps
abbrev pub has_sync : List Step → Bool
has_sync [] = false
has_sync (Sync ∷ steps) = true
has_sync (Append bytes ∷ steps) = has_sync steps
has_sync (Cut size ∷ steps) = has_sync steps

-- what a crash after these steps may leave of a file that held `held` before them: what the file holds now, or what it held in
-- the course of a step that is no sync and that no sync follows. Outside of this is a crash that leaves bytes without those
-- before them, because the system wrote pages back in another order
abbrev pub MayLeave : (held : List ℕ) → List Step → (left : List ℕ) → Type 0
MayLeave held [] left = left ≡ held
MayLeave held (step ∷ steps) left = ((has_sync (step ∷ steps) ≡ false) × InPart held step left) ⊎ MayLeave (stepped held step) steps left

-- what a file with this life holds, which is what a read returns
abbrev pub content : Life → List ℕ
content life = held_after life.start life.steps

-- a crash may leave this of a file with this life
abbrev pub MayBeLeft : Life → (left : List ℕ) → Type 0
MayBeLeft life left = MayLeave life.start life.steps left

-- a crash leaves what a read returns, and nothing else
abbrev pub IsKept : Life → Type 0
IsKept life = (left : List ℕ) → MayBeLeft life left → left ≡ content life

-- if the life of a file is known, `claim` holds of it
abbrev pub IfKnown : Option Life → (claim : Life → Type 0) → Type 0
IfKnown life claim = (known : Life) → life ≡ Some known → claim known

-- if the life of the file is known, a crash leaves what a read returns, and nothing else
abbrev pub IsKeptFile : Option Life → Type 0
IsKeptFile life = IfKnown life IsKept

-- the same life with these steps added at its end
abbrev pub later_by : List Step → Life → Life
later_by steps life = record { start = life.start; steps = life.steps ++ steps }

-- where the life of a file was known (`old`), it is known still (`new`), and has these steps at its end
abbrev pub Adds : (old new : Option Life) → List Step → Type 0
Adds old new steps = (life : Life) → old ≡ Some life → new ≡ Some (later_by steps life)

-- a call made this step, and none where it failed. Outside of this are an append that failed and wrote a part all the same, and a
-- cut that failed and was made, or made in part
abbrev pub Makes : {X E : Type 0} → (old new : Option Life) → Result X E → (X → Step) → Type 0
Makes old new (Ok x) step = Adds old new (step x ∷ [])
Makes old new (Err _) step = new ≡ old

-- the n bytes at the front of `buf` are the next ones after the first `at` bytes of the file; n is 0 only where the file has no
-- more than `at` bytes
pub record ReadsAt (life : Life) (at n : ℕ) (buf : List ℕ) : Type 0 where
  pub bytes : take n buf ≡ take n (drop at (content life))
  pub within : n ≡ 0 → length (content life) ≤ at
