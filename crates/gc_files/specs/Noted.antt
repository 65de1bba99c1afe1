-- The steps that were done to a file, as they are noted for proofs: a note is a step, or a whole list of earlier notes (a past).
use Rattle.std.specs.Prelude.{◌≡◌, ◌⊎◌, ℕ, List, [], ◌∷◌, ◌++◌, take, Result, Ok, Err}
use Rattle.gc_files.specs.Files.{Step}
use Rattle.gc_files.specs.declared.past.Done.{Done}
use Rattle.gc_files.specs.declared.past.Done.TheVariants.{Append, Sync, All}
use Rattle.gc_files.specs.Files as step

-- the steps that a note stands for: the one step of a call, or all steps of another past
abbrev pub steps_done : Done → List Step
steps_done (Append bytes) = step.Append bytes.now ∷ []
steps_done Sync = step.Sync ∷ []
steps_done (All past) = past.now.steps

-- a call that went well is noted as this step, after the steps noted before (`old`), and one that failed isn't noted
abbrev pub Notes : {X E : Type 0} → (old new : List Step) → Result X E → (X → Step) → Type 0
Notes old new (Ok x) step = new ≡ old ++ step x ∷ []
Notes old new (Err _) step = new ≡ old

-- no step or one sync was noted after the steps noted before (`old`)
abbrev pub MayNoteSync : (old new : List Step) → Type 0
MayNoteSync old new = (new ≡ old) ⊎ (new ≡ old ++ step.Sync ∷ [])

-- the step that appends the first n of these bytes
abbrev pub append_front : (bytes : List ℕ) (n : ℕ) → Step
append_front bytes n = step.Append (take n bytes)
