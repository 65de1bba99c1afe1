-- The files of the values that a station's tasks take, in the order of the values: this project's own.
use Rattle.gc_texts.specs.Common.{raw_bytes, Raw, RawCall, FILE_VALUES, ValueFile}
use Rattle.std.specs.Prelude.{◌≡◌, ◌⊎◌, ◌≤◌, ◌==◌, ◌&&◌, ◌++◌, ℕ, Bool, true, false, not, List, [], ◌∷◌, length}
use Rattle.gc_texts.specs.ValueItems.{IsValueFile, value_items}
use Rattle.gc_texts.specs.declared.tasks.Task.{Task}

-- these are the files that these items name, one for one
abbrev pub NameFiles : List (List ℕ) → List ValueFile → Type 0
NameFiles [] [] = Unit {0}
NameFiles (item ∷ items) (file ∷ files) = IsValueFile item file × NameFiles items files
NameFiles _ _ = ⊥

-- parameters add the files that they name to those before, if these are not more than 16 together
abbrev pub AddsFiles : (params : List ℕ) (old new : List ValueFile) → Type 0
AddsFiles params old new =
    (more : List ValueFile) → NameFiles (value_items params) more → length (old ++ more) ≤ FILE_VALUES
    → (added : List ValueFile) × NameFiles (value_items params) added × (new ≡ old ++ added)

-- the values that a task takes are the next ones after those of these files
abbrev pub takes_next : Task → List ValueFile → Bool
takes_next task files = not (task.needs.count == 0) && (task.needs.first == length files)

-- a task adds the files that its request names to those before, if its values are the next ones, and none otherwise
pub record AddsFilesOf (task : Task) (old new : List ValueFile) : Type 0 where
  pub none : takes_next task old ≡ false → new ≡ old
  pub some : (raw : RawCall) → takes_next task old ≡ true → task.command.call ≡ Raw raw → AddsFiles (raw_bytes raw.params) old new

-- `next` are these files and those of a task: it adds the files that its request names, if its values are the next ones
abbrev pub AreNextFiles : Task → (files next : List ValueFile) → Type 0
AreNextFiles task files next =
    ((takes_next task files ≡ false) × (next ≡ files))
    ⊎ ((takes_next task files ≡ true) × (raw : RawCall) × (task.command.call ≡ Raw raw)
    × (more : List ValueFile) × NameFiles (value_items (raw_bytes raw.params)) more × (next ≡ files ++ more))

-- of these tasks, in order, each whose values are the next ones adds its files to those before, which are `before` at first; so do the tasks
-- of a text, each command by its first task
abbrev pub AreFilesFrom : (before : List ValueFile) → List Task → (files : List ValueFile) → Type 0
AreFilesFrom before [] files = files ≡ before
AreFilesFrom before (task ∷ later) files = (next : List ValueFile) × AreNextFiles task before next × AreFilesFrom next later files

-- these are the files of the values that these tasks take
abbrev pub AreFilesOf : List Task → (files : List ValueFile) → Type 0
AreFilesOf tasks files = AreFilesFrom [] tasks files
