-- The coding of a file's steps as numbers and bytes, from which the steps come back. A field for proofs alone has to have a
-- coding (`Coded`) of what it holds; nothing of it is on the disk.
use Rattle.std.specs.Prelude.{◌≡◌, ℕ, List, [], cond, ◌==◌, refl}
use Rattle.std.specs.Coded.{Coded, code_by, coded×, coded_ℕ, coded_list}
use Rattle.gc_files.specs.Files.{Step, Append, Cut, Sync}

-- which kind of step (0 is an append, 1 a cut, 2 a sync), the bytes of an append, and the size of a cut
abbrev StepParts : Type 0
StepParts = ℕ × (List ℕ × ℕ)

-- a step as its parts
abbrev to_parts : Step → StepParts
to_parts (Append bytes) = (0, (bytes, 0))
to_parts (Cut size) = (1, ([], size))
to_parts Sync = (2, ([], 0))

-- the step of these parts; a kind above 2, which no step has, counts as 2
abbrev from_parts : StepParts → Step
from_parts p = cond (p.0 == 0) (Append p.1.0) (cond (p.0 == 1) (Cut p.1.1) Sync)

-- a step comes back from its parts
pub from_parts-to_parts : (step : Step) → from_parts (to_parts step) ≡ step
from_parts-to_parts (Append bytes) = refl
from_parts-to_parts (Cut size) = refl
from_parts-to_parts Sync = refl

-- the coding of a list of steps, for the field `steps` of `past.rt`
abbrev pub steps_code : Coded (List Step)
steps_code = coded_list (code_by StepParts (coded× coded_ℕ (coded× (coded_list coded_ℕ) coded_ℕ)) to_parts from_parts from_parts-to_parts)

-- the coding of the steps of several files, for the field `files` of `past.rt`
abbrev pub files_code : Coded (List (List Step))
files_code = coded_list steps_code
