-- What came on a connection, this project's own: the bytes that were given on it while they were heard. An act is one call on
-- the link, with its result.
use Rattle.gc_station.specs.Common.{Task, Act, Gave, Closed}
use Rattle.std.specs.Prelude.{ℕ, Bool, List, [], ◌∷◌, ◌++◌, if◌then◌else◌}
use Rattle.gc_station.specs.declared.plan.Plan.{Plan}
use Rattle.gc_station.specs.Model.{Model, opening, is_heard, after}
use Rattle.gc_station.specs.Scopes.{Scope}

-- what there is of a connection's bytes after one more act, if there were `bytes` before it: a read changes them by its piece, as
-- `add` does, if what comes is heard (`heard`), and a close leaves none
abbrev pub bytes_by : (add : (bytes piece : List ℕ) → List ℕ) → (heard : Bool) → Act → (bytes : List ℕ) → List ℕ
bytes_by add heard (Gave piece m) bytes = if heard then add bytes piece else bytes
bytes_by add heard Closed bytes = []
bytes_by add heard act bytes = bytes

-- the bytes on a connection after one more act, if there were `bytes` before it: all that are heard
abbrev pub bytes_heard_with : (heard : Bool) → Act → (bytes : List ℕ) → List ℕ
bytes_heard_with heard act bytes = bytes_by (λ bytes piece. bytes ++ piece) heard act bytes

-- the bytes on a connection after these acts, if the station has the model `s` and there were `bytes` before them
abbrev pub bytes_heard_from : Plan → List Task → Model → (bytes : List ℕ) → List Act → List ℕ
bytes_heard_from plan commands s bytes [] = bytes
bytes_heard_from plan commands s bytes (act ∷ acts) =
    bytes_heard_from plan commands (after plan commands s act) (bytes_heard_with (is_heard s.progress.phase) act bytes) acts

-- the bytes that were given on the current connection while they were heard, after these acts of a run
abbrev pub bytes_heard : Plan → List Task → Scope → List Act → List ℕ
bytes_heard plan commands scope acts = bytes_heard_from plan commands (opening plan scope) [] acts
