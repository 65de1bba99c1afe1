-- How the end of a run over a connection is reported: this project's own.
use Rattle.gc_logs.specs.Common.{run_fault_text, Tells, RunFault}
use Rattle.std.specs.Prelude.{◌≡◌, ℕ, Bool, true, false, List, Option, Result, Ok, Err}
use Rattle.gc_links.specs.declared.place.Place.{Place}
use Rattle.gc_links.specs.declared.place.Place.TheVariants.{Port, Host, Device}

-- whether a place is a port of 127.0.0.1, of which a fault has its line alone; for any other place a second line may follow
abbrev pub is_port : Place → Bool
is_port (Port _) = true
is_port (Host _) = false
is_port (Device _) = false

-- how the result of a run over a connection is reported, to a port of 127.0.0.1 (`at_port`) or to another place: as `Tells` says. After a
-- fault of another place further lines may follow, and of what the messages took then nothing is said
abbrev pub TellsAt : {X : Type 0} → (at_port : Bool) → Result X RunFault → (status : ℕ) → (old new : Option (List ℕ)) → Type 0
TellsAt true end status old new = Tells run_fault_text end status old new
TellsAt false (Ok _) status old new = (status ≡ 0) × (new ≡ old)
TellsAt false (Err _) status old new = status ≡ 1
