-- What a subcommand reports: how it ended, or why a scene was refused. This project's own.
use Rattle.gc_console.specs.Common.{Appends, scene_trouble_line, Ports, run_fault_text, fault_line, Tells, RunFault, Schedule}
use Rattle.std.specs.Prelude.{◌≡◌, ℕ, List, ◌++◌, Option, Result}
use Rattle.gc_console.specs.declared.refusal.Refusal.{Refusal}
use Rattle.gc_console.specs.declared.refusal.Refusal.TheVariants.{Fault, Line}

-- what is seen of a subcommand that has ended: its ports at its start and at its end, its status, and what had been written on
-- the messages by its start and by its end
pub record EndSeen : Type 0 where
  pub old : Ports
  pub new : Ports
  pub status : ℕ
  pub told_before : Option (List ℕ)
  pub told : Option (List ℕ)

-- a subcommand of which this is seen
abbrev pub end_seen : (old new : Ports) → (status : ℕ) → (told_before told : Option (List ℕ)) → EndSeen
end_seen old new status told_before told = record { old = old; new = new; status = status; told_before = told_before; told = told }

-- something had an end of which `Ends` holds, and the status and the messages tell that end (`Tells`). `text_of` gives the text of a fault
pub record TellsEnd {X E : Type 0} (text_of : E → List ℕ) (Ends : Result X E → Type 0) (seen : EndSeen) : Type 0 where
  pub end : Result X E
  pub ends : Ends end
  pub tells : Tells text_of end seen.status seen.told_before seen.told

-- the fault for which a scene was refused; for a faulty line it is `Schedule`, with the line's number
abbrev pub refusal_fault : Refusal → RunFault
refusal_fault (Fault fault) = fault
refusal_fault (Line line trouble) = Schedule line

-- what is reported of a refusal: the line of its fault, and where a line of the scene is faulty, a second one on what is wrong there
abbrev pub refusal_text : Refusal → List ℕ
refusal_text (Fault fault) = fault_line (run_fault_text fault)
refusal_text (Line line trouble) = fault_line (run_fault_text (Schedule line)) ++ scene_trouble_line line trouble

-- a refusal was reported: the status is 1, and its text was written on the messages, which were `old` and are now `new`
abbrev pub TellsRefusal : Refusal → (status : ℕ) → (old new : Option (List ℕ)) → Type 0
TellsRefusal refusal status old new = (status ≡ 1) × Appends old new (refusal_text refusal)
