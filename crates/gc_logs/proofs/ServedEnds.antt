-- The end of serving is told as the end of a run is.
use Rattle.gc_logs.proofs.Common.{ℕ, List, Option, Result, Ok, Err, subst, Appends, numbered_fault, serve_fault_text, run_fault_text, fault_line, Tells, end_of_serving}
use Rattle.std.proofs.lemmas.List.{append-nil}
use Rattle.gc_lines.specs.declared.served.Served.{Served}
use Rattle.gc_lines.specs.declared.served.ServeFault.{ServeFault}
use Rattle.gc_lines.specs.declared.served.ServeFault.TheVariants.{Read, Write, TooManyReads}

-- what tells the end of serving as the end of a run (`end_of_serving`) tells it as itself: both faults have the same text
pub tells_served : (end : Result Served ServeFault) (status : ℕ) (old new : Option (List ℕ)) → Tells run_fault_text (end_of_serving end) status old new
    → Tells serve_fault_text end status old new
tells_served (Ok served) status old new told = told
tells_served (Err (Read replies)) status old new told = (told.0, subst (λ (text : List ℕ). Appends old new (fault_line text)) (append-nil (numbered_fault 42)) told.1)
tells_served (Err (Write replies bytes)) status old new told = told
tells_served (Err (TooManyReads replies)) status old new told = (told.0, subst (λ (text : List ℕ). Appends old new (fault_line text)) (append-nil (numbered_fault 44)) told.1)
