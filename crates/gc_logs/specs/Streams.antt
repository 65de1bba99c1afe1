-- The standard streams, of which some may be closed, and what is reported if one is: this project's own.
use Rattle.gc_logs.specs.Common.{Appends, run_fault_text, fault_line}
use Rattle.std.specs.Prelude.{◌≡◌, ℕ, Bool, true, false, ◌&&◌, List, Option}
use Rattle.gc_texts.specs.declared.fault.RunFault.TheVariants.{StreamClosed}
use Rattle.gc_logs.specs.declared.standard.Standard.{Standard}

-- whether all three standard streams are open
abbrev pub are_open : Standard → Bool
are_open s = (s.input && s.output) && s.messages

-- what the program reports if a standard stream is closed: status 1, and the fault's line if the messages are open; nothing is
-- written if they are closed
pub record ReportsClosed (s : Standard) (status : ℕ) (old new : Option (List ℕ)) : Type 0 where
  pub is : status ≡ 1
  pub told : s.messages ≡ true → Appends old new (fault_line (run_fault_text StreamClosed))
  pub untold : s.messages ≡ false → new ≡ old
