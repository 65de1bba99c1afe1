-- The exit status of a run whose end could be reported: this project's own.
use Rattle.std.specs.Prelude.{ℕ, ◌≤◌, IfOk, Result}
use Rattle.std.specs.Process.{exit_status}
use Rattle.std.specs.declared.process.ExitCode.{ExitCode}

-- the exit status, if there is one, is at most this number
abbrev pub IsStatusUpTo : {E : Type 0} → (most : ℕ) → Result ExitCode E → Type 0
IsStatusUpTo most result = IfOk result (λ status. exit_status status ≤ most)
