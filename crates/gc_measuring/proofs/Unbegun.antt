-- A station that can't begin: its sink is as it was.
use Rattle.gc_measuring.proofs.Common.{Bool, Option, Some, None, Err, inl, inr, refl, sym, subst, CannotBegin, FailsAtOutput, Tally, RunFault}
use Rattle.gc_measuring.specs.Stops.{fault_without_link}
use Rattle.gc_links.specs.declared.device.Unusable.{Unusable}
use Rattle.gc_links.specs.declared.device.Unusable.TheVariants.{NoTerminal, Held, Forbidden}

-- a run that stopped because it had no link didn't fail at its output: its sink is as it was
no_link_keeps_sink : (reason : Option Unusable) (failed : Bool) → FailsAtOutput {X = Tally} failed failed (Err (fault_without_link reason))
no_link_keeps_sink (Some NoTerminal) failed = refl
no_link_keeps_sink (Some Held) failed = refl
no_link_keeps_sink (Some Forbidden) failed = refl
no_link_keeps_sink None failed = refl

-- a run that couldn't begin, for whatever fault, didn't fail at its output: its sink is as it was
pub sink_is_as_it_was : (has_log : Bool) (fault : RunFault) (failed : Bool) → CannotBegin has_log fault → FailsAtOutput {X = Tally} failed failed (Err fault)
sink_is_as_it_was has_log fault failed (inl linkless) =
    subst (λ e. FailsAtOutput {X = Tally} failed failed (Err e)) (sym linkless.1) (no_link_keeps_sink linkless.0 failed)
sink_is_as_it_was has_log fault failed (inr logless) = subst (λ e. FailsAtOutput {X = Tally} failed failed (Err e)) (sym logless.1) refl
