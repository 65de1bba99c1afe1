-- A run that stopped for a cause fails with the fault of that cause. An act is one call on the link, with its result. `told`
-- and `told'` are what the link had recorded before the run and after it, `taken` and `taken'` what the book had taken.
use Rattle.gc_station.proofs.Common.{◌≡◌, ℕ, List, Option, Some, Err, refl, subst, Act, RunFault, Task, fault_of_cause, Record, Ran, RanTo, Scope, Cause, Done, Dead, Write, Clock, Turns, Stale, Stopped, SetUp, Plan, Tally}
use Rattle.gc_station.specs.declared.cause.Cause.TheVariants.{Read, End, Open}
use Rattle.gc_texts.specs.declared.fault.RunFault.TheVariants as fault

module _ (plan : Plan) (commands : List Task) (scope : Scope) (text : Record → List ℕ) (told told' : Option (List Act)) (taken taken' : Option (List ℕ)) (tally : Tally) where
  -- the run stopped for this cause
  abbrev StoppedFor : Cause → Type 0
  StoppedFor cause = RanTo plan commands scope text told told' taken taken' cause tally

  -- the run failed with this fault
  abbrev FailedWith : RunFault → Type 0
  FailedWith why = Ran plan commands scope text told told' taken taken' (Err why)

  -- a run that stopped for a cause failed with the fault of that cause
  pub failed_with_its_fault : (cause : Cause) (why : RunFault) → fault_of_cause cause ≡ Some why → StoppedFor cause → FailedWith why
  failed_with_its_fault Done why e ran = absurd (cc)
  failed_with_its_fault Dead why e ran = let same : fault.Mute ≡ why = cc in subst FailedWith same (Dead, tally, ran, refl)
  failed_with_its_fault Read why e ran = let same : fault.Read ≡ why = cc in subst FailedWith same (Read, tally, ran, refl)
  failed_with_its_fault End why e ran = let same : fault.LinkClosed ≡ why = cc in subst FailedWith same (End, tally, ran, refl)
  failed_with_its_fault (Write requests bytes) why e ran = let same : fault.Write requests bytes ≡ why = cc in subst FailedWith same (Write requests bytes, tally, ran, refl)
  failed_with_its_fault Clock why e ran = let same : fault.Clock ≡ why = cc in subst FailedWith same (Clock, tally, ran, refl)
  failed_with_its_fault Open why e ran = let same : fault.Socket ≡ why = cc in subst FailedWith same (Open, tally, ran, refl)
  failed_with_its_fault SetUp why e ran = let same : fault.SetUp ≡ why = cc in subst FailedWith same (SetUp, tally, ran, refl)
  failed_with_its_fault Turns why e ran = let same : fault.TooManyReads ≡ why = cc in subst FailedWith same (Turns, tally, ran, refl)
  failed_with_its_fault Stale why e ran = let same : fault.Stale ≡ why = cc in subst FailedWith same (Stale, tally, ran, refl)
  failed_with_its_fault Stopped why e ran = absurd (cc)
