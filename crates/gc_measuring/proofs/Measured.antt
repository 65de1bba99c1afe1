-- Status 0 is reported only of a run that is done, or whose end was asked for.
use Rattle.gc_measuring.proofs.Common.{◌≡◌, ℕ, List, Option, Result, Ok, Err, inl, inr, arith, PortsSeen, MeasuresGiven, IsMeasured, ReportsEndOfRun, Settings, Stop, Run, Tally, Output}

-- an end isn't both a value and a stop
ok_is_no_stop : {A : Type 0} (x : A) (stop : Stop) → ◌≡◌ {A = Result A Stop} (Ok x) (Err stop) → ⊥
ok_is_no_stop x stop is = cc

-- where status 0 is reported, the source gave a text to its end, and the run over its tasks is done, or its end was asked for
pub done_at_0 : (station : Settings) (old new : PortsSeen) (end : Result Tally Stop) (status : ℕ) (before after : Option (List ℕ))
    → MeasuresGiven station old new end → ReportsEndOfRun end status before after → status ≡ 0 → IsMeasured station old new
done_at_0 station old new (Ok tally) status before after (given, takes, inl refused) tells zero = absurd (ok_is_no_stop tally refused.0 refused.1)
done_at_0 station old new (Ok tally) status before after (given, takes, inr (all, gives, inl front)) tells zero =
    absurd (ok_is_no_stop tally (Run Output) front.is)
done_at_0 station old new (Ok tally) status before after (given, takes, inr (all, gives, inr behind)) tells zero =
    record { given = given; takes = takes; all = all; gives = gives; tally = tally; ran = behind }
done_at_0 station old new (Err stop) status before after measured tells zero = absurd (omega (arith, tells.0, zero))
