use Rattle.gc_station.proofs.Common.{sym, ◌∙◌}
use Rattle.gc_station.proofs.Faulty.{failed_with_its_fault}
use Rattle.gc_station.proofs.Noting.{faulty_keeps}
use Rattle.gc_station.proofs.Readings.{for_readings}
use Rattle.gc_station.proofs.run.run_station.Goals as goal

pub returns-in-None-clause-ran : goal.returns-in-None-clause-ran
returns-in-None-clause-ran g c =
    for_readings _ (λ reads are.
    (c.in-Ok.cause, c.in-Ok.ensures.ran reads are, sym c.fault.ensures ∙ c.in-None.is))

pub returns-in-Some-clause-ran : goal.returns-in-Some-clause-ran
returns-in-Some-clause-ran g c =
    for_readings _ (λ reads are. failed_with_its_fault _ _ _ _ _ _ _ _ _ c.in-Ok.cause c.in-Some.fault (sym c.fault.ensures ∙ c.in-Some.is) (c.in-Ok.ensures.ran reads are))

pub returns-in-Err-clause-ran : goal.returns-in-Err-clause-ran
returns-in-Err-clause-ran g c = for_readings _ (λ reads are. c.in-Err.ensures.ran reads are)

pub returns-in-None-clause-keeps : goal.returns-in-None-clause-keeps
returns-in-None-clause-keeps g c = for_readings _ (λ reads are. c.in-Ok.ensures.keeps reads are)

pub returns-in-Some-clause-keeps : goal.returns-in-Some-clause-keeps
returns-in-Some-clause-keeps g c =
    for_readings _ (λ reads are. faulty_keeps _ _ _ _ _ _ _ _ _ c.in-Ok.cause c.in-Some.fault (sym c.fault.ensures ∙ c.in-Some.is) (c.in-Ok.ensures.keeps reads are))

pub returns-in-Err-clause-keeps : goal.returns-in-Err-clause-keeps
returns-in-Err-clause-keeps g c = for_readings _ (λ reads are. c.in-Err.ensures.keeps reads are)
