use Rattle.gc_options.proofs.Common.{◌≡◌, true, false}
use Rattle.gc_options.proofs.rehearsal.rehearsal_of.Goals as goal

pub returns-in_err-station-clause-only : goal.returns-in_err-station-clause-only
returns-in_err-station-clause-only c = λ numbers limits.
    let bad : false ≡ true = c.in_err-station.ensures.only numbers.station limits in
    cc
