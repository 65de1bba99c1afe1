use Rattle.gc_instrument.proofs.Common.{rules, FitsSigned, w32, to_z-of_z}
use Rattle.gc_instrument.proofs.instrument.Instrument.carry_out.Goals as goal

pub returns-in-MeasDistance : goal.returns-in-MeasDistance
returns-in-MeasDistance c =
    let fits : FitsSigned w32 c.in-MeasDistance.mode = search rules in
    let h = simp to_z-of_z at c.measure_in_mode.ensures in
    rw c.in-MeasDistance.is h
