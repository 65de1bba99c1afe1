use Rattle.gc_scenes.proofs.Common.{refl, lit≤, false≢true}
use Rattle.gc_scenes.proofs.Shifts.{sum_is, shifted_made, shifted_kept}
use Rattle.gc_scenes.proofs.shifting.shifted.Goals as goal

pub returns-in-Ok : goal.returns-in-Ok
returns-in-Ok c =
    shifted_made c.args.d.now c.in-Ok.moved c.args.by _ (sum_is c.args.d.now c.units.result c.args.by c.units.ensures.value c.units.ensures.bound c.requires)
    c.in-Ok.ensures.value (c.in-Ok.ensures.exact.0 refl).1

pub returns-in-Err : goal.returns-in-Err
returns-in-Err c =
    shifted_kept c.args.d.now c.args.by _ (sum_is c.args.d.now c.units.result c.args.by c.units.ensures.value c.units.ensures.bound c.requires)
    (λ within. false≢true (c.in-Err.ensures.exact.1 (lit≤ tt, within)))
