use Rattle.gc_measuring.proofs.Common.{◌*◌, lit<, refl, half_up_rounds}
use Rattle.gc_measuring.specs.Angles.{half, scale_of}
use Rattle.gc_measuring.proofs.laws.shown_angles_are_nearest.Goals as goal

pub returns-clause-nearest : goal.returns-clause-nearest
returns-clause-nearest c unit angle = half_up_rounds (angle * scale_of unit) half (lit< tt)

pub returns-clause-half_turn : goal.returns-clause-half_turn
returns-clause-half_turn c = refl
