-- The targets of a scene, and which of them an instrument meets: this project's own.
use Rattle.std.specs.Prelude.{◌&&◌, Bool, List, Option, find}
use Rattle.gc_values.specs.Prelude.{decimal_eq, is_within, zero}
use Rattle.gc_values.specs.declared.decimal.Decimal.{Decimal}
use Rattle.gc_instrument.specs.declared.pointing.Pointing.{Pointing}
use Rattle.gc_instrument.specs.declared.target.Target.{Target}

-- a target of zeros, which is in the unused places of a scene
abbrev pub nowhere : Target
nowhere = record { hz = zero; v = zero; distance = zero }

-- whether the target lies exactly where the telescope points
abbrev pub is_at : Pointing → Target → Bool
is_at p t = decimal_eq t.hz p.hz && decimal_eq t.v p.v

-- whether both angles of the target differ from the telescope's by at most these areas
abbrev pub is_within_areas : Pointing → (area_hz area_v : Decimal) → Target → Bool
is_within_areas p area_hz area_v t = is_within t.hz p.hz area_hz && is_within t.v p.v area_v

-- the first target that lies exactly where the telescope points, if there is one
abbrev pub first_at : Pointing → List Target → Option Target
first_at p scene = find (is_at p) scene

-- the first target whose angles differ from the telescope's by at most these areas, if there is one
abbrev pub first_within : Pointing → (area_hz area_v : Decimal) → List Target → Option Target
first_within p area_hz area_v scene = find (is_within_areas p area_hz area_v) scene
