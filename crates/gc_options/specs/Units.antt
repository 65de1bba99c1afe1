-- The unit in which people read angles, as the words ask for it: this project's own.
use Rattle.std.specs.Prelude.{List, ℕ, Option, Some, None, codes, if◌then◌else◌}
use Rattle.std.specs.Str.{bytes_eq}
use Rattle.gc_options.specs.Words.{Words, text_in}
use Rattle.gc_options.specs.declared.unit.Unit.{Unit}
use Rattle.gc_options.specs.declared.unit.Unit.TheVariants as unit

-- the unit of this name, if there is one
abbrev pub unit_named : List ℕ → Option Unit
unit_named name = if bytes_eq name (codes "gon") then Some unit.Gon else (if bytes_eq name (codes "degree") then Some unit.Degree else None)

-- the unit that is asked for by a name; `None` if the name is that of no unit
abbrev pub asked_unit : Option Unit → Option (Option Unit)
asked_unit None = None
asked_unit (Some unit) = Some (Some unit)

-- the unit that is asked for by the text of the option: none without one, and `None` if it is the name of no unit
abbrev pub unit_by : Option (List ℕ) → Option (Option Unit)
unit_by None = Some None
unit_by (Some name) = asked_unit (unit_named name)

-- the unit that the words ask for by `--unit`: `Some None` if they ask for none, and `None` if what they name is no unit
abbrev pub unit_in : Words → Option (Option Unit)
unit_in words = unit_by (text_in words (codes "unit"))
