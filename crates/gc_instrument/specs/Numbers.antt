-- The temperature that the instrument answers: this project's own.
use Rattle.std.specs.Prelude.{pos, refl}
use Rattle.gc_values.specs.Prelude.{decimal}
use Rattle.gc_values.specs.declared.decimal.Decimal.{Decimal}

-- the temperature inside every instrument, in degrees Celsius
abbrev pub temperature : Decimal
temperature = decimal (pos 21) 0 refl
