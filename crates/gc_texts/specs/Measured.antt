-- Where an answer of a described procedure was measured, by the names of its columns: this project's own.
use Rattle.gc_texts.specs.Common.{bytes_eq, Decimal, Direction, Value}
use Rattle.std.specs.Prelude.{ℕ, List, [], ◌∷◌, drop, Option, None, Some, if◌then◌else◌, codes}
use Rattle.gc_texts.specs.Fields.{FieldSeen}
use Rattle.gc_values.specs.declared.value.Value.TheVariants as value

-- the first value, if there is one
abbrev pub first_value : List Value → Option Value
first_value [] = None
first_value (v ∷ vs) = Some v

-- the value in the column of this name, of values that are in the order of these fields
abbrev pub value_under : (name : List ℕ) → List FieldSeen → List Value → Option Value
value_under name [] values = None
value_under name (f ∷ fs) values = if bytes_eq f.name name then first_value values else value_under name fs (drop 1 values)

-- the decimal that a value is, if it is one
abbrev pub decimal_in : Option Value → Option Decimal
decimal_in (Some (value.Double d)) = Some d
decimal_in _ = None

-- the direction of two angles, if both are there
abbrev pub direction_from : (hz v : Option Decimal) → Option Direction
direction_from (Some hz) (Some v) = Some (record { hz = hz; v = v })
direction_from _ _ = None

-- the direction in which an answer with these values was measured: what is in the columns `hz_rad` and `v_rad`
abbrev pub measured_direction : List FieldSeen → List Value → Option Direction
measured_direction fields values = direction_from (decimal_in (value_under (codes "hz_rad") fields values)) (decimal_in (value_under (codes "v_rad") fields values))

-- the distance that an answer with these values has: what is in the column `distance_m`
abbrev pub measured_distance : List FieldSeen → List Value → Option Decimal
measured_distance fields values = decimal_in (value_under (codes "distance_m") fields values)
