-- Angles as `--check` shows them: in radians, as the text has them, or in the unit in which people read them, rounded. Half a turn is
-- pi to 24 places, as for directions; the places, and which way a tie is rounded, are this project's own.
use Rattle.gc_measuring.specs.Common.{decimal, Call}
use Rattle.std.specs.Prelude.{ℕ, ◌*◌, ◌/◌, ◌%◌, ◌^◌, ◌-◌, ◌&&◌, Bool, List, [], ◌++◌, Option, Some, None, if◌then◌else◌, nat_lt, codes, length, replicate, unsigned_abs}
use Rattle.gc_values.specs.Prelude.{decimal_text, units, is_negative, half_up}
use Rattle.gc_values.specs.declared.decimal.Decimal.{Decimal}
use Rattle.gc_catalogue.specs.declared.asked.Asked.{Asked}
use Rattle.gc_catalogue.specs.declared.asked.Asked.TheVariants.{Table}
use Rattle.gc_catalogue.specs.declared.call.Call.TheVariants.{Position}
use Rattle.gc_texts.specs.declared.agree.Agree.{Agree}
use Rattle.gc_texts.specs.declared.near.Near.{Near}
use Rattle.gc_texts.specs.declared.near.Range.{Range}
use Rattle.gc_options.specs.declared.unit.Unit.{Unit}
use Rattle.gc_options.specs.declared.unit.Unit.TheVariants.{Gon, Degree}

-- half a turn in units of 10^-24 radians, the last place that a decimal may have
abbrev pub half : ℕ
half = 3141592653589793238462643

-- how many of the unit half a turn is
abbrev pub units_a_half_turn : Unit → ℕ
units_a_half_turn Gon = 200
units_a_half_turn Degree = 180

-- how many places an angle is shown with
abbrev pub places_of : Unit → ℕ
places_of Gon = 5
places_of Degree = 6

-- how many units of the last place that is shown half a turn is
abbrev pub scale_of : Unit → ℕ
scale_of unit = units_a_half_turn unit * 10 ^ places_of unit

-- how many units of the last place an angle is that has this many units of 10^-24 radians: the nearest whole number
abbrev pub last_places : Unit → (angle : ℕ) → ℕ
last_places unit angle = half_up (angle * scale_of unit) half

-- a number with as many zeros before it as it takes to have p digits
abbrev pub in_places : (p n : ℕ) → List ℕ
in_places p n = replicate (p - length (decimal n)) 48 ++ decimal n

-- a minus before a number below zero, but none before one that is shown as 0
abbrev pub sign_text : (below : Bool) (n : ℕ) → List ℕ
sign_text below n = if below && nat_lt 0 n then codes "-" else []

-- n / 10^p up to its point, with a minus if it is below zero
abbrev pub front_text : (p : ℕ) (below : Bool) (n : ℕ) → List ℕ
front_text p below n = sign_text below n ++ decimal (n / 10 ^ p) ++ codes "."

-- n / 10^p with p places, and with a minus if it is below zero
abbrev pub placed_text : (p : ℕ) (below : Bool) (n : ℕ) → List ℕ
placed_text p below n = front_text p below n ++ in_places p (n % 10 ^ p)

-- the text of an angle in a unit, which isn't named in it
abbrev pub angle_in : Unit → Decimal → List ℕ
angle_in unit d = placed_text (places_of unit) (is_negative (units d)) (last_places unit (unsigned_abs (units d)))

-- the text of an angle, without its unit: in radians if no unit is asked for
abbrev pub angle_text : Option Unit → Decimal → List ℕ
angle_text None d = decimal_text d
angle_text (Some unit) d = angle_in unit d

-- what the unit is called
abbrev pub unit_text : Option Unit → List ℕ
unit_text None = codes "rad"
unit_text (Some Gon) = codes "gon"
unit_text (Some Degree) = codes "degrees"

-- two angles
abbrev pub angles_text : Option Unit → (between : List ℕ) (d e : Decimal) → List ℕ
angles_text unit between d e = angle_text unit d ++ between ++ angle_text unit e

-- a direction, with its unit
abbrev pub direction_text : Option Unit → (hz v : Decimal) → List ℕ
direction_text unit hz v = angles_text unit (codes " ") hz v ++ (codes " " ++ unit_text unit)

-- where a positioning turns to, if a unit is asked for
abbrev pub turned_text : Option Unit → Asked → List ℕ
turned_text (Some unit) (Table (Position hz v _ _ _)) = codes " to " ++ direction_text (Some unit) hz v
turned_text _ _ = []

-- the end of what says how far apart the answers of two sendings may be: the unit of angles, and the distance
abbrev pub agree_end_text : Option Unit → (distance : Decimal) → List ℕ
agree_end_text unit distance = codes " " ++ unit_text unit ++ codes " and " ++ decimal_text distance ++ codes " m;"

-- how far apart the answers of two sendings may be
abbrev pub agree_text : Option Unit → Agree → List ℕ
agree_text unit agree = codes " twice, to agree within " ++ angles_text unit (codes " and ") agree.hz agree.v ++ agree_end_text unit agree.distance

-- how far away a target is, if the text says so
abbrev pub range_text : Option Range → List ℕ
range_text None = []
range_text (Some range) = codes ", at " ++ decimal_text range.distance ++ codes " within " ++ decimal_text range.tolerance ++ codes " m"

-- how far from its direction a target may be
abbrev pub tolerance_text : Option Unit → Decimal → List ℕ
tolerance_text unit tolerance = codes " within " ++ angle_text unit tolerance

-- where a target is
abbrev pub place_text : Option Unit → Near → List ℕ
place_text unit near = direction_text unit near.place.hz near.place.v ++ tolerance_text unit near.tolerance ++ range_text near.range
