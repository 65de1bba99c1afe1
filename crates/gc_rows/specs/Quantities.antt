-- Quantities: the values of an answer, each as a text, and the columns in which they are. Their names and their order are this
-- project's own, and their units the manual's: angles in radians, lengths in metres, a temperature in degrees Celsius.
use Rattle.gc_rows.specs.Common.{decimal, Answer, Call, text, Value}
use Rattle.std.specs.Prelude.{ℕ, List, [], ◌∷◌, Option, Some, None, get_or, codes}
use Rattle.gc_catalogue.specs.declared.answer.Answer.TheVariants.{Nothing, Short, Version, Long, Name, Date, Temperature, Place, Height, Angles, Measured, MeasuredMode}
use Rattle.gc_catalogue.specs.declared.call.Call.TheVariants.{GetFace, GetPrism, GetPrecision, InstrumentNo}
use Rattle.gc_values.specs.declared.value.Value.TheVariants as value

-- the names of the quantities, in the order of their columns
abbrev pub quantity_names : List (List ℕ)
quantity_names =
    codes "hz_rad" ∷ codes "v_rad" ∷ codes "distance_m" ∷ codes "mode"
    ∷ codes "easting_m" ∷ codes "northing_m" ∷ codes "height_m" ∷ codes "instrument_height_m"
    ∷ codes "reflector_height_m" ∷ codes "face" ∷ codes "prism_type" ∷ codes "temperature_c"
    ∷ codes "places" ∷ codes "release" ∷ codes "version" ∷ codes "subversion"
    ∷ codes "serial" ∷ codes "instrument" ∷ codes "year" ∷ codes "month"
    ∷ codes "day" ∷ codes "hour" ∷ codes "minute" ∷ codes "second" ∷ []

-- the name of the quantity in a column, counted from 0; empty for a column after the last
abbrev pub quantity_name : ℕ → List ℕ
quantity_name column = get_or quantity_names column []

-- the column of an answer that is one whole number, by the call: that of a face, of a type of prism, of a number of places, or of
-- a serial number. `None` for any other call: its number is no quantity
abbrev pub column_of_whole : Call → Option ℕ
column_of_whole GetFace = Some 9
column_of_whole GetPrism = Some 10
column_of_whole GetPrecision = Some 12
column_of_whole InstrumentNo = Some 16
column_of_whole _ = None

-- the column of the first value of a call's answer, counted from 0; each other value has the next column. `None` if the answer has
-- no quantity
abbrev pub column_of : Call → Answer → Option ℕ
column_of call Nothing = None
column_of call (Angles hz v) = Some 0
column_of call (Measured hz v distance) = Some 0
column_of call (MeasuredMode hz v distance mode) = Some 0
column_of call (Place s) = Some 4
column_of call (Height h) = Some 8
column_of call (Temperature t) = Some 11
column_of call (Version release version subversion) = Some 13
column_of call (Name name) = Some 17
column_of call (Date d) = Some 18
column_of call (Short n) = column_of_whole call
column_of call (Long n) = column_of_whole call

-- a value as a quantity: a number in its one written form, a byte as a number, a boolean as 0 or 1, and the bytes of a text without
-- their quotes
abbrev pub quantity_text : Value → List ℕ
quantity_text (value.Byte n) = decimal n
quantity_text (value.Text bytes) = bytes
quantity_text v = text v
