-- Which quantities a procedure returns, and how many fields a row has. A procedure's number and what it returns are those of the manual's
-- procedure tables; the names are this project's own.
use Rattle.gc_rows.specs.Common.{answer_fields, IsAnswerOf, call_fields, Answer, Call, Value}
use Rattle.std.specs.Prelude.{◌≡◌, ℕ, ◌+◌, ◌==◌, ◌||◌, Bool, List, [], ◌∷◌, ◌++◌, length, Option, Some, None, IfSome, if◌then◌else◌, codes}
use Rattle.gc_rows.specs.Quantities.{column_of, column_of_whole, quantity_name}
use Rattle.gc_rows.specs.Records.{header}
use Rattle.gc_rows.specs.Columns.{Entry, row_fields}

-- the names of the two measured angles
abbrev pub angle_names : List (List ℕ)
angle_names = codes "hz_rad" ∷ codes "v_rad" ∷ []

-- the names of the two measured angles and the slope distance
abbrev pub measured_names : List (List ℕ)
measured_names = angle_names ++ codes "distance_m" ∷ []

-- the names of a version's three numbers
abbrev pub version_names : List (List ℕ)
version_names = codes "release" ∷ codes "version" ∷ codes "subversion" ∷ []

-- the names of the quantities that the procedure with this number returns, in their order on the line; none for a number that
-- isn't listed here
abbrev pub quantities_returned : ℕ → List (List ℕ)
quantities_returned rpc =
    -- COM_GetDoublePrecision
    if rpc == 108 then codes "places" ∷ []
    -- COM_GetSWVersion, CSV_GetSWVersion
    else if (rpc == 110) || (rpc == 5034) then version_names
    -- CSV_GetInstrumentNo, CSV_GetInstrumentName
    else if rpc == 5003 then codes "serial" ∷ []
    else if rpc == 5004 then codes "instrument" ∷ []
    -- CSV_GetDateTime
    else if rpc == 5008 then codes "year" ∷ codes "month" ∷ codes "day" ∷ codes "hour" ∷ codes "minute" ∷ codes "second" ∷ []
    -- CSV_GetIntTemp
    else if rpc == 5011 then codes "temperature_c" ∷ []
    -- TMC_GetStation, TMC_GetHeight, TMC_GetFace
    else if rpc == 2009 then codes "easting_m" ∷ codes "northing_m" ∷ codes "height_m" ∷ codes "instrument_height_m" ∷ []
    else if rpc == 2011 then codes "reflector_height_m" ∷ []
    else if rpc == 2026 then codes "face" ∷ []
    -- TMC_GetAngle
    else if rpc == 2107 then angle_names
    -- TMC_GetSimpleMea, TMC_QuickDist
    else if (rpc == 2108) || (rpc == 2117) then measured_names
    -- BAP_GetPrismType, BAP_MeasDistanceAngle
    else if rpc == 17009 then codes "prism_type" ∷ []
    else if rpc == 17017 then measured_names ++ codes "mode" ∷ []
    else []

-- the names of the columns from number `column` on, one for each of these values
abbrev pub names_from : (column : ℕ) → List Value → List (List ℕ)
names_from column [] = []
names_from column (v ∷ vs) = quantity_name column ∷ names_from (column + 1) vs

-- the names of as many columns as there are values, from this column on (`names_from`); none if there is no column
abbrev pub names_if : Option ℕ → List Value → List (List ℕ)
names_if (Some first) values = names_from first values
names_if None values = []

-- the values of an answer are under the names of the quantities that its procedure returns, in that order; under none, if it
-- returns no quantity
abbrev pub QuantitiesHaveTheirNames : Type 0
QuantitiesHaveTheirNames =
    (call : Call) (answer : Answer) → IsAnswerOf call answer
    → names_if (column_of call answer) (answer_fields answer).values ≡ quantities_returned (call_fields call).number

-- an answer that is one whole number has a column only if the column's name is the one quantity that the call's procedure returns.
-- So the number has none, if the procedure isn't listed
abbrev pub WholesHaveTheirNames : Type 0
WholesHaveTheirNames =
    (call : Call) → IfSome (column_of_whole call) (λ column. quantities_returned (call_fields call).number ≡ quantity_name column ∷ [])

-- however a command ended, its row has a field for each name of the header, and no other
abbrev pub RowsFillTheirColumns : Type 0
RowsFillTheirColumns = (has_quantities : Bool) (r : Entry) → length (row_fields has_quantities r) ≡ length (header has_quantities r.columns)
