-- The columns that a described procedure's values may have: this project's own.
use Rattle.gc_texts.specs.Common.{ends_with, list_any, bytes_eq, Kind}
use Rattle.std.specs.Prelude.{ℕ, Bool, true, false, not, ◌==◌, ◌&&◌, List, [], ◌∷◌, if◌then◌else◌, codes}
use Rattle.gc_texts.specs.Fields.{FieldSeen}
use Rattle.gc_values.specs.declared.value.Kind.TheVariants as kind

-- whether a name is one of these
abbrev pub is_among : List (List ℕ) → (name : List ℕ) → Bool
is_among names name = list_any (λ n. bytes_eq n name) names

-- the names of what each row has, whatever was answered
abbrev pub names_of_row : List (List ℕ)
names_of_row =
    codes "run" ∷ codes "sent" ∷ codes "time" ∷ codes "cycle" ∷ codes "step" ∷ codes "target" ∷ codes "name" ∷ codes "procedure"
    ∷ codes "outcome" ∷ codes "fault" ∷ codes "rc_com" ∷ codes "rc" ∷ codes "values" ∷ codes "items" ∷ codes "quality" ∷ codes "attempt"
    ∷ codes "request" ∷ []

-- the names of the table's quantities that are decimals
abbrev pub names_of_decimals : List (List ℕ)
names_of_decimals =
    codes "hz_rad" ∷ codes "v_rad" ∷ codes "distance_m" ∷ codes "easting_m" ∷ codes "northing_m" ∷ codes "height_m"
    ∷ codes "instrument_height_m" ∷ codes "reflector_height_m" ∷ codes "temperature_c" ∷ []

-- the names of the table's quantities that are whole numbers
abbrev pub names_of_wholes : List (List ℕ)
names_of_wholes =
    codes "mode" ∷ codes "face" ∷ codes "prism_type" ∷ codes "places" ∷ codes "release" ∷ codes "version" ∷ codes "subversion"
    ∷ codes "serial" ∷ codes "year" ∷ codes "month" ∷ codes "day" ∷ codes "hour" ∷ codes "minute" ∷ codes "second" ∷ []

-- whether a row has something under this name, whatever was answered
abbrev pub is_name_of_row : List ℕ → Bool
is_name_of_row name = is_among names_of_row name

-- whether this is the name of a quantity of the table that is a decimal
abbrev pub is_name_of_decimal : List ℕ → Bool
is_name_of_decimal name = is_among names_of_decimals name

-- whether this is the name of a quantity of the table that is a whole number
abbrev pub is_name_of_whole : List ℕ → Bool
is_name_of_whole name = is_among names_of_wholes name

-- whether this is the name of the quantity of the table that is a text
abbrev pub is_name_of_text : List ℕ → Bool
is_name_of_text name = bytes_eq name (codes "instrument")

-- whether this is how JSON names what a reply wrote of a number: a column's name with `_text` behind it
abbrev pub ends_as_text : List ℕ → Bool
ends_as_text name = ends_with (λ x y. x == y) name (codes "_text")

-- whether values of a kind are decimals
abbrev pub is_decimal : Kind → Bool
is_decimal kind.Double = true
is_decimal _ = false

-- whether values of a kind are texts
abbrev pub is_text : Kind → Bool
is_text kind.Text = true
is_text _ = false

-- whether values of a kind are whole numbers, of which a Boolean is 0 or 1
abbrev pub is_whole : Kind → Bool
is_whole kind.Double = false
is_whole kind.Text = false
is_whole _ = true

-- whether a value of this kind may have this name: under a name of the table's quantities are values of their sort, and under any other
-- name values of each kind
abbrev pub suits_name : (name : List ℕ) → Kind → Bool
suits_name name k =
    if is_name_of_decimal name then is_decimal k else if is_name_of_whole name then is_whole k else if is_name_of_text name then is_text k else true

-- whether a field may be a column: a row has nothing else under its name, nor under the name that JSON makes of it
abbrev pub is_column : FieldSeen → Bool
is_column f = if is_name_of_row f.name then false else if ends_as_text f.name then false else suits_name f.name f.kind

-- whether one of these fields has this name
abbrev pub is_named : (name : List ℕ) → List FieldSeen → Bool
is_named name fields = list_any (λ f. bytes_eq f.name name) fields

-- whether fields may be the columns of an answer: each may be a column, and no two have one name
abbrev pub are_columns : List FieldSeen → Bool
are_columns [] = true
are_columns (f ∷ fs) = is_column f && not (is_named f.name fs) && are_columns fs
