-- The values of an answer are under their names, and a row has as many fields as its header.
use Rattle.gc_rows.proofs.Common.{length, refl, sym, ap, ◌∙◌, length-map, Nothing, Short, Version, Long, Name, Date, Temperature, Place, Height, Angles, Measured, MeasuredMode, NullProc, SetPrecision, GetPrecision, ComVersion, InstrumentNo, InstrumentName, SetDate, GetDate, IntTemp, CsvVersion, DoMeasure, GetStation, SetStation, GetHeight, SetHeight, GetFace, GetAngle, SimpleMea, QuickDist, SetPrism, GetPrism, MeasDistance, Position, ChangeFace, FineAdjust, field_of, cells_in, row_columns, QuantitiesHaveTheirNames, WholesHaveTheirNames, RowsFillTheirColumns}
use Rattle.gc_rows.proofs.Lookup.{names_in}

-- the law: the values of an answer are under the names of the quantities that its procedure returns
pub quantities_under_their_names : QuantitiesHaveTheirNames
quantities_under_their_names GetPrecision (Short n) is = refl
quantities_under_their_names ComVersion (Version release version subversion) is = refl
quantities_under_their_names InstrumentNo (Long n) is = refl
quantities_under_their_names InstrumentName (Name name) is = refl
quantities_under_their_names GetDate (Date d) is = refl
quantities_under_their_names IntTemp (Temperature t) is = refl
quantities_under_their_names CsvVersion (Version release version subversion) is = refl
quantities_under_their_names GetStation (Place s) is = refl
quantities_under_their_names GetHeight (Height h) is = refl
quantities_under_their_names GetFace (Long n) is = refl
quantities_under_their_names (GetAngle mode) (Angles hz v) is = refl
quantities_under_their_names (SimpleMea wait mode) (Measured hz v distance) is = refl
quantities_under_their_names QuickDist (Measured hz v distance) is = refl
quantities_under_their_names GetPrism (Long n) is = refl
quantities_under_their_names (MeasDistance mode) (MeasuredMode hz v distance mode') is = refl
quantities_under_their_names NullProc Nothing is = refl
quantities_under_their_names (SetPrecision n) Nothing is = refl
quantities_under_their_names (SetDate d) Nothing is = refl
quantities_under_their_names (DoMeasure command mode) Nothing is = refl
quantities_under_their_names (SetStation s) Nothing is = refl
quantities_under_their_names (SetHeight height) Nothing is = refl
quantities_under_their_names (SetPrism prism) Nothing is = refl
quantities_under_their_names (Position hz v pos_mode atr_mode dummy) Nothing is = refl
quantities_under_their_names (ChangeFace pos_mode atr_mode dummy) Nothing is = refl
quantities_under_their_names (FineAdjust area_hz area_v dummy) Nothing is = refl
quantities_under_their_names call answer is = cc

-- the law: an answer that is one whole number has a column only if its name is the one that the call's procedure returns
pub wholes_under_their_names : WholesHaveTheirNames
wholes_under_their_names GetFace = refl
wholes_under_their_names GetPrism = refl
wholes_under_their_names GetPrecision = refl
wholes_under_their_names InstrumentNo = refl
wholes_under_their_names call = tt

-- the law: each row has a field for each name of its header
pub each_row_fills_its_columns : RowsFillTheirColumns
each_row_fills_its_columns has_quantities r =
    let columns = row_columns has_quantities r.columns in
    let cells = cells_in columns r in
    length-map cells (λ c. field_of c.content) ∙ sym (length-map cells (λ c. c.name)) ∙ ap length (names_in columns r)
