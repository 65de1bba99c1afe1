-- The names of the procedures, which are those of the manual's procedure tables.
use Rattle.std.specs.Prelude.{ℕ, List, codes}
use Rattle.gc_catalogue.specs.declared.call.Call.{Call}
use Rattle.gc_catalogue.specs.declared.call.Call.TheVariants.{NullProc, SetPrecision, GetPrecision, ComVersion, InstrumentNo, InstrumentName, SetDate, GetDate, IntTemp, CsvVersion, DoMeasure, GetStation, SetStation, GetHeight, SetHeight, GetFace, GetAngle, SimpleMea, QuickDist, SetPrism, GetPrism, MeasDistance, Position, ChangeFace, FineAdjust}

-- the name of a call's procedure
abbrev pub call_name : Call → List ℕ
call_name NullProc = codes "COM_NullProc"
call_name (SetPrecision places) = codes "COM_SetDoublePrecision"
call_name GetPrecision = codes "COM_GetDoublePrecision"
call_name ComVersion = codes "COM_GetSWVersion"
call_name InstrumentNo = codes "CSV_GetInstrumentNo"
call_name InstrumentName = codes "CSV_GetInstrumentName"
call_name (SetDate d) = codes "CSV_SetDateTime"
call_name GetDate = codes "CSV_GetDateTime"
call_name IntTemp = codes "CSV_GetIntTemp"
call_name CsvVersion = codes "CSV_GetSWVersion"
call_name (DoMeasure command mode) = codes "TMC_DoMeasure"
call_name GetStation = codes "TMC_GetStation"
call_name (SetStation s) = codes "TMC_SetStation"
call_name GetHeight = codes "TMC_GetHeight"
call_name (SetHeight height) = codes "TMC_SetHeight"
call_name GetFace = codes "TMC_GetFace"
call_name (GetAngle mode) = codes "TMC_GetAngle"
call_name (SimpleMea wait mode) = codes "TMC_GetSimpleMea"
call_name QuickDist = codes "TMC_QuickDist"
call_name (SetPrism prism) = codes "BAP_SetPrismType"
call_name GetPrism = codes "BAP_GetPrismType"
call_name (MeasDistance mode) = codes "BAP_MeasDistanceAngle"
call_name (Position hz v pos_mode atr_mode dummy) = codes "AUT_MakePositioning"
call_name (ChangeFace pos_mode atr_mode dummy) = codes "AUT_ChangeFace"
call_name (FineAdjust area_hz area_v dummy) = codes "AUT_FineAdjust"
