-- Calls: the table of procedures, and which parameters are a call's. Numbers and names are those of the manual's procedure
-- tables; which parameters a procedure has, and of which kinds, is this project's own after them.
use Rattle.std.specs.Prelude.{◌≡◌, ◌≢◌, ℕ, List, [], ◌∷◌, length}
use Rattle.gc_lines.specs.declared.request.Request.{Request}
use Rattle.gc_values.specs.declared.value.Value.{Value}
use Rattle.gc_values.specs.declared.value.Value.TheVariants.{Double, Long, Short, Bool}
use Rattle.gc_catalogue.specs.declared.fault.CallFault.{CallFault}
use Rattle.gc_catalogue.specs.declared.fault.CallFault.TheVariants.{Unknown, Parameters}
use Rattle.gc_catalogue.specs.declared.answer.Shape.{Shape}
use Rattle.gc_catalogue.specs.declared.call.Call.{Call}
use Rattle.gc_catalogue.specs.declared.call.Call.TheVariants.{NullProc, SetPrecision, GetPrecision, ComVersion, InstrumentNo, InstrumentName, SetDate, GetDate, IntTemp, CsvVersion, DoMeasure, GetStation, SetStation, GetHeight, SetHeight, GetFace, GetAngle, SimpleMea, QuickDist, SetPrism, GetPrism, MeasDistance, Position, ChangeFace, FineAdjust}
use Rattle.gc_catalogue.specs.Structs.{date_values, station_values}
use Rattle.gc_values.specs.Prelude.{kinds_of, AreParams, AreValues, IsListFault}
use Rattle.gc_catalogue.specs.declared.answer.Shape.TheVariants as shape

-- a procedure's number, the values of its parameters in their order on the line, and the shape of its answer
pub record CallFields : Type 0 where
  pub number : ℕ
  pub values : List Value
  pub answer : Shape

-- the table of procedures: the number, the values and the answer's shape of each call, under the manual's name of its procedure
abbrev pub call_fields : Call → CallFields
-- COM_NullProc
call_fields NullProc = record { number = 0; values = []; answer = shape.Nothing }
-- COM_SetDoublePrecision
call_fields (SetPrecision places) = record { number = 107; values = Short places ∷ []; answer = shape.Nothing }
-- COM_GetDoublePrecision
call_fields GetPrecision = record { number = 108; values = []; answer = shape.Short }
-- COM_GetSWVersion
call_fields ComVersion = record { number = 110; values = []; answer = shape.Version }
-- CSV_GetInstrumentNo
call_fields InstrumentNo = record { number = 5003; values = []; answer = shape.Long }
-- CSV_GetInstrumentName
call_fields InstrumentName = record { number = 5004; values = []; answer = shape.Name }
-- CSV_SetDateTime
call_fields (SetDate d) = record { number = 5007; values = date_values d; answer = shape.Nothing }
-- CSV_GetDateTime
call_fields GetDate = record { number = 5008; values = []; answer = shape.Date }
-- CSV_GetIntTemp
call_fields IntTemp = record { number = 5011; values = []; answer = shape.Temperature }
-- CSV_GetSWVersion
call_fields CsvVersion = record { number = 5034; values = []; answer = shape.Version }
-- TMC_DoMeasure
call_fields (DoMeasure command mode) = record { number = 2008; values = Long command ∷ Long mode ∷ []; answer = shape.Nothing }
-- TMC_GetStation
call_fields GetStation = record { number = 2009; values = []; answer = shape.Place }
-- TMC_SetStation
call_fields (SetStation s) = record { number = 2010; values = station_values s; answer = shape.Nothing }
-- TMC_GetHeight
call_fields GetHeight = record { number = 2011; values = []; answer = shape.Height }
-- TMC_SetHeight
call_fields (SetHeight height) = record { number = 2012; values = Double height ∷ []; answer = shape.Nothing }
-- TMC_GetFace
call_fields GetFace = record { number = 2026; values = []; answer = shape.Long }
-- TMC_GetAngle
call_fields (GetAngle mode) = record { number = 2107; values = Long mode ∷ []; answer = shape.Angles }
-- TMC_GetSimpleMea
call_fields (SimpleMea wait mode) = record { number = 2108; values = Long wait ∷ Long mode ∷ []; answer = shape.Measured }
-- TMC_QuickDist
call_fields QuickDist = record { number = 2117; values = []; answer = shape.Measured }
-- BAP_SetPrismType
call_fields (SetPrism prism) = record { number = 17008; values = Long prism ∷ []; answer = shape.Nothing }
-- BAP_GetPrismType
call_fields GetPrism = record { number = 17009; values = []; answer = shape.Long }
-- BAP_MeasDistanceAngle
call_fields (MeasDistance mode) = record { number = 17017; values = Long mode ∷ []; answer = shape.MeasuredMode }
-- AUT_MakePositioning
call_fields (Position hz v pos_mode atr_mode dummy) = record {
  number = 9027;
  values = Double hz ∷ Double v ∷ Long pos_mode ∷ Long atr_mode ∷ Bool dummy ∷ [];
  answer = shape.Nothing;
}
-- AUT_ChangeFace
call_fields (ChangeFace pos_mode atr_mode dummy) = record {
  number = 9028;
  values = Long pos_mode ∷ Long atr_mode ∷ Bool dummy ∷ [];
  answer = shape.Nothing;
}
-- AUT_FineAdjust
call_fields (FineAdjust area_hz area_v dummy) = record {
  number = 9037;
  values = Double area_hz ∷ Double area_v ∷ Bool dummy ∷ [];
  answer = shape.Nothing;
}

-- a procedure of the table has the number
abbrev pub IsProcedure : ℕ → Type 0
IsProcedure rpc = (call : Call) × ((call_fields call).number ≡ rpc)

-- no procedure of the table has the number
abbrev pub IsNoProcedure : ℕ → Type 0
IsNoProcedure rpc = (call : Call) → (call_fields call).number ≢ rpc

-- where a procedure of the table has the number, it has `count` parameters
abbrev pub IsParameterCount : (rpc count : ℕ) → Type 0
IsParameterCount rpc count = (call : Call) → (call_fields call).number ≡ rpc → count ≡ length (call_fields call).values

-- a request with this number and these parameters is a request for the call: the number is that of the call's procedure, and the
-- parameters read as the call's values
pub record IsCall (rpc : ℕ) (params : List ℕ) (call : Call) : Type 0 where
  pub number : (call_fields call).number ≡ rpc
  pub values : AreParams params (call_fields call).values

-- the fault for which the number and the parameters are no call's: no procedure has the number, or the parameters can't be read
-- as those of the procedure with the number
abbrev pub IsRefusal : (rpc : ℕ) → (params : List ℕ) → CallFault → Type 0
IsRefusal rpc params Unknown = IsNoProcedure rpc
IsRefusal rpc params (Parameters e) =
    (call : Call) × ((call_fields call).number ≡ rpc) × IsListFault (kinds_of (call_fields call).values) params e

-- the call's numbers are in the ranges of their types
abbrev pub IsFitting : Call → Type 0
IsFitting call = AreValues (call_fields call).values

-- the request is one for the call, by its number and its parameters
abbrev pub IsCallOf : Request → Call → Type 0
IsCallOf request call = IsCall request.rpc request.params.now call

-- the fault for which the request is for no call, by its number and its parameters
abbrev pub IsRefusalOf : Request → CallFault → Type 0
IsRefusalOf request e = IsRefusal request.rpc request.params.now e
