-- The names of the procedures by their numbers: those of the manual's procedure tables.
use Rattle.gc_texts.specs.Common.{call_fields, call_name, Call, NullProc, SetPrecision, GetPrecision, ComVersion, InstrumentNo, InstrumentName, SetDate, GetDate, IntTemp, CsvVersion, DoMeasure, GetStation, SetStation, GetHeight, SetHeight, GetFace, GetAngle, SimpleMea, QuickDist, SetPrism, GetPrism, MeasDistance, Position, ChangeFace, FineAdjust, zero}
use Rattle.std.specs.Prelude.{ℕ, ◌==◌, pos, false, List, [], ◌∷◌, if◌then◌else◌}

-- a call of each procedure; its parameters don't matter
abbrev pub each_procedure : List Call
each_procedure =
    NullProc ∷ SetPrecision (pos 0) ∷ GetPrecision ∷ ComVersion ∷ InstrumentNo ∷ InstrumentName
    ∷ SetDate (record { year = pos 0; month = 0; day = 0; hour = 0; minute = 0; second = 0 }) ∷ GetDate ∷ IntTemp ∷ CsvVersion ∷ DoMeasure (pos 0) (pos 0)
    ∷ GetStation ∷ SetStation (record { e0 = zero; n0 = zero; h0 = zero; hi = zero }) ∷ GetHeight ∷ SetHeight zero ∷ GetFace ∷ GetAngle (pos 0)
    ∷ SimpleMea (pos 0) (pos 0) ∷ QuickDist ∷ SetPrism (pos 0) ∷ GetPrism ∷ MeasDistance (pos 0) ∷ Position zero zero (pos 0) (pos 0) false
    ∷ ChangeFace (pos 0) (pos 0) false ∷ FineAdjust zero zero false ∷ []

-- the name of the first of these calls whose procedure has this number; empty where none has
abbrev pub name_among : List Call → ℕ → List ℕ
name_among [] rpc = []
name_among (call ∷ calls) rpc = if (call_fields call).number == rpc then call_name call else name_among calls rpc

-- the name of the procedure with this number; empty where no procedure of the table has it
abbrev pub name_in_table : ℕ → List ℕ
name_in_table rpc = name_among each_procedure rpc
