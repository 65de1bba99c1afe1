-- Answers, this project's own after the procedure tables of the manual: their shapes, and which parameters are an answer's.
use Rattle.std.specs.Prelude.{◌≡◌, ℕ, List, [], ◌∷◌}
use Rattle.gc_values.specs.Prelude.{rounded, kinds_of, AreParams, AreValues, IsListFault}
use Rattle.gc_values.specs.declared.fault.ValueFault.{ValueFault}
use Rattle.gc_values.specs.declared.value.Value.{Value}
use Rattle.gc_catalogue.specs.declared.answer.Answer.{Answer}
use Rattle.gc_catalogue.specs.declared.answer.Answer.TheVariants.{Nothing, Short, Version, Long, Name, Date, Temperature, Place, Height, Angles, Measured, MeasuredMode}
use Rattle.gc_catalogue.specs.declared.answer.Shape.{Shape}
use Rattle.gc_catalogue.specs.declared.call.Call.{Call}
use Rattle.gc_catalogue.specs.Calls.{call_fields}
use Rattle.gc_catalogue.specs.Structs.{date_values, station_values}
use Rattle.gc_values.specs.declared.value.Value.TheVariants as value
use Rattle.gc_catalogue.specs.declared.answer.Shape.TheVariants as shape

-- an answer's shape, and its values in their order on the line
pub record AnswerFields : Type 0 where
  pub shape : Shape
  pub values : List Value

-- the table of answers: the shape and the values of each
abbrev pub answer_fields : Answer → AnswerFields
answer_fields Nothing = record { shape = shape.Nothing; values = [] }
answer_fields (Short n) = record { shape = shape.Short; values = value.Short n ∷ [] }
answer_fields (Version release version subversion) = record {
  shape = shape.Version;
  values = value.Short release ∷ value.Short version ∷ value.Short subversion ∷ [];
}
answer_fields (Long n) = record { shape = shape.Long; values = value.Long n ∷ [] }
answer_fields (Name name) = record { shape = shape.Name; values = value.Text name ∷ [] }
answer_fields (Date d) = record { shape = shape.Date; values = date_values d }
answer_fields (Temperature t) = record { shape = shape.Temperature; values = value.Double t ∷ [] }
answer_fields (Place s) = record { shape = shape.Place; values = station_values s }
answer_fields (Height h) = record { shape = shape.Height; values = value.Double h ∷ [] }
answer_fields (Angles hz v) = record { shape = shape.Angles; values = value.Double hz ∷ value.Double v ∷ [] }
answer_fields (Measured hz v distance) = record {
  shape = shape.Measured;
  values = value.Double hz ∷ value.Double v ∷ value.Double distance ∷ [];
}
answer_fields (MeasuredMode hz v distance mode) = record {
  shape = shape.MeasuredMode;
  values = value.Double hz ∷ value.Double v ∷ value.Double distance ∷ value.Long mode ∷ [];
}

-- the answer has the shape of the call's answers
abbrev pub IsAnswerOf : Call → Answer → Type 0
IsAnswerOf call answer = (answer_fields answer).shape ≡ (call_fields call).answer

-- the parameters read as the values of this answer, which is one of the call (`IsAnswerOf`)
pub record IsAnswer (call : Call) (params : List ℕ) (answer : Answer) : Type 0 where
  pub of_call : IsAnswerOf call answer
  pub values : AreParams params (answer_fields answer).values

-- the parameters can't be read as an answer of the call, because of this fault
abbrev pub IsUnreadable : Call → List ℕ → ValueFault → Type 0
IsUnreadable call params e = (answer : Answer) × IsAnswerOf call answer × IsListFault (kinds_of (answer_fields answer).values) params e

-- the answer's numbers are in the ranges of their types, and its text, if it has one, is one that a string can have
abbrev pub IsFittingAnswer : Answer → Type 0
IsFittingAnswer answer = AreValues (answer_fields answer).values

-- the answer with each double rounded to the places
abbrev pub rounded_answer : (places : ℕ) → Answer → Answer
rounded_answer places (Temperature t) = Temperature (rounded t places)
rounded_answer places (Place s) =
    Place (record { e0 = rounded s.e0 places; n0 = rounded s.n0 places; h0 = rounded s.h0 places; hi = rounded s.hi places })
rounded_answer places (Height h) = Height (rounded h places)
rounded_answer places (Angles hz v) = Angles (rounded hz places) (rounded v places)
rounded_answer places (Measured hz v distance) = Measured (rounded hz places) (rounded v places) (rounded distance places)
rounded_answer places (MeasuredMode hz v distance mode) = MeasuredMode (rounded hz places) (rounded v places) (rounded distance places) mode
rounded_answer places answer = answer
