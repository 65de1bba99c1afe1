-- How many values an answer has: as many as the procedure tables of the manual list for its procedure.
use Rattle.gc_measuring.specs.Common.{answer_fields, IsAnswerOf, call_fields, Call}
use Rattle.std.specs.Prelude.{◌≡◌, ℕ, length}
use Rattle.gc_catalogue.specs.declared.answer.Answer.{Answer}
use Rattle.gc_catalogue.specs.declared.answer.Shape.{Shape}
use Rattle.gc_catalogue.specs.declared.answer.Shape.TheVariants.{Nothing, Short, Version, Long, Name, Date, Temperature, Place, Height, Angles, Measured, MeasuredMode}

-- how many values an answer of this shape has
abbrev pub values_of_shape : Shape → ℕ
values_of_shape Nothing = 0
values_of_shape Short = 1
values_of_shape Version = 3
values_of_shape Long = 1
values_of_shape Name = 1
values_of_shape Date = 6
values_of_shape Temperature = 1
values_of_shape Place = 4
values_of_shape Height = 1
values_of_shape Angles = 2
values_of_shape Measured = 3
values_of_shape MeasuredMode = 4

-- how many values an answer to a call has
abbrev pub values_answered : Call → ℕ
values_answered call = values_of_shape (call_fields call).answer

-- each answer to a call has so many values
abbrev pub AnswersHaveTheirCount : Type 0
AnswersHaveTheirCount = (call : Call) (answer : Answer) → IsAnswerOf call answer → length (answer_fields answer).values ≡ values_answered call
