-- How many values an answer has.
use Rattle.gc_measuring.proofs.Common.{◌≡◌, ◌∙◌, length, ap, refl, answer_fields}
use Rattle.gc_catalogue.specs.declared.answer.Answer.{Answer}
use Rattle.gc_catalogue.specs.declared.answer.Answer.TheVariants.{Nothing, Short, Version, Long, Name, Date, Temperature, Place, Height, Angles, Measured, MeasuredMode}
use Rattle.gc_measuring.specs.ValueCounts.{AnswersHaveTheirCount, values_of_shape}

-- an answer has as many values as its shape says
count_of_shape : (answer : Answer) → length (answer_fields answer).values ≡ values_of_shape (answer_fields answer).shape
count_of_shape Nothing = refl
count_of_shape (Short n) = refl
count_of_shape (Version release version subversion) = refl
count_of_shape (Long n) = refl
count_of_shape (Name name) = refl
count_of_shape (Date d) = refl
count_of_shape (Temperature t) = refl
count_of_shape (Place s) = refl
count_of_shape (Height h) = refl
count_of_shape (Angles hz v) = refl
count_of_shape (Measured hz v distance) = refl
count_of_shape (MeasuredMode hz v distance mode) = refl

-- an answer to a call has as many values as the call's answers
pub answers_have_their_count : AnswersHaveTheirCount
answers_have_their_count call answer of_call = count_of_shape answer ∙ ap values_of_shape of_call
