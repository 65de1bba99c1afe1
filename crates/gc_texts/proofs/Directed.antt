-- Which answers have a direction, and which a distance.
use Rattle.gc_texts.proofs.Common.{◌≡◌, ◌==◌, [], ◌∷◌, Bool, true, false, refl, sym, ap, ◌∙◌, list_any, answer_fields, call_fields, Answer, Nothing, Call, NullProc, direction_of, distance_of, call_gives_direction, call_gives_distance, DirectionsAreAskedFor, DistancesAreAskedFor}
use Rattle.std.specs.Prelude.{is_some}
use Rattle.gc_catalogue.specs.declared.answer.Shape.{Shape}
use Rattle.gc_catalogue.specs.declared.answer.Shape.TheVariants as shape

-- whether the answers of this shape have a direction
abbrev has_direction : Shape → Bool
has_direction shape.Angles = true
has_direction shape.Measured = true
has_direction shape.MeasuredMode = true
has_direction _ = false

-- an answer has a direction exactly where its shape has one
answer_has_direction : (answer : Answer) → is_some (direction_of answer) ≡ has_direction (answer_fields answer).shape
answer_has_direction Nothing = refl
answer_has_direction answer = refl

-- the answers of a call have a direction exactly where the shape of its answer has one
call_has_direction : (call : Call) → call_gives_direction call ≡ has_direction (call_fields call).answer
call_has_direction NullProc = refl
call_has_direction call = refl

-- the answers of a call have a direction exactly where its procedure is 2107, 2108, 2117 or 17017
direction_procedures : (call : Call) → call_gives_direction call ≡ list_any (λ n. n == (call_fields call).number) (2107 ∷ 2108 ∷ 2117 ∷ 17017 ∷ [])
direction_procedures NullProc = refl
direction_procedures call = refl

-- the law: the answers that have a direction are those of procedures 2107, 2108, 2117 and 17017
pub directions_by_procedure : DirectionsAreAskedFor
directions_by_procedure =
    record {
      answers = λ call answer of. answer_has_direction answer ∙ ap has_direction of ∙ sym (call_has_direction call);
      procedures = direction_procedures;
    }

-- whether the answers of this shape have a distance
abbrev has_distance : Shape → Bool
has_distance shape.Measured = true
has_distance shape.MeasuredMode = true
has_distance _ = false

-- an answer has a distance exactly where its shape has one
answer_has_distance : (answer : Answer) → is_some (distance_of answer) ≡ has_distance (answer_fields answer).shape
answer_has_distance Nothing = refl
answer_has_distance answer = refl

-- the answers of a call have a distance exactly where the shape of its answer has one
call_has_distance : (call : Call) → call_gives_distance call ≡ has_distance (call_fields call).answer
call_has_distance NullProc = refl
call_has_distance call = refl

-- the answers of a call have a distance exactly where its procedure is 2108, 2117 or 17017
distance_procedures : (call : Call) → call_gives_distance call ≡ list_any (λ n. n == (call_fields call).number) (2108 ∷ 2117 ∷ 17017 ∷ [])
distance_procedures NullProc = refl
distance_procedures call = refl

-- the law: the answers that have a distance are those of procedures 2108, 2117 and 17017
pub distances_by_procedure : DistancesAreAskedFor
distances_by_procedure =
    record {
      answers = λ call answer of. answer_has_distance answer ∙ ap has_distance of ∙ sym (call_has_distance call);
      procedures = distance_procedures;
    }
