-- Lines that are written read back.
use Rattle.gc_catalogue.proofs.Common.{◌<◌, ◌∷◌, Option, Some, None, ◌∙◌, arith, lit<, request_back, reply_back, IsIdInRange, MayBeId, Value, Answer, Nothing, Call, answer_fields, IsAnswer, IsAnswerOf, IsFittingAnswer, rounded_answer, CallsReadBack, ReadsBackAnswer, AreValues, shown_values, answer_params, reply_of, request_of, written_reads}
use Rattle.std.specs.Prelude.{ℕ, List, [], refl}
use Rattle.gc_catalogue.proofs.CallLaws.{written_is_call}
use Rattle.gc_catalogue.proofs.Table.{number_fits, shape-rounded, values-rounded}
use Rattle.gc_values.specs.declared.value.Value.TheVariants as value
use Rattle.gc_catalogue.specs.declared.answer.Reading.TheVariants as reading

-- the line of a call with values in range, with an id below 8 or without one, reads back as the call
pub call_again : CallsReadBack
call_again id call i fits = record { line = request_back (request_of id call) (record { rpc = number_fits call; id = i }); is_asked = written_is_call call fits }

-- values in their ranges stay in them when doubles are rounded
shown_fit : (places : ℕ) (vs : List Value) → AreValues vs → AreValues (shown_values places vs)
shown_fit places [] h = tt
shown_fit places (value.Double d ∷ vs) h = (tt, shown_fit places vs h.1)
shown_fit places (value.Long z ∷ vs) h = (h.0, shown_fit places vs h.1)
shown_fit places (value.Short z ∷ vs) h = (h.0, shown_fit places vs h.1)
shown_fit places (value.Byte n ∷ vs) h = (h.0, shown_fit places vs h.1)
shown_fit places (value.Bool b ∷ vs) h = (tt, shown_fit places vs h.1)
shown_fit places (value.Text t ∷ vs) h = (h.0, shown_fit places vs h.1)

-- an answer's values stay in their ranges when its doubles are rounded
pub rounded_fits : (places : ℕ) (answer : Answer) → IsFittingAnswer answer → IsFittingAnswer (rounded_answer places answer)
rounded_fits places answer h = rw (values-rounded places answer) (shown_fit places (answer_fields answer).values h)

-- the parameters written for a rounded answer of the call, with values in range, read as that answer
pub written_is_answer : (call : Call) (answer : Answer) (places : ℕ) → IsAnswerOf call answer → IsFittingAnswer (rounded_answer places answer)
    → IsAnswer call (answer_params places answer) (rounded_answer places answer)
written_is_answer call answer places of_call fits = record {
  of_call = shape-rounded places answer ∙ of_call;
  values = written_reads _ fits;
}

-- the line of a call's answer, with an id below 8 and the return code 0, reads back as the answer with its doubles rounded, if
-- the values are then in range
pub answer_again : (call : Call) (id : ℕ) (answer : Answer) (places : ℕ) → id < 8 → IsAnswerOf call answer
    → IsFittingAnswer (rounded_answer places answer)
    → ReadsBackAnswer call id 0 answer places (reading.Value (rounded_answer places answer))
answer_again call id answer places i of_call fits = record {
  line = reply_back (reply_of id 0 answer places) (record { rc_com = lit< tt; id = i; rc = lit< tt });
  is_reading = (refl, refl, written_is_answer call answer places of_call fits);
}

-- the line of a refusal, with an id below 8 and a return code of 16 bits other than 0, reads back as the refusal
pub refusal_again : (call : Call) (id rc places : ℕ) → id < 8 → 0 < rc → rc < 65536 → ReadsBackAnswer call id rc Nothing places (reading.Refused rc)
refusal_again call id rc places i some fits = record {
  line = reply_back (reply_of id rc Nothing places) (record { rc_com = lit< tt; id = i; rc = fits });
  is_reading = (refl, (λ e. omega arith), refl);
}

-- an id that a function may be given (`MayBeId`) is in range
pub id_in_range : (id : Option ℕ) → MayBeId id → IsIdInRange id
id_in_range None h = tt
id_in_range (Some i) h = h i refl
