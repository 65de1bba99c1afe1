-- The lines of calls and answers as they are written: their form is the manual's, in its chapter on the ASCII protocol.
use Rattle.std.specs.Prelude.{ℕ, List, Option, Some}
use Rattle.gc_lines.specs.Prelude.{RequestFields, request_text, ReplyFields, reply_text}
use Rattle.gc_catalogue.specs.declared.answer.Answer.{Answer}
use Rattle.gc_catalogue.specs.declared.call.Call.{Call}
use Rattle.gc_catalogue.specs.Answers.{answer_fields, rounded_answer}
use Rattle.gc_catalogue.specs.Calls.{call_fields}
use Rattle.gc_catalogue.specs.Lists.{params_of}

-- the fields of a call's request, with an id or without one
abbrev pub request_of : Option ℕ → Call → RequestFields
request_of id call = record { rpc = (call_fields call).number; id = id; params = params_of (call_fields call).values }

-- the parameters of an answer as they are written, each double rounded to the places
abbrev pub answer_params : (places : ℕ) → Answer → List ℕ
answer_params places answer = params_of (answer_fields (rounded_answer places answer)).values

-- the fields of a reply with the communication code 0, an id, a return code and an answer, whose doubles are rounded to the
-- places
abbrev pub reply_of : (id rc : ℕ) → Answer → (places : ℕ) → ReplyFields
reply_of id rc answer places = record {
  rc_com = 0;
  id = Some id;
  rc = rc;
  params = answer_params places answer;
}

-- the request line of a call, with an id or without one
abbrev pub request_line : Option ℕ → Call → List ℕ
request_line id call = request_text (request_of id call)

-- the reply line with an id, a return code and an answer, whose doubles are rounded to the places
abbrev pub reply_line : (id rc : ℕ) → Answer → (places : ℕ) → List ℕ
reply_line id rc answer places = reply_text (reply_of id rc answer places)
