-- What is claimed of the definitions themselves, apart from any call of a function: this project's own.
use Rattle.std.specs.Prelude.{◌≡◌, ◌≢◌, ◌<◌, ℕ, List, Option, Ok}
use Rattle.std.specs.List.{AllZip}
use Rattle.gc_lines.specs.Prelude.{IsIdInRange, ReplyFields, RequestFields, request_text, reply_at, request_at}
use Rattle.gc_values.specs.Prelude.{fraction, IsRounded, kinds_of}
use Rattle.gc_values.specs.declared.value.Value.{Value}
use Rattle.gc_catalogue.specs.declared.answer.Answer.{Answer}
use Rattle.gc_catalogue.specs.declared.answer.Answer.TheVariants.{Nothing}
use Rattle.gc_catalogue.specs.declared.fault.CallFault.{CallFault}
use Rattle.gc_catalogue.specs.declared.answer.Reading.{Reading}
use Rattle.gc_catalogue.specs.declared.call.Call.{Call}
use Rattle.gc_catalogue.specs.Answers.{answer_fields, IsAnswerOf, IsFittingAnswer, rounded_answer}
use Rattle.gc_catalogue.specs.Calls.{call_fields, IsCall, IsFitting, IsRefusal}
use Rattle.gc_catalogue.specs.Readings.{IsReading, ReadingRule}
use Rattle.gc_catalogue.specs.Texts.{reply_line, reply_of, request_line, request_of}
use Rattle.gc_values.specs.declared.value.Value.TheVariants as value
use Rattle.gc_catalogue.specs.declared.answer.Reading.TheVariants as reading

-- two calls have parameters of the same kinds, and answers of the same shape
pub record HaveOneSignature (c d : Call) : Type 0 where
  pub kinds : kinds_of (call_fields c).values ≡ kinds_of (call_fields d).values
  pub answer : (call_fields c).answer ≡ (call_fields d).answer

-- no two procedures share a number: calls with the same number have one signature, and if their values agree too, they are the
-- same call
pub record NumbersDiffer : Type 0 where
  pub alike : (c d : Call) → (call_fields c).number ≡ (call_fields d).number → HaveOneSignature c d
  pub same : (c d : Call) → (call_fields c).number ≡ (call_fields d).number → (call_fields c).values ≡ (call_fields d).values → c ≡ d

-- `shown` is the value `v` as it is written: a double is rounded to the places, and any other value is unchanged
abbrev pub IsShown : (places : ℕ) → (v shown : Value) → Type 0
IsShown places (value.Double d) (value.Double shown) = IsRounded (fraction d) places shown.digits shown.scale
IsShown places v shown = v ≡ shown

-- `shown` are the values as they are written, one for one (`IsShown`)
abbrev pub AreShown : (places : ℕ) → (values shown : List Value) → Type 0
AreShown places values shown = AllZip (IsShown places) values shown

-- an answer is written with every double rounded to the places, and with its shape and every other value unchanged
abbrev pub DoublesAreRounded : Type 0
DoublesAreRounded = (places : ℕ) (answer : Answer)
    → ((answer_fields (rounded_answer places answer)).shape ≡ (answer_fields answer).shape)
    × AreShown places (answer_fields answer).values (answer_fields (rounded_answer places answer)).values

-- two requests of which `Fits` holds, with the same line, each with an id below 8 or without one, ask for the same, and have the
-- same id; `line_of` gives the line of a request
abbrev pub OneForALine : {Q : Type 0} → (line_of : Option ℕ → Q → List ℕ) → (Fits : Q → Type 0) → Type 0
OneForALine {Q = Q} line_of Fits = (i j : Option ℕ) (a b : Q) → IsIdInRange i → IsIdInRange j → Fits a → Fits b
    → line_of i a ≡ line_of j b → (i ≡ j) × (a ≡ b)

-- `OneForALine`, for calls with values in range
abbrev pub OneCallForALine : Type 0
OneCallForALine = OneForALine request_line IsFitting

-- the number and the parameters of a request are those of at most one call, and have at most one refusal; if they are those of a
-- call, they have none
pub record OneCallOrRefusal : Type 0 where
  pub call : (rpc : ℕ) (params : List ℕ) (c d : Call) → IsCall rpc params c → IsCall rpc params d → c ≡ d
  pub refusal : (rpc : ℕ) (params : List ℕ) (e f : CallFault) → IsRefusal rpc params e → IsRefusal rpc params f → e ≡ f
  pub never_both : (rpc : ℕ) (params : List ℕ) (c : Call) (e : CallFault) → IsCall rpc params c → IsRefusal rpc params e → ⊥

-- by `says`, a reply has at most one reading for what was asked
abbrev pub HasOneReading : {Q : Type 0} → (says : ReadingRule Q) → Type 0
HasOneReading {Q = Q} says = (asked : Q) (reply : ReplyFields) (x y : Reading) → says asked reply x → says asked reply y → x ≡ y

-- by `says`, each reply has a reading for whatever is asked
abbrev pub ReadsEachReply : {Q : Type 0} → (says : ReadingRule Q) → Type 0
ReadsEachReply {Q = Q} says = (asked : Q) (reply : ReplyFields) → (reading : Reading) × says asked reply reading

-- a reply to a call has at most one reading
abbrev pub OneReading : Type 0
OneReading = HasOneReading IsReading

-- each reply has a reading for each call
abbrev pub EachReplyIsRead : Type 0
EachReplyIsRead = ReadsEachReply IsReading

-- the line of the request for `asked`, with this id or without one, reads as that request, and its number and parameters ask for
-- just that. `request` gives the request for what is asked, and `Asks` says what a number and parameters ask for
pub record ReadsBack {Q : Type 0} (request : Option ℕ → Q → RequestFields) (Asks : ℕ → List ℕ → Q → Type 0) (id : Option ℕ) (asked : Q)
    : Type 0 where
  pub line : request_at (request_text (request id asked)) ≡ Ok (request id asked)
  pub is_asked : Asks (request id asked).rpc (request id asked).params asked

-- the line of each request of which `Fits` holds, with an id below 8 or without one, reads back as what was asked (`ReadsBack`)
abbrev pub EachReadsBack : {Q : Type 0} → (request : Option ℕ → Q → RequestFields) → (Asks : ℕ → List ℕ → Q → Type 0)
    → (Fits : Q → Type 0) → Type 0
EachReadsBack {Q = Q} request Asks Fits = (id : Option ℕ) (asked : Q) → IsIdInRange id → Fits asked → ReadsBack request Asks id asked

-- `ReadsBack`, for a call
abbrev pub ReadsBackCall : Option ℕ → Call → Type 0
ReadsBackCall id call = ReadsBack request_of IsCall id call

-- `EachReadsBack`, for calls with values in range
abbrev pub CallsReadBack : Type 0
CallsReadBack = EachReadsBack request_of IsCall IsFitting

-- the line of a reply with this id, return code and answer, whose doubles are rounded to the places, reads as that reply, which
-- has this reading for the call
pub record ReadsBackAnswer (call : Call) (id rc : ℕ) (answer : Answer) (places : ℕ) (reading : Reading) : Type 0 where
  pub line : reply_at (reply_line id rc answer places) ≡ Ok (reply_of id rc answer places)
  pub is_reading : IsReading call (reply_of id rc answer places) reading

-- if the return code is 0, the reply line with this answer reads back, for each call of which it is an answer, as the answer with
-- its doubles rounded
abbrev pub ReadsBackValue : (id rc : ℕ) → Answer → (places : ℕ) → Type 0
ReadsBackValue id rc answer places =
    (call : Call) → rc ≡ 0 → IsAnswerOf call answer → ReadsBackAnswer call id rc answer places (reading.Value (rounded_answer places answer))

-- if the return code isn't 0, the reply line reads back, for each call, as the refusal with that code
abbrev pub ReadsBackRefusal : (id rc : ℕ) → Answer → (places : ℕ) → Type 0
ReadsBackRefusal id rc answer places = (call : Call) → rc ≢ 0 → ReadsBackAnswer call id rc answer places (reading.Refused rc)

-- with an id below 8, the line of a call's answer with values in range and the return code 0 reads back as the answer with its
-- doubles rounded (`value`), and the line of the answer `Nothing` and another return code, below 65536, as the refusal with that
-- code (`refused`)
pub record AnswersReadBack : Type 0 where
  pub value : (call : Call) (id : ℕ) (answer : Answer) (places : ℕ) → id < 8 → IsAnswerOf call answer → IsFittingAnswer answer
      → ReadsBackAnswer call id 0 answer places (reading.Value (rounded_answer places answer))
  pub refused : (call : Call) (id rc places : ℕ) → id < 8 → 0 < rc → rc < 65536
      → ReadsBackAnswer call id rc Nothing places (reading.Refused rc)
