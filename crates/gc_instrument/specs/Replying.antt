-- The reply to a line: what the instrument does with each line that it gets. The communication codes are the manual's, the rest
-- is this project's own.
use Rattle.std.specs.Prelude.{◌≡◌, ◌<◌, ℕ, List, [], Bool, true, false, Option, Some, None, if◌then◌else◌, ◌==◌, nat_eq, unwrap_or}
use Rattle.gc_lines.specs.Prelude.{AppendsAnswer, RepliesTo, IsPlain, ReplyFields, IsReply, reply_text, RequestFields}
use Rattle.gc_catalogue.specs.Prelude.{rounded_answer, IsCall, IsFitting, IsRefusal, IsReading, reply_line, request_line}
use Rattle.gc_catalogue.specs.declared.fault.CallFault.{CallFault}
use Rattle.gc_catalogue.specs.declared.fault.CallFault.TheVariants.{Unknown, Parameters}
use Rattle.gc_catalogue.specs.declared.answer.Reading.{Reading}
use Rattle.gc_catalogue.specs.declared.answer.Reading.TheVariants.{Value, Refused}
use Rattle.gc_catalogue.specs.declared.call.Call.{Call}
use Rattle.gc_instrument.specs.State.{State, KeptReply}
use Rattle.gc_instrument.specs.Execution.{Executed, exec}
pub use Rattle.gc_lines.specs.AnsweringLines.{silent, answers}
pub use Rattle.gc_instrument.specs.State.{kept_after}

-- the id of the reply to a request: the request's, or 0 if it has none (the manual's)
abbrev pub reply_id : RequestFields → ℕ
reply_id q = unwrap_or q.id 0

-- the communication code of a request that names no call: 3081 for a procedure that isn't in the table, 3080 for parameters that
-- can't be read
abbrev pub com_code : CallFault → ℕ
com_code Unknown = 3081
com_code (Parameters _) = 3080

-- the reply line, with this id, to a request that names no call
abbrev pub refusal_line : (id : ℕ) → CallFault → List ℕ
refusal_line id fault = reply_text (record { rc_com = com_code fault; id = Some id; rc = 0; params = [] })

-- the reply line, with this id, to a call with this outcome: doubles are rounded to the precision after the call
abbrev pub executed_line : (id : ℕ) → Executed → List ℕ
executed_line id x = reply_line id x.rc x.answer x.state.precision

-- the stored line, if the request carries the stored id; else none
abbrev pub kept_line : (kept : Option KeptReply) → (id : Option ℕ) → Option (List ℕ)
kept_line None id = None
kept_line (Some k) None = None
kept_line (Some k) (Some id) = if nat_eq k.id id then Some k.line else None

-- the state, but with this stored reply, or none
abbrev pub with_kept : Option KeptReply → State → State
with_kept kept s = record s { kept = kept }

-- the state, but with no stored reply
abbrev pub without_kept : State → State
without_kept s = with_kept None s

-- the stored reply of a state, if there is one
abbrev pub kept_of : State → Option KeptReply
kept_of s = s.kept

-- the outcome of a call, but with this stored reply in its state
abbrev pub executed_with : Option KeptReply → Executed → Executed
executed_with kept x = record x { state = with_kept kept x.state }

-- what the instrument does with a call, and its reply
pub data AnswersCall (before : State) (id : Option ℕ) (call : Call) (after : State) (reply : List ℕ) : Type 0 where
  -- the request carries the stored id: the reply is the stored line, and nothing changes
  repeats : kept_line before.kept id ≡ Some reply → after ≡ before → AnswersCall before id call after reply
  -- else the call is carried out, and its reply is stored if the request carries an id
  executes : kept_line before.kept id ≡ None → after ≡ with_kept (kept_after before.kept id reply) (exec before call).state
      → reply ≡ executed_line (unwrap_or id 0) (exec before call) → AnswersCall before id call after reply

-- what the instrument does with a request, and its reply
pub data AnswersRequest (before : State) (q : RequestFields) (after : State) (reply : List ℕ) : Type 0 where
  -- the request names no call: nothing changes
  refuses : (fault : CallFault) → IsRefusal q.rpc q.params fault → after ≡ before → reply ≡ refusal_line (reply_id q) fault
      → AnswersRequest before q after reply
  -- the request names a call
  answers_call : (call : Call) → IsCall q.rpc q.params call → AnswersCall before q.id call after reply → AnswersRequest before q after reply

-- what the instrument does with a line, and its reply, if there is one
abbrev pub IsReplied : (before : State) → (line : List ℕ) → (after : State) → (reply : Option (List ℕ)) → Type 0
IsReplied before line after reply = RepliesTo AnswersRequest before line after reply

-- what an instrument does with a request: the state after it, the reply, and whether the request counts as executed
pub record Handed (State : Type 0) : Type 0 where
  pub state : State
  pub reply : List ℕ
  pub executed : Bool

-- what an instrument does with a call's request line: it sends the line that is stored for the id again, and carries out nothing;
-- or, if there is no such line, it carries out the call and stores the reply
abbrev pub again_or_new : State → (id : ℕ) → Call → (stored : Option (List ℕ)) → Handed State
again_or_new s id call (Some line) = record { state = s; reply = line; executed = false }
again_or_new s id call None =
    let line = executed_line id (exec s call) in
    record {
      state = with_kept (Some (record { id = id; line = line })) (exec s call).state;
      reply = line;
      executed = true;
    }

-- what an instrument in this state does with the request line of this call with this id
unfoldable pub handed : State → (id : ℕ) → Call → Handed State
handed s id call = again_or_new s id call (kept_line s.kept (Some id))

-- the reading of a reply to a call with this outcome: the answer with its doubles rounded to the precision, or the refusal
abbrev pub reading_of : Executed → Reading
reading_of x = if x.rc == 0 then Value (rounded_answer x.state.precision x.answer) else Refused x.rc

-- the line is a reply with this id, whose reading for the call is the outcome of carrying it out
pub record IsAnswered (before : State) (id : ℕ) (call : Call) (line : List ℕ) : Type 0 where
  pub fields : ReplyFields
  pub is_reply : IsReply line fields
  pub same_id : fields.id ≡ Some id
  pub reading : IsReading call fields (reading_of (exec before call))

-- the request line of a call led to the state and the reply of `handed`; the reply has neither CR nor LF, and if the request's id
-- isn't the stored one, the reply reads as the outcome of carrying out the call
pub record IsExchanged (before : State) (id : ℕ) (call : Call) (after : State) (reply : Option (List ℕ)) : Type 0 where
  pub state : after ≡ (handed before id call).state
  pub line : reply ≡ Some (handed before id call).reply
  pub plain : IsPlain (handed before id call).reply
  pub answered : kept_line before.kept (Some id) ≡ None → IsAnswered before id call (handed before id call).reply

-- the text is the reply, with this id, to a call that was carried out: it has neither CR nor LF, and reads as the outcome of the
-- call. The state `after` is that of the outcome, with the stored reply as it was
pub record IsReplyToExecuted (before : State) (id : ℕ) (call : Call) (after : State) (text : List ℕ) : Type 0 where
  pub plain : IsPlain text
  pub state : after ≡ (exec before call).state
  pub line : text ≡ executed_line id (exec before call)
  pub says : IsAnswered before id call text

-- the text is the reply to a call (`AnswersCall`), and has neither CR nor LF; unless the request carries the stored id, it reads
-- as the outcome of carrying out the call
pub record IsReplyToCall (before : State) (id : Option ℕ) (call : Call) (after : State) (text : List ℕ) : Type 0 where
  pub plain : IsPlain text
  pub answers : AnswersCall before id call after text
  pub says : kept_line before.kept id ≡ None → IsAnswered before (unwrap_or id 0) call text

-- the text is the reply to a request (`AnswersRequest`); if the request names a call, the text has neither CR nor LF, and, unless
-- the request carries the stored id, reads as the outcome of carrying out the call
pub record IsReplyToRequest (before : State) (q : RequestFields) (after : State) (text : List ℕ) : Type 0 where
  pub answers : AnswersRequest before q after text
  pub plain : (call : Call) → IsCall q.rpc q.params call → IsPlain text
  pub says : (call : Call) → IsCall q.rpc q.params call → kept_line before.kept q.id ≡ None → IsAnswered before (reply_id q) call text

-- `Then` holds of each id below 8 and each call with values in range of which the line is the request line
abbrev pub OfItsCall : (line : List ℕ) → (Then : (id : ℕ) → Call → Type 0) → Type 0
OfItsCall line Then = (id : ℕ) (call : Call) → id < 8 → IsFitting call → line ≡ request_line (Some id) call → Then id call

-- if the line is the request line of a call (`OfItsCall`), its reply was appended to `old`, and `IsExchanged` holds of the call
-- and this reply. `has_reply` says whether a reply was appended
abbrev pub AppendsExchange : (before : State) → (line : List ℕ) → (after : State) → (old new : List ℕ) → (has_reply : Bool) → Type 0
AppendsExchange before line after old new has_reply = OfItsCall line (λ id call. AppendsAnswer (IsExchanged before id call after) old new has_reply)
