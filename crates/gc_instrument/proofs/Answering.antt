-- What the code wrote for a request is the reply that the definitions give to it (`AnswersRequest`, `IsReplied`, `handed`), and
-- it reads as the outcome of carrying out the call (`IsAnswered`). Below, a state *fits* if `IsFittingState` holds of it, and a
-- reply is *plain* if it has neither CR nor LF.
use Rattle.gc_instrument.proofs.Common.{◌≡◌, ◌⊎◌, inl, inr, ℕ, ◌<◌, arith, List, ◌==◌, if◌then◌else◌, Some, None, refl, sym, ap, ◌∙◌, subst, [], Bool, true, false, Option, IsPlain, AppendsAnswer, RepliesTo, RequestFields, IsRequest, cases_eq, cond-false, ne_eqb, appended_alone, one_call, no_refusal, rounded_answer, ReadsBackAnswer, ReadsBackValue, ReadsBackRefusal, IsCall, IsFitting, IsRefusal, IsReading, reply_of, request_line, request_of, Answer, CallFault, Call, State, IsFittingState, Executed, exec, IsReplied, silent, answers, AppendsExchange, AnswersCall, repeats, executes, AnswersRequest, refuses, answers_call, IsReplyToCall, IsReplyToRequest, IsAnswered, IsExchanged, Handed, handed, again_or_new, kept_line, with_kept, reading_of, refusal_line, executed_line, reply_id}
use Rattle.gc_lines.proofs.Replies.{reply_found}
use Rattle.gc_lines.proofs.Requests.{request_found, one_request}
use Rattle.gc_catalogue.proofs.LineLaws.{call_again, answer_again, refusal_again, rounded_fits}
use Rattle.gc_catalogue.specs.declared.answer.Reading.{Reading}
use Rattle.gc_catalogue.specs.declared.answer.Reading.TheVariants.{Value, Refused}
use Rattle.gc_instrument.proofs.Executions.{IsSoundOutcome, exec_outcome}

-- a request that names no call gets the refusal's line, with the id of its reply, and changes nothing
pub refused_reply : (state : State) (q : RequestFields) (fault : CallFault) (id : ℕ) (line : List ℕ)
    → IsRefusal q.rpc q.params fault → id ≡ reply_id q → line ≡ refusal_line id fault → AnswersRequest state q state line
refused_reply state q fault id line is same made = refuses fault is refl (made ∙ ap (λ n. refusal_line n fault) same)

-- where the reply line of a call's outcome reads back as the outcome's reading, `IsAnswered` holds of that line
answered_by_reading : (before : State) (id : ℕ) (call : Call) (x : Executed) → exec before call ≡ x
    → ReadsBackAnswer call id x.rc x.answer x.state.precision (reading_of x) → IsAnswered before id call (executed_line id x)
answered_by_reading before id call x e back = record {
  fields = reply_of id x.rc x.answer x.state.precision;
  is_reply = reply_found (executed_line id x) (reply_of id x.rc x.answer x.state.precision) back.line;
  same_id = refl;
  reading = subst (λ (r : Reading). IsReading call (reply_of id x.rc x.answer x.state.precision) r) (sym (ap reading_of e)) back.is_reading;
}

-- where the reply line of a call's outcome reads back as the answer with its doubles rounded (`ReadsBackValue`), or as the
-- refusal (`ReadsBackRefusal`), `IsAnswered` holds of that line
pub reads_executed : (before : State) (id : ℕ) (call : Call) (x : Executed) → exec before call ≡ x
    → ReadsBackValue id x.rc x.answer x.state.precision → ReadsBackRefusal id x.rc x.answer x.state.precision
    → IsAnswered before id call (executed_line id x)
reads_executed before id call x e back refused =
    let outcome : IsSoundOutcome before call x = subst (λ (y : Executed). IsSoundOutcome before call y) e (exec_outcome before call) in
    let value : Reading = Value (rounded_answer x.state.precision x.answer) in
    let ReadsBack : Reading → Type 0 = λ r. ReadsBackAnswer call id x.rc x.answer x.state.precision r in
    elim (cases_eq x.rc 0) [
      | inl h ↦ answered_by_reading before id call x e (subst ReadsBack (sym (ap (λ (n : ℕ). if n == 0 then value else Refused x.rc) h)) (back call h (outcome.answers h)))
      | inr h ↦ answered_by_reading before id call x e (subst ReadsBack (sym (cond-false (x.rc == 0) value (Refused x.rc) (ne_eqb x.rc 0 h))) (refused call h))
    ]

-- the request line of a call with values in range and an id below 8 reads as the call's request
own_request : (id : ℕ) (call : Call) → id < 8 → IsFitting call → IsRequest (request_line (Some id) call) (request_of (Some id) call)
own_request id call small fits = request_found (request_line (Some id) call) (request_of (Some id) call) (call_again (Some id) call small fits).line

-- the request line of a call with values in range and an id below 8 reads as no request but the call's
pub only_own_request : (line : List ℕ) (q : RequestFields) (id : ℕ) (call : Call) → id < 8 → IsFitting call → line ≡ request_line (Some id) call
    → IsRequest line q → q ≡ request_of (Some id) call
only_own_request line q id call small fits e is =
    one_request line q (request_of (Some id) call) is
    (subst (λ (x : List ℕ). IsRequest x (request_of (Some id) call)) (sym e) (own_request id call small fits))

-- for a request with the stored id, `handed` gives the stored line, leaves the state as it is, and counts no execution
pub handed_again : (s : State) (id : ℕ) (call : Call) (line : List ℕ) → kept_line s.kept (Some id) ≡ Some line
    → handed s id call ≡ record { state = s; reply = line; executed = false }
unfolding handed
handed_again s id call line e = ap (again_or_new s id call) e

-- where no line is stored for the id, `handed` is `again_or_new` without a stored line: the call is carried out, and its reply
-- stored
pub handed_new : (s : State) (id : ℕ) (call : Call) → kept_line s.kept (Some id) ≡ None → handed s id call ≡ again_or_new s id call None
unfolding handed
handed_new s id call e = ap (again_or_new s id call) e

-- what an instrument does with a call (`AnswersCall`) is what `handed` gives: the same state and the same reply
pub handed_does : (before after : State) (id : ℕ) (call : Call) (text : List ℕ) → AnswersCall before (Some id) call after text
    → (after ≡ (handed before id call).state) × (text ≡ (handed before id call).reply)
handed_does before after id call text (repeats e same) =
    let h = handed_again before id call text e in
    (same ∙ sym (ap (λ (x : Handed State). x.state) h), sym (ap (λ (x : Handed State). x.reply) h))
handed_does before after id call text (executes e state line) =
    let h = handed_new before id call e in (
      state ∙ ap (λ (l : List ℕ). with_kept (Some (record { id = id; line = l })) (exec before call).state) line ∙ sym (ap (λ (x : Handed State). x.state) h),
      line ∙ sym (ap (λ (x : Handed State). x.reply) h),
    )

-- where a text is the reply (`IsReplyToRequest`) to the request of a call with values in range and an id below 8, `IsExchanged`
-- holds of the call and that text
pub reply_is_exchanged : (before after : State) (id : ℕ) (call : Call) (text : List ℕ) → id < 8 → IsFitting call
    → IsReplyToRequest before (request_of (Some id) call) after text → IsExchanged before id call after (Some text)
reply_is_exchanged before after id call text small fits is_reply = by_answer (call_again (Some id) call small fits).is_asked is_reply.answers where
  -- the request names the call, so the instrument answered that one
  by_answer : IsCall (request_of (Some id) call).rpc (request_of (Some id) call).params call → AnswersRequest before (request_of (Some id) call) after text
      → IsExchanged before id call after (Some text)
  by_answer is (refuses fault refusal state line) = absurd (no_refusal _ (request_of (Some id) call).params call fault is refusal)
  by_answer is (answers_call other is_other does) =
      let one : other ≡ call = one_call _ (request_of (Some id) call).params other call is_other is in
      let h = handed_does before after id call text (subst (λ (c : Call). AnswersCall before (Some id) c after text) one does) in
      record {
        state = h.0;
        line = ap (λ (l : List ℕ). Some l) h.1;
        plain = subst IsPlain h.1 (is_reply.plain call is);
        answered = λ new. subst (λ (l : List ℕ). IsAnswered before id call l) h.1 (is_reply.says call is new);
      }

-- in a state that fits, `IsAnswered` holds of the reply line of the outcome of a call with values in range and an id below 8
pub executed_answered : (s : State) (id : ℕ) (call : Call) → IsFittingState s → id < 8 → IsFitting call
    → IsAnswered s id call (executed_line id (exec s call))
executed_answered s id call good small fits =
    let x = exec s call in
    let outcome = exec_outcome s call in
    reads_executed s id call x refl
    (λ c h of_call. subst (λ (n : ℕ). ReadsBackAnswer c id n x.answer x.state.precision (Value (rounded_answer x.state.precision x.answer))) (sym h)
    (answer_again c id x.answer x.state.precision small of_call (rounded_fits x.state.precision x.answer (outcome.answer_fits good fits))))
    (λ c h. subst (λ (a : Answer). ReadsBackAnswer c id x.rc a x.state.precision (Refused x.rc)) (sym (outcome.refuses h))
    (refusal_again c id x.rc x.state.precision small (omega (arith, h)) outcome.code))

-- in a state that fits, `IsAnswered` holds of the reply to a call with values in range and an id below 8 that isn't the stored
-- one
pub handed_answered : (s : State) (id : ℕ) (call : Call) → IsFittingState s → id < 8 → IsFitting call → kept_line s.kept (Some id) ≡ None
    → IsAnswered s id call (handed s id call).reply
handed_answered s id call good small fits new =
    subst (λ (h : Handed State). IsAnswered s id call h.reply) (sym (handed_new s id call new)) (executed_answered s id call good small fits)

-- What an instrument does with a line, from what holds of its replies to requests (`IsReplyToRequest`).
module _ (before after : State) (line : List ℕ) where
  -- where `IsReplyToRequest` holds of the reply, or there is none as the line is no request, `IsReplied` holds of the line
  pub is_replied : (reply : Option (List ℕ)) → RepliesTo IsReplyToRequest before line after reply → IsReplied before line after reply
  is_replied reply (silent none same quiet) = silent none same quiet
  is_replied reply (answers q is text does told) = answers q is text does.answers told

  -- where the line is the request line of a call with values in range and an id below 8, and `IsReplyToRequest` holds of its reply,
  -- `IsExchanged` holds of the call and the reply
  is_exchanged : (id : ℕ) (call : Call) (reply : Option (List ℕ)) → id < 8 → IsFitting call → line ≡ request_line (Some id) call
      → RepliesTo IsReplyToRequest before line after reply → IsExchanged before id call after reply
  is_exchanged id call reply small fits own (silent none same quiet) =
      let q = request_of (Some id) call in
      absurd (none q (subst (λ (x : List ℕ). IsRequest x q) (sym own) (own_request id call small fits)))
  is_exchanged id call reply small fits own (answers q is text does told) =
      subst (λ (o : Option (List ℕ)). IsExchanged before id call after o) (sym told)
      (reply_is_exchanged before after id call text small fits (subst (λ (r : RequestFields). IsReplyToRequest before r after text) (only_own_request line q id call small fits own is) does))

  -- where `IsReplyToRequest` holds of the reply that was appended, or none was, `IsReplied` holds of it
  pub line_replied : (old new : List ℕ) (has_reply : Bool) → AppendsAnswer (RepliesTo IsReplyToRequest before line after) old new has_reply
      → AppendsAnswer (IsReplied before line after) old new has_reply
  line_replied old new true h = (h.0, is_replied (Some h.0) h.1, h.2)
  line_replied old new false h = (is_replied None h.0, h.1)

  -- where `IsReplyToRequest` holds of the reply that was appended, or none was, `AppendsExchange` holds of it
  pub line_exchanged : (old new : List ℕ) (has_reply : Bool) → AppendsAnswer (RepliesTo IsReplyToRequest before line after) old new has_reply
      → AppendsExchange before line after old new has_reply
  line_exchanged old new true h id call small fits own = (h.0, is_exchanged id call (Some h.0) small fits own h.1, h.2)
  line_exchanged old new false h id call small fits own = (is_exchanged id call None small fits own h.0, h.1)

-- an optional line is some line, or none
pub some_line_or_none : (o : Option (List ℕ)) → ((line : List ℕ) × (o ≡ Some line)) ⊎ (o ≡ None)
some_line_or_none (Some line) = inl (line, refl)
some_line_or_none None = inr refl

-- what `handed` gives is what an instrument does with the call (`AnswersCall`)
pub handed_answers : (s : State) (id : ℕ) (call : Call) → AnswersCall s (Some id) call (handed s id call).state (handed s id call).reply
handed_answers s id call = elim (some_line_or_none (kept_line s.kept (Some id))) [
  | inl h ↦ subst (λ (x : Handed State). AnswersCall s (Some id) call x.state x.reply) (sym (handed_again s id call h.0 h.1)) (repeats h.1 refl)
  | inr e ↦ subst (λ (x : Handed State). AnswersCall s (Some id) call x.state x.reply) (sym (handed_new s id call e)) (executes e refl refl)
]

-- what `handed` gives for a call with values in range and an id below 8 is what an instrument does with its request line
-- (`IsReplied`)
pub handed_replied : (s : State) (id : ℕ) (call : Call) → id < 8 → IsFitting call
    → IsReplied s (request_line (Some id) call) (handed s id call).state (Some (handed s id call).reply)
handed_replied s id call small fits =
    answers (request_of (Some id) call) (own_request id call small fits) (handed s id call).reply (answers_call call (call_again (Some id) call small fits).is_asked (handed_answers s id call)) refl

-- where `new` is the empty text with a reply to a line (`IsReplied`) appended, `new` is this reply. `replied_alone` and
-- `exchanged_alone` are `appended_alone` with the predicate filled in, since the search doesn't find the predicate by itself
pub replied_alone : (s t : State) (line new : List ℕ) → AppendsAnswer (IsReplied s line t) [] new true → IsReplied s line t (Some new)
replied_alone s t line new h = appended_alone (IsReplied s line t) new h

-- where `new` is the empty text with a reply to a call (`IsExchanged`) appended, `new` is this reply
pub exchanged_alone : (s t : State) (id : ℕ) (call : Call) (new : List ℕ) → AppendsAnswer (IsExchanged s id call t) [] new true
    → IsExchanged s id call t (Some new)
exchanged_alone s t id call new h = appended_alone (IsExchanged s id call t) new h

-- the reply to a call (`IsReplyToCall`) is the reply to the request that names the call (`IsReplyToRequest`)
pub reply_to_call_is_to_request : (before after : State) (q : RequestFields) (call : Call) (text : List ℕ) → IsCall q.rpc q.params call
    → IsReplyToCall before q.id call after text → IsReplyToRequest before q after text
reply_to_call_is_to_request before after q call text is h = record {
  answers = answers_call call is h.answers;
  plain = λ d other. h.plain;
  says = λ d other none. subst (λ (c : Call). IsAnswered before (reply_id q) c text) (one_call q.rpc q.params call d is other) (h.says none);
}
