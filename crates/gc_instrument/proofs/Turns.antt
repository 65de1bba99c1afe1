-- From one state, a line leads to one state, and to one reply or to none, and lines lead to one state and one list of replies;
-- and what is written for two streams, one after the other.
use Rattle.gc_instrument.proofs.Common.{◌≡◌, ℕ, List, [], ◌∷◌, ◌++◌, Option, Some, None, sym, ap, ◌∙◌, subst, option_to_list, lines, rest_of, with_end, RequestFields, replies_once, in_order_then, CallFault, Call, one_call, one_refusal, no_refusal, exec, Hears, IsOutput, replies_text, OneReply, AnswersCall, repeats, executes, AnswersRequest, refuses, answers_call, IsReplied, kept_after, with_kept, refusal_line, reply_id, State}
use Rattle.std.proofs.lemmas.Grind.{flat_map-append}
use Rattle.gc_instrument.proofs.HeardFrames.{lines-next}

-- a state, an id or none, and a call determine the state after the call, and the reply
one_answer_to_call : (s t u : State) (id : Option ℕ) (call : Call) (x y : List ℕ) → AnswersCall s id call t x → AnswersCall s id call u y → (t ≡ u) × (x ≡ y)
one_answer_to_call s t u id call x y (repeats e same) (repeats f again) = (same ∙ sym again, (let g : ◌≡◌ {A = Option (List ℕ)} (Some x) (Some y) = sym e ∙ f in cc))
one_answer_to_call s t u id call x y (repeats e same) (executes f again told) = let wrong : ◌≡◌ {A = Option (List ℕ)} (Some x) None = sym e ∙ f in let never : ⊥ = cc in absurd never
one_answer_to_call s t u id call x y (executes e same made) (repeats f again) = let wrong : ◌≡◌ {A = Option (List ℕ)} None (Some y) = sym e ∙ f in let never : ⊥ = cc in absurd never
one_answer_to_call s t u id call x y (executes e same made) (executes f again told) =
    let one : x ≡ y = made ∙ sym told in
    (same ∙ ap (λ (line : List ℕ). with_kept (kept_after s.kept id line) (exec s call).state) one ∙ sym again, one)

-- a state and a request determine the state after the request, and the reply
one_answer_to_request : (s t u : State) (q : RequestFields) (x y : List ℕ) → AnswersRequest s q t x → AnswersRequest s q u y → (t ≡ u) × (x ≡ y)
one_answer_to_request s t u q x y (refuses e is same made) (refuses f other again told) =
    (same ∙ sym again, made ∙ ap (λ (g : CallFault). refusal_line (reply_id q) g) (one_refusal q.rpc q.params e f is other) ∙ sym told)
one_answer_to_request s t u q x y (refuses e is same made) (answers_call c other does) = absurd (no_refusal q.rpc q.params c e other is)
one_answer_to_request s t u q x y (answers_call c is does) (refuses e other again told) = absurd (no_refusal q.rpc q.params c e is other)
one_answer_to_request s t u q x y (answers_call c is does) (answers_call d other makes) =
    one_answer_to_call s t u q.id d x y (subst (λ (e : Call). AnswersCall s q.id e t x) (one_call q.rpc q.params c d is other) does) makes

-- a state and a line determine the state after the line, and the reply or that there is none
pub one_reply : OneReply
one_reply = replies_once AnswersRequest one_answer_to_request

-- a state and lines determine the state after them, and their replies
pub one_hearing : (s t u : State) (heard : List (List ℕ)) (ps qs : List (List ℕ)) → Hears s heard t ps → Hears s heard u qs → (t ≡ u) × (ps ≡ qs)
one_hearing s t u [] ps qs h k = (h.0 ∙ sym k.0, h.1 ∙ sym k.1)
one_hearing s t u (line ∷ later) ps qs h k =
    let first = one_reply s h.0 k.0 line h.1 k.1 h.3 k.3 in
    let rest = one_hearing k.0 t u later h.2 k.2 (subst (λ (v : State). Hears v later t h.2) first.0 h.4) k.4 in (
      rest.0,
      h.5 ∙ ap (λ (r : Option (List ℕ)). option_to_list r ++ h.2) first.1 ∙ ap (λ (xs : List (List ℕ)). option_to_list k.1 ++ xs) rest.1 ∙ sym k.5,
    )

-- the output of two streams, one after the other, of which the first is empty or ends in a line feed, is that of the first
-- and then that of the second
pub output_then : (s t u : State) (first next xs ys : List ℕ) → rest_of first ≡ [] → IsOutput s first t xs → IsOutput t next u ys
    → IsOutput s (first ++ next) u (xs ++ ys)
output_then s t u first next xs ys none h k =
    let parted = lines-next first next none in
    record {
      replies = h.replies ++ k.replies;
      hears = subst (λ (heard : List (List ℕ)). Hears s heard u (h.replies ++ k.replies)) (sym parted) (in_order_then IsReplied s t u (lines first) (lines next) h.replies k.replies h.hears k.hears);
      bytes_are = ap (λ (zs : List ℕ). zs ++ ys) h.bytes_are ∙ ap (λ (zs : List ℕ). replies_text h.replies ++ zs) k.bytes_are ∙ sym (flat_map-append with_end h.replies k.replies);
    }
