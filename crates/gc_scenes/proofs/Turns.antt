-- A state and a line determine the state after the line and the reply.
use Rattle.gc_scenes.proofs.Common.{◌≡◌, List, ℕ, sym, ap, ◌∙◌, subst, RequestFields, replies_once, ValueFault, Call, CallFault, Unknown, Parameters, Handed, refusal_line, reply_id, OneReply, AnswersRequest, names_call, names_none, unreadable, IsHanded, handed_call, handed_raw, SceneState}
use Rattle.gc_catalogue.proofs.CallLaws.{one_call, one_refusal, no_refusal}

-- states and replies that are those of `h` are equal
one_handed : (h : Handed SceneState) (t u : SceneState) (x y : List ℕ) → IsHanded h t x → IsHanded h u y → (t ≡ u) × (x ≡ y)
one_handed h t u x y a b = (a.state ∙ sym b.state, a.line ∙ sym b.line)

-- the fault `Unknown` isn't a fault of parameters
unknown_not_parameters : (e : ValueFault) → ◌≡◌ {A = CallFault} Unknown (Parameters e) → ⊥
unknown_not_parameters e is = cc

-- a state and a request determine the state after the request and the reply
one_answer : (s t u : SceneState) (q : RequestFields) (x y : List ℕ) → AnswersRequest s q t x → AnswersRequest s q u y → (t ≡ u) × (x ≡ y)
one_answer s t u q x y (names_call c is does) (names_call d other makes) =
    one_handed (handed_call s q.rpc q.id d) t u x y (subst (λ (a : Call). IsHanded (handed_call s q.rpc q.id a) t x) (one_call q.rpc q.params c d is other) does) makes
one_answer s t u q x y (names_call c is does) (names_none other makes) = absurd (no_refusal q.rpc q.params c Unknown is other)
one_answer s t u q x y (names_call c is does) (unreadable e other again told) = absurd (no_refusal q.rpc q.params c (Parameters e) is other)
one_answer s t u q x y (names_none is does) (names_call c other makes) = absurd (no_refusal q.rpc q.params c Unknown other is)
one_answer s t u q x y (names_none is does) (names_none other makes) = one_handed (handed_raw s q.rpc q.id) t u x y does makes
one_answer s t u q x y (names_none is does) (unreadable e other again told) = absurd (unknown_not_parameters e (one_refusal q.rpc q.params Unknown (Parameters e) is other))
one_answer s t u q x y (unreadable e is same made) (names_call c other makes) = absurd (no_refusal q.rpc q.params c (Parameters e) other is)
one_answer s t u q x y (unreadable e is same made) (names_none other makes) = absurd (unknown_not_parameters e (one_refusal q.rpc q.params Unknown (Parameters e) other is))
one_answer s t u q x y (unreadable e is same made) (unreadable f other again told) =
    (same ∙ sym again, made ∙ ap (λ (g : CallFault). refusal_line (reply_id q) g) (one_refusal q.rpc q.params (Parameters e) (Parameters f) is other) ∙ sym told)

-- a state and a line determine the state after the line, and the reply or that there is none
pub one_reply : OneReply
one_reply = replies_once AnswersRequest one_answer
