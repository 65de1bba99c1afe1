-- An answerer of lines: when a line is no request, that it has one reply, and what it appends to the text that it was handed.
use Rattle.gc_lines.proofs.Common.{◌≡◌, ℕ, List, [], ◌∷◌, Option, Some, None, Result, Ok, Err, true, false, refl, sym, ap, ◌∙◌, subst, append_assoc, AppendsAnswer, GivesEach, with_end, RequestFields, IsRequest, IsNoRequest, LineFault, Line}
use Rattle.gc_lines.specs.AnsweringLines.{RepliesTo, silent, answers, ReplyRule, HasOneReply, AnswersLines}
use Rattle.gc_lines.proofs.Requests.{one_request}

-- a line is no request if reading it gave a fault, and if reading gives the request of each line that is one
pub faulty_is_no_request : {X : Type 0} (line : List ℕ) (fault : LineFault) (view : X → RequestFields) → GivesEach IsRequest view line (Err fault) → IsNoRequest line
faulty_is_no_request line fault view only q is = let wrong : ◌≡◌ {A = Result RequestFields LineFault} (Ok q) (Err fault) = only q is in cc

-- if a state and a request determine the next state and the reply, a state and a line determine the next state, and the reply or
-- that there is none
pub replies_once : {State : Type 0} (does : State → RequestFields → State → List ℕ → Type 0)
    → ((s t u : State) (q : RequestFields) (x y : List ℕ) → does s q t x → does s q u y → (t ≡ u) × (x ≡ y)) → HasOneReply (RepliesTo does)
replies_once does one s t u line p q (silent none same quiet) (silent never again mute) = (same ∙ sym again, quiet ∙ sym mute)
replies_once does one s t u line p q (silent none same quiet) (answers r is text did told) = absurd (none r is)
replies_once does one s t u line p q (answers r is text did told) (silent none same quiet) = absurd (none r is)
replies_once does one s t u line p q (answers a is x did told) (answers b other y makes said) =
    let same = one s t u a x y did (subst (λ (r : RequestFields). does s r u y) (one_request line b a other is) makes) in
    (same.0, told ∙ ap (λ (text : List ℕ). Some text) same.1 ∙ sym said)

-- if `new` is the empty text with an answer appended, `new` is this answer
pub appended_alone : (answered : Option (List ℕ) → Type 0) (new : List ℕ) → AppendsAnswer answered [] new true → answered (Some new)
appended_alone answered new h = subst (λ (text : List ℕ). answered (Some text)) (sym h.2) h.1

-- appending a line's reply, and CR LF after it, is how an answerer of lines answers the frame of that line
pub line_answered : {State : Type 0} (replies : ReplyRule State) (before after : State) (line old between new : List ℕ)
    → AppendsAnswer (replies before line after) old between true → new ≡ with_end between
    → AppendsAnswer (AnswersLines replies before (Line (record { items = line })) after) old new true
line_answered replies before after line old between new h e = (with_end h.0, (Some h.0, h.1, refl), e ∙ ap with_end h.2 ∙ append_assoc old h.0 (13 ∷ 10 ∷ []))

-- if a line has no reply, appending nothing is how an answerer of lines answers the frame of that line
pub line_unanswered : {State : Type 0} (replies : ReplyRule State) (before after : State) (line old new : List ℕ)
    → AppendsAnswer (replies before line after) old new false
    → AppendsAnswer (AnswersLines replies before (Line (record { items = line })) after) old new false
line_unanswered replies before after line old new h = ((None, h.0, refl), h.1)
