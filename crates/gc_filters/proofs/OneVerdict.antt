-- A frame has one verdict at most, and a stream one list of verdicts' lines.
use Rattle.gc_filters.proofs.Common.{◌≡◌, ℕ, List, ◌∷◌, Result, Ok, Err, drop, slice_index, arith, sym, ap, ◌∙◌, subst, frames, request_at, reply_at, ReplyFields, IsReply, RequestFields, IsRequest, LineFault, Frame, Line, Cleared, Overlong, More, one_list, IsRequestVerdict, reads, refuses, BeginsAsReply, IsLineVerdict, request, reply, no_reply, no_request, IsVerdict, IsSaidOf, said_of, AreVerdictLines, verdict_lines_from, Verdict}
use Rattle.gc_lines.proofs.Requests.{one_request, request_again, request_bad}
use Rattle.gc_lines.proofs.Replies.{one_reply, reply_again, reply_bad}
use Rattle.gc_catalogue.proofs.CallLaws.{one_refusal, no_refusal}
use Rattle.gc_catalogue.specs.declared.fault.CallFault.{CallFault}
use Rattle.gc_filters.specs.Laws.{OneVerdict}
use Rattle.gc_filters.specs.declared.verdict.Verdict.TheVariants as verdict

-- where a result is the error `e` and is the error `f`, these are one fault
same_fault : {A : Type 0} (r : Result A LineFault) (e f : LineFault) → r ≡ Err e → r ≡ Err f → e ≡ f
same_fault r e f is other = cc

-- a result isn't both a value and a fault
no_ok_and_fault : {A : Type 0} (r : Result A LineFault) (x : A) (f : LineFault) → r ≡ Ok x → r ≡ Err f → ⊥
no_ok_and_fault r x f is other = cc

-- bytes that begin with `Q,`, as a request does after `%R1`, don't begin with `P,`, as a reply does there
request_letter_is_no_reply_letter : (xs ys : List ℕ) → 81 ∷ 44 ∷ xs ≡ 80 ∷ 44 ∷ ys → ⊥
request_letter_is_no_reply_letter xs ys e = let same : ◌≡◌ {A = ℕ} 81 80 = ap (λ (zs : List ℕ). slice_index zs 0) e in omega arith

-- a request doesn't begin as a reply
request_is_no_reply : (line : List ℕ) (q : RequestFields) → IsRequest line q → BeginsAsReply line → ⊥
request_is_no_reply line q is so = request_letter_is_no_reply_letter _ _ (ap (λ (xs : List ℕ). drop 3 xs) (sym is.whole ∙ so.1))

-- a reply begins as one
reply_begins_as_reply : (line : List ℕ) (r : ReplyFields) → IsReply line r → BeginsAsReply line
reply_begins_as_reply line r is = (_, is.whole)

-- a request has one verdict at most
one_request_verdict : (q : RequestFields) (v w : Verdict) → IsRequestVerdict q v → IsRequestVerdict q w → v ≡ w
one_request_verdict q v w (reads c is says) (reads d other tells) = says ∙ sym tells
one_request_verdict q v w (reads c is says) (refuses e other tells) = absurd (no_refusal q.rpc q.params c e is other)
one_request_verdict q v w (refuses e is says) (reads c other tells) = absurd (no_refusal q.rpc q.params c e other is)
one_request_verdict q v w (refuses e is says) (refuses f other tells) =
    says ∙ ap (λ (g : CallFault). verdict.RequestFault q.rpc g) (one_refusal q.rpc q.params e f is other) ∙ sym tells

-- a line has one verdict at most
one_line_verdict : (line : List ℕ) (v w : Verdict) → IsLineVerdict line v → IsLineVerdict line w → v ≡ w
one_line_verdict line v w (request q is says) (request p other tells) = one_request_verdict q v w says (subst (λ (f : RequestFields). IsRequestVerdict f w) (one_request line p q other is) tells)
one_line_verdict line v w (request q is says) (reply r other tells) = absurd (request_is_no_reply line q is (reply_begins_as_reply line r other))
one_line_verdict line v w (request q is says) (no_reply f so bad tells) = absurd (request_is_no_reply line q is so)
one_line_verdict line v w (request q is says) (no_request f none bad tells) = absurd (no_ok_and_fault (request_at line) q f (request_again line q is) (request_bad line f bad))
one_line_verdict line v w (reply r is says) (request q other tells) = absurd (request_is_no_reply line q other (reply_begins_as_reply line r is))
one_line_verdict line v w (reply r is says) (reply p other tells) = says ∙ ap (λ (f : ReplyFields). verdict.Reply f.rc_com f.rc) (one_reply line r p is other) ∙ sym tells
one_line_verdict line v w (reply r is says) (no_reply f so bad tells) = absurd (no_ok_and_fault (reply_at line) r f (reply_again line r is) (reply_bad line f bad))
one_line_verdict line v w (reply r is says) (no_request f none bad tells) = absurd (none (reply_begins_as_reply line r is))
one_line_verdict line v w (no_reply e so bad says) (request q other tells) = absurd (request_is_no_reply line q other so)
one_line_verdict line v w (no_reply e so bad says) (reply r other tells) = absurd (no_ok_and_fault (reply_at line) r e (reply_again line r other) (reply_bad line e bad))
one_line_verdict line v w (no_reply e so bad says) (no_reply f also worse tells) =
    says ∙ ap (λ (g : LineFault). verdict.Fault g) (same_fault (reply_at line) e f (reply_bad line e bad) (reply_bad line f worse)) ∙ sym tells
one_line_verdict line v w (no_reply e so bad says) (no_request f none worse tells) = absurd (none so)
one_line_verdict line v w (no_request e none bad says) (request q other tells) = absurd (no_ok_and_fault (request_at line) q e (request_again line q other) (request_bad line e bad))
one_line_verdict line v w (no_request e none bad says) (reply r other tells) = absurd (none (reply_begins_as_reply line r other))
one_line_verdict line v w (no_request e none bad says) (no_reply f so worse tells) = absurd (none so)
one_line_verdict line v w (no_request e none bad says) (no_request f nothing worse tells) =
    says ∙ ap (λ (g : LineFault). verdict.Fault g) (same_fault (request_at line) e f (request_bad line e bad) (request_bad line f worse)) ∙ sym tells

-- a frame has one verdict at most
one_frame_verdict : (seen : Frame) (v w : Verdict) → IsVerdict seen v → IsVerdict seen w → v ≡ w
one_frame_verdict (Line line) v w says tells = one_line_verdict line.items v w says tells
one_frame_verdict Cleared v w says tells = says ∙ sym tells
one_frame_verdict Overlong v w says tells = says ∙ sym tells
one_frame_verdict More v w says tells = absurd says

-- one text at most is what a check says of a frame
one_said : (seen : Frame) (x y : List ℕ) → IsSaidOf seen x → IsSaidOf seen y → x ≡ y
one_said seen x y says tells = says.text ∙ ap (said_of seen) (one_frame_verdict seen says.verdict tells.verdict says.is tells.is) ∙ sym tells.text

-- a stream has one list of verdicts' lines at most
one_stream_verdicts : (bytes : List ℕ) (xs ys : List (List ℕ)) → AreVerdictLines bytes xs → AreVerdictLines bytes ys → xs ≡ ys
one_stream_verdicts bytes xs ys says tells =
    says.numbered ∙ ap (λ (xs : List (List ℕ)). verdict_lines_from 1 xs) (one_list IsSaidOf one_said (frames bytes) says.said tells.said says.are tells.are) ∙ sym tells.numbered

-- the law: a frame has one verdict at most, and a stream one list of verdicts' lines
pub one_verdict : OneVerdict
one_verdict = record { frame = one_frame_verdict; stream = one_stream_verdicts }
