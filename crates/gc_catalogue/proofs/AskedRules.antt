-- What is asked: one thing for a number and parameters, and one for a line; and one reading for a reply.
use Rattle.gc_catalogue.proofs.Common.{◌≡◌, ℕ, List, refl, sym, ap, ◌∙◌, subst, Option, Result, Ok, request_back, RequestFields, request_at, asked_request, raw_params, raw_request, IsAsked, AskedReadBack, EachReplyIsReadForAsked, OneAsked, OneAskedForALine, OneAskedReading, IsCall, OneCallForALine, raw_bytes, IsRawCall, Table, Raw, Call, RawCall, RawText}
use Rattle.gc_lines.specs.declared.fault.LineFault.{LineFault}
use Rattle.gc_catalogue.specs.RawProps.{IsRawCall-prop}
use Rattle.gc_catalogue.specs.declared.asked.Asked.{Asked}
use Rattle.gc_catalogue.proofs.AnswerLaws.{one_reading}
use Rattle.gc_catalogue.proofs.CallLaws.{one_call}
use Rattle.gc_catalogue.proofs.EachReply.{each_reply}
use Rattle.gc_catalogue.proofs.LineLaws.{call_again}
use Rattle.gc_catalogue.proofs.SameText.{same_text}
use Rattle.gc_catalogue.proofs.RawRules.{each_raw_reply, one_raw_reading}

-- the request for a procedure that isn't in the table, made of its number, its parameters and the proof that they may be asked
-- for
abbrev raw_call_of : (rpc : ℕ) (params : RawText) → IsRawCall rpc (raw_bytes params) → RawCall
raw_call_of rpc params is = record { rpc = rpc; params = params; is = is }

-- requests with the same number and the same parameters are equal, whatever the proofs are that they may be asked for
same_raw_call : (rpc : ℕ) (params : RawText) (is : IsRawCall rpc (raw_bytes params)) (other : ℕ) (text : RawText) → rpc ≡ other → params ≡ text
    → (so : IsRawCall other (raw_bytes text)) → raw_call_of rpc params is ≡ raw_call_of other text so
same_raw_call rpc params is other text e f =
    let P : ℕ → Type 0 = λ n. (so : IsRawCall n (raw_bytes text)) → raw_call_of rpc params is ≡ raw_call_of n text so in
    let Q : RawText → Type 0 = λ t. (so : IsRawCall rpc (raw_bytes t)) → raw_call_of rpc params is ≡ raw_call_of rpc t so in
    subst P e (subst Q f (λ so. ap (raw_call_of rpc params) (IsRawCall-prop rpc (raw_bytes params) is so)))

-- requests with the same number and the same parameters' bytes are equal
pub same_raw : (a b : RawCall) → a.rpc ≡ b.rpc → raw_params a ≡ raw_params b → a ≡ b
same_raw a b e f = same_raw_call a.rpc a.params a.is b.rpc b.params e (same_text a.params b.params f) b.is

-- a request for a call doesn't have the number of a procedure that isn't in the table
pub no_call_is_raw : (rpc : ℕ) (params : List ℕ) (call : Call) (raw : RawCall) → IsCall rpc params call → raw.rpc ≡ rpc → ⊥
no_call_is_raw rpc params call raw is e = raw.is.no_procedure call (is.number ∙ sym e)

-- a number and parameters ask for at most one thing
pub one_asked : OneAsked
one_asked rpc params (Table c) (Table d) x y = ap (λ z. Table z) (one_call rpc params c d x y)
one_asked rpc params (Table c) (Raw s) x y = absurd (no_call_is_raw rpc params c s x y.0)
one_asked rpc params (Raw r) (Table d) x y = absurd (no_call_is_raw rpc params d r y x.0)
one_asked rpc params (Raw r) (Raw s) x y = ap (λ z. Raw z) (same_raw r s (x.0 ∙ sym y.0) (x.1 ∙ sym y.1))

-- the line of what is asked, if that is allowed (`IsAskedFitting`), with an id below 8 or without one, reads back as what was
-- asked
pub asked_again : AskedReadBack
asked_again id (Table call) i fits = let again = call_again id call i fits in record { line = again.line; is_asked = again.is_asked }
asked_again id (Raw raw) i fits = record { line = request_back (raw_request id raw) (record { rpc = raw.is.bound; id = i }); is_asked = (refl, refl) }

-- the request for what is asked has the id that it was given
pub asked_id : (id : Option ℕ) (asked : Asked) → (asked_request id asked).id ≡ id
asked_id id (Table call) = refl
asked_id id (Raw raw) = refl

-- a result is `Ok` of at most one request
one_request_read : (r : Result RequestFields LineFault) (p q : RequestFields) → r ≡ Ok p → r ≡ Ok q → p ≡ q
one_request_read r p q e f = cc

-- requests with the same line, for what is allowed, each with an id below 8 or without one, ask for the same thing, and have the
-- same id
pub one_asked_for_a_line : OneAskedForALine
one_asked_for_a_line i j a b x y f g e =
    let one = asked_again i a x f in
    let two = asked_again j b y g in
    let same : asked_request i a ≡ asked_request j b = one_request_read _ (asked_request i a) (asked_request j b) one.line (ap request_at e ∙ two.line) in (
      sym (asked_id i a) ∙ ap (λ (q : RequestFields). q.id) same ∙ asked_id j b,
      one_asked (asked_request j b).rpc (asked_request j b).params a b (subst (λ (q : RequestFields). IsAsked q.rpc q.params a) same one.is_asked) two.is_asked,
    )

-- calls with values in range and the same line, each with an id below 8 or without one, are the same call, and have the same id
pub one_call_for_a_line : OneCallForALine
one_call_for_a_line i j c d x y f g e =
    let one = one_asked_for_a_line i j (Table c) (Table d) x y f g e in
    (one.0, (let same : Table c ≡ Table d = one.1 in cc))

-- a reply has at most one reading for what was asked
pub one_asked_reading : OneAskedReading
one_asked_reading (Table call) reply x y f g = one_reading call reply x y f g
one_asked_reading (Raw raw) reply x y f g = one_raw_reading reply x y f g

-- each reply has a reading for whatever was asked
pub each_asked_reply : EachReplyIsReadForAsked
each_asked_reply (Table call) reply = each_reply call reply
each_asked_reply (Raw raw) reply = each_raw_reply reply
