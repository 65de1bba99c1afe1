-- Reading a reply finds the fields of the grammar, or the first that is bad.
use Rattle.gc_lines.proofs.Common.{◌≡◌, ℕ, inl, inr, List, [], ◌∷◌, ◌++◌, Result, Ok, Err, refl, sym, ap, ◌∙◌, subst, eqb, eqb-true, LineFault, Code, HasNumber, NoDigitFirst, id_text, ReplyFields, IsReply, HasCode, EndsCode, IsReplyBody, FirstBadOfReply, reply_signature, number_at, HeaderFields, header_at, ◌>>=◌, params_at, code_at, reply_at}
use Rattle.gc_lines.proofs.Reading.{ReadsLines, reads_exactly, ReadsField, none_means_fault, fault_means_none, bind_ok, bind_err, bind_on, guard_ok, guard_err}
use Rattle.gc_lines.proofs.Fields.{number_reads}
use Rattle.gc_lines.proofs.Headers.{header_found, header_again, ReadsBody, line_fault, line_bad}

-- the parameters

-- if `params_at` gives parameters, the bytes are a reply's end with these, as `EndsCode` has it
params_found : (bytes params : List ℕ) → params_at bytes ≡ Ok params → EndsCode bytes params
params_found [] params e = inl (refl, cc)
params_found (b ∷ bs) params e = let g = guard_ok (eqb b 44) bs params Code e in let t = eqb-true b 44 g.0 in inr (cc)

-- if the bytes are a reply's end with some parameters, as `EndsCode` has it, `params_at` gives these
params_again : (bytes params : List ℕ) → EndsCode bytes params → params_at bytes ≡ Ok params
params_again bytes params (inl e) = ap params_at e.0 ∙ ap (λ (p : List ℕ). Ok p) (sym e.1)
params_again bytes params (inr e) = ap params_at e

-- if `params_at` gives a fault, the fault is `Code`
params_fault_is_code : (bytes : List ℕ) (d : LineFault) → params_at bytes ≡ Err d → Code ≡ d
params_fault_is_code [] d e = (cc)
params_fault_is_code (b ∷ bs) d e = (guard_err (eqb b 44) bs Code d e).1

-- the code with its parameters

-- a reply's end, as `EndsCode` has it, doesn't begin with a digit
tail_stops : (tail params : List ℕ) → EndsCode tail params → NoDigitFirst tail
tail_stops tail params (inl e) = subst NoDigitFirst (sym e.0) tt
tail_stops tail params (inr e) = subst NoDigitFirst (sym e) refl

-- if `code_at` gives a return code and parameters, the bytes have the form of these, as `HasCode` has it
code_found : (bytes : List ℕ) (x : ℕ × List ℕ) → code_at bytes ≡ Ok x → HasCode bytes x.0 x.1
code_found bytes x e =
    let a = bind_ok (number_at Code bytes) _ x e in
    let b = bind_ok (params_at a.0.1) _ x a.2 in
    let n = (number_reads Code).found bytes a.0 a.1 in
    let it : HasCode bytes a.0.0 b.0 = record { text = n.text; tail = a.0.1; is_number = n.is_number; is_tail = params_found a.0.1 b.0 b.1; whole = n.whole } in
    let same : (let p : ℕ × List ℕ = (a.0.0, b.0) in p) ≡ x = cc in
    subst (λ (p : ℕ × List ℕ). HasCode bytes p.0 p.1) same it

-- if the bytes have the form of a return code and parameters, as `HasCode` has it, `code_at` gives these
code_again : (bytes : List ℕ) (x : ℕ × List ℕ) → HasCode bytes x.0 x.1 → code_at bytes ≡ Ok x
code_again bytes x has =
    let n : HasNumber bytes x.0 has.tail = record { text = has.text; is_number = has.is_number; whole = has.whole; ends = tail_stops has.tail x.1 has.is_tail } in
    bind_on (number_at Code bytes) (λ code. params_at code.1 >>= λ params. Ok (code.0, params)) (x.0, has.tail) ((number_reads Code).again bytes (x.0, has.tail) n)
    ∙ bind_on (params_at has.tail) (λ params. Ok (x.0, params)) x.1 (params_again has.tail x.1 has.is_tail)

-- if `code_at` gives a fault, the fault is `Code`
code_fault_is_code : (bytes : List ℕ) (d : LineFault) → code_at bytes ≡ Err d → Code ≡ d
code_fault_is_code bytes d e = elim (bind_err (number_at Code bytes) _ d e) [
  | inl h ↦ (number_reads Code).named bytes d h
  | inr a ↦ elim (bind_err (params_at a.0.1) _ d a.2) [
    | inl h ↦ params_fault_is_code a.0.1 d h
    | inr b ↦ (cc)
  ]
]

-- `code_at` gives a return code and parameters exactly if the bytes have the form of these, and its one fault is `Code`
code_reads : ReadsField code_at (λ bytes x. HasCode bytes x.0 x.1) Code
code_reads = record { found = code_found; again = code_again; named = code_fault_is_code }

-- the line

-- a reply's fields, made of those of its header, and of its code and parameters
abbrev reply_fields : HeaderFields → ℕ × List ℕ → ReplyFields
reply_fields h code = record { rc_com = h.number; id = h.id; rc = code.0; params = code.1 }

-- what `reply_at` reads after a header
abbrev read_body : HeaderFields → Result ReplyFields LineFault
read_body h = code_at h.rest >>= λ code. Ok (reply_fields h code)

-- if `read_body` gives a fault, the fault is `Code`, and what follows the header hasn't the form of a reply's body
body_fault_is_code : (h : HeaderFields) (d : LineFault) → read_body h ≡ Err d → (Code ≡ d) × (¬ IsReplyBody h.rest)
body_fault_is_code h d e = elim (bind_err (code_at h.rest) _ d e) [
  | inl f ↦ (code_fault_is_code h.rest d f, λ has. fault_means_none _ _ _ code_reads h.rest d f (has.0, has.1) has.2)
  | inr a ↦ (cc)
]

-- if what follows the header hasn't the form of a reply's body, `read_body` gives the fault `Code`
body_refused : (h : HeaderFields) → (¬ IsReplyBody h.rest) → read_body h ≡ Err Code
body_refused h bad = rw (none_means_fault _ _ _ code_reads h.rest (λ x has. bad (x.0, x.1, has))) refl

-- `read_body` fails exactly if what follows the header hasn't the form of a reply's body, and then with `Code`
reads_body : ReadsBody read_body IsReplyBody
reads_body = record { named = body_fault_is_code; refused = body_refused }

-- if `reply_at` gives fields, the line has the grammar of a reply with these fields
pub reply_found : (line : List ℕ) (r : ReplyFields) → reply_at line ≡ Ok r → IsReply line r
unfolding reply_at
reply_found line r e =
    let a = bind_ok (header_at reply_signature line) read_body r e in
    let b = bind_ok (code_at a.0.rest) _ r a.2 in
    let h = header_found reply_signature line a.0 a.1 in
    let c = code_found a.0.rest b.0 b.1 in
    let it : IsReply line (reply_fields a.0 b.0) = record {
      number = h.number;
      code = c.text;
      tail = c.tail;
      is_number = h.is_number;
      is_id = h.is_id;
      is_code = c.is_number;
      is_tail = c.is_tail;
      whole = h.whole ∙ ap (λ rest. reply_signature ++ (h.number ++ (id_text a.0.id ++ 58 ∷ rest))) c.whole;
    } in
    let same : reply_fields a.0 b.0 ≡ r = cc in
    subst (λ (f : ReplyFields). IsReply line f) same it

-- if a line has the grammar of a reply with some fields, `reply_at` gives these fields
pub reply_again : (line : List ℕ) (r : ReplyFields) → IsReply line r → reply_at line ≡ Ok r
unfolding reply_at
reply_again line r is =
    let h : HeaderFields = record { number = r.rc_com; id = r.id; rest = is.code ++ is.tail } in
    let c : HasCode (is.code ++ is.tail) r.rc r.params = record { text = is.code; tail = is.tail; is_number = is.is_code; is_tail = is.is_tail; whole = refl } in
    bind_on (header_at reply_signature line) read_body h (header_again reply_signature line h (record { number = is.number; is_number = is.is_number; is_id = is.is_id; whole = is.whole }))
    ∙ bind_on (code_at h.rest) (λ code. Ok (reply_fields h code)) (r.rc, r.params) (code_again h.rest (r.rc, r.params) c)

-- if `reply_at` gives a fault, that fault names the first bad field of the line, as `FirstBadOfReply` has it
pub reply_fault : (line : List ℕ) (d : LineFault) → reply_at line ≡ Err d → FirstBadOfReply line d
unfolding reply_at
reply_fault line d e = line_fault reply_signature read_body IsReplyBody reads_body line d e

-- if a fault names the first bad field of the line, as `FirstBadOfReply` has it, `reply_at` gives that fault
pub reply_bad : (line : List ℕ) (f : LineFault) → FirstBadOfReply line f → reply_at line ≡ Err f
unfolding reply_at
reply_bad line f bad = line_bad reply_signature read_body IsReplyBody reads_body line f bad

-- `reply_at` gives fields exactly if the line has the grammar of a reply with them, and a fault exactly if that fault names the
-- first bad field
pub reply_reads : ReadsLines reply_at IsReply FirstBadOfReply
reply_reads = record { found = reply_found; again = reply_again; fault = reply_fault; bad = reply_bad }

-- a line has the grammar of a reply with at most one list of fields
pub one_reply : (line : List ℕ) (p r : ReplyFields) → IsReply line p → IsReply line r → p ≡ r
one_reply = (reads_exactly reply_reads).one
