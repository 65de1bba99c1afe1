-- Clients: their widths, and the lines and lists that their calls write.
use Rattle.geocom_c.proofs.Common.{◌≡◌, ℕ, List, ◌++◌, Some, Ok, Err, length, take, ◌∙◌, sym, ap, subst, arith, take_all, take-append-le, with_end, request_text, asked_line, raw_params, IsAsked, IsRawCall, IsRawRefusal, Asked, Raw, RawCall, Windowed, IsGiven}
use Rattle.gc_catalogue.proofs.RawRules.{no_raw_refusal}
use Rattle.gc_catalogue.specs.declared.raw.RawFault.{RawFault}

-- where client d has the width of client c, d is c with the ids of d
pub same_width : (c d : Windowed Asked) → d.width ≡ c.width → d ≡ record c { ids = d.ids }
same_width c d e = ap (λ w. let x : Windowed Asked = record { width = w; ids = d.ids } in x) e

-- a number and parameters for which a raw request asks aren't refused
pub never_refused : (procedure : ℕ) (params : List ℕ) (raw : RawCall) (e : RawFault) → IsAsked procedure params (Raw raw) → IsRawRefusal procedure params e → ⊥
never_refused procedure params raw e is fault =
    no_raw_refusal procedure params e
    (subst (λ (n : ℕ). IsRawCall n params) is.0 (subst (λ (p : List ℕ). IsRawCall raw.rpc p) is.1 raw.is)) fault

-- the line of a raw request, with its CR LF, has the number and the parameters that were given
pub raw_line_has_params : (raw : RawCall) (procedure : ℕ) (params : List ℕ) (id : ℕ) (text : List ℕ) → IsAsked procedure params (Raw raw)
    → text ≡ with_end (asked_line (Some id) (Raw raw)) → text ≡ with_end (request_text (record { rpc = procedure; id = Some id; params = params }))
raw_line_has_params raw procedure params id text is e =
    e
    ∙ ap (λ n. with_end (request_text (record { rpc = n; id = Some id; params = raw_params raw }))) is.0
    ∙ ap (λ (p : List ℕ). with_end (request_text (record { rpc = procedure; id = Some id; params = p }))) is.1

-- an error isn't a success
pub never_ok : {A E : Type 0} (e : E) (x : A) → Err e ≡ Ok x → ⊥
never_ok e x f = cc

-- where n bytes of a room are the text with its CR LF, `count` bytes are the line with its CR LF, if the line is the text, and
-- `count` is n
pub given_if_equal : (text line : List ℕ) (n count : ℕ) (room : List ℕ) → text ≡ line → count ≡ n → IsGiven (Some text) n room → IsGiven (Some line) count room
given_if_equal text line n count room e f is = subst (λ (k : ℕ). IsGiven (Some line) k room) (sym f) (subst (λ (l : List ℕ). IsGiven (Some l) n room) e is)

-- where t is a line, and u is t with `more` after it, u begins with that line
pub begins_with_line : (line t u more : List ℕ) → t ≡ line → u ≡ t ++ more → take (length line) u ≡ line
begins_with_line line t u more e f = ap (take (length line)) (f ∙ ap (λ x. x ++ more) e) ∙ take-append-le (length line) line more (omega arith) ∙ take_all (length line) line (omega arith)
