-- Request lines without an id, and what they ask for.
use Rattle.geocom_c.proofs.Common.{◌≡◌, ℕ, List, sym, subst, ◌∙◌, LineFault, RequestFields, IsRequest, request_at, Asked, asked_id, asked_line, asked_request, IsAsked, ReadsBackAsked, IsLineOf}
use Rattle.std.specs.Prelude.{Ok, Err, None}
use Rattle.gc_lines.proofs.Requests.{request_found, request_again}

-- the line that is written for what is asked, without an id, is one that asks for it (`IsLineOf`)
pub written_line_asks : (line : List ℕ) (asked : Asked) → ReadsBackAsked None asked → line ≡ asked_line None asked → IsLineOf line asked
written_line_asks line asked back e =
    record {
      fields = asked_request None asked;
      is_request = subst (λ l. IsRequest l (asked_request None asked)) (sym e) (request_found (asked_line None asked) (asked_request None asked) back.line);
      no_id = asked_id None asked;
      is_asked = back.is_asked;
    }

-- a line that doesn't read asks for nothing
pub unread_asks_nothing : (line : List ℕ) (asked : Asked) (f : LineFault) → request_at line ≡ Err f → IsLineOf line asked → ⊥
unread_asks_nothing line asked f e is = let both : Ok is.fields ≡ Err f = sym (request_again line is.fields is.is_request) ∙ e in cc

-- if a line reads as the fields r, and asks for something, r has no id, and its number and parameters ask for that
pub asks_as_read : (line : List ℕ) (asked : Asked) (r : RequestFields) → request_at line ≡ Ok r → IsLineOf line asked → (r.id ≡ None) × IsAsked r.rpc r.params asked
asks_as_read line asked r e is =
    let both : Ok is.fields ≡ Ok r = sym (request_again line is.fields is.is_request) ∙ e in
    let same : is.fields ≡ r = cc in
    (subst (λ (q : RequestFields). q.id ≡ None) same is.no_id, subst (λ (q : RequestFields). IsAsked q.rpc q.params asked) same is.is_asked)
