-- Reading a request finds the fields of the grammar, or the first that is bad.
use Rattle.gc_lines.proofs.Common.{◌≡◌, ℕ, List, Result, Ok, Err, subst, LineFault, RequestFields, IsRequest, FirstBadOfRequest, request_signature, HeaderFields, header_at, request_at}
use Rattle.gc_lines.proofs.Reading.{ReadsLines, reads_exactly, bind_ok, bind_on}
use Rattle.gc_lines.proofs.Headers.{header_found, header_again, ReadsBody, line_fault, line_bad}

-- what `request_at` reads after a header: any bytes
abbrev read_body : HeaderFields → Result RequestFields LineFault
read_body h = Ok (record { rpc = h.number; id = h.id; params = h.rest })

-- `read_body` is a reader of a body that may be any bytes, as `ReadsBody` has it: it never fails
reads_body : ReadsBody read_body (λ _. Unit {0})
reads_body = record { named = λ h d e. (cc); refused = λ h no. absurd (no tt) }

-- if `request_at` gives fields, the line has the grammar of a request with these fields
pub request_found : (line : List ℕ) (q : RequestFields) → request_at line ≡ Ok q → IsRequest line q
unfolding request_at
request_found line q e =
    let a = bind_ok (header_at request_signature line) read_body q e in
    let h = header_found request_signature line a.0 a.1 in
    let it : IsRequest line (record { rpc = a.0.number; id = a.0.id; params = a.0.rest }) = record { number = h.number; is_number = h.is_number; is_id = h.is_id; whole = h.whole } in
    let same : (let f : RequestFields = record { rpc = a.0.number; id = a.0.id; params = a.0.rest } in f) ≡ q = cc in
    subst (λ (f : RequestFields). IsRequest line f) same it

-- if a line has the grammar of a request with some fields, `request_at` gives these fields
pub request_again : (line : List ℕ) (q : RequestFields) → IsRequest line q → request_at line ≡ Ok q
unfolding request_at
request_again line q is =
    let h : HeaderFields = record { number = q.rpc; id = q.id; rest = q.params } in
    bind_on (header_at request_signature line) read_body h (header_again request_signature line h (record { number = is.number; is_number = is.is_number; is_id = is.is_id; whole = is.whole }))

-- if `request_at` gives a fault, that fault names the first bad field of the line, as `FirstBadOfRequest` has it
pub request_fault : (line : List ℕ) (d : LineFault) → request_at line ≡ Err d → FirstBadOfRequest line d
unfolding request_at
request_fault line d e = line_fault request_signature read_body (λ _. Unit {0}) reads_body line d e

-- if a fault names the first bad field of the line, as `FirstBadOfRequest` has it, `request_at` gives that fault
pub request_bad : (line : List ℕ) (f : LineFault) → FirstBadOfRequest line f → request_at line ≡ Err f
unfolding request_at
request_bad line f bad = line_bad request_signature read_body (λ _. Unit {0}) reads_body line f bad

-- `request_at` gives fields exactly if the line has the grammar of a request with them, and a fault exactly if that fault names
-- the first bad field
pub request_reads : ReadsLines request_at IsRequest FirstBadOfRequest
request_reads = record { found = request_found; again = request_again; fault = request_fault; bad = request_bad }

-- a line has the grammar of a request with at most one list of fields
pub one_request : (line : List ℕ) (p q : RequestFields) → IsRequest line p → IsRequest line q → p ≡ q
one_request = (reads_exactly request_reads).one
