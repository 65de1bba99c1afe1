-- Lines of procedures that aren't in the table: how long they are, and that they fit.
use Rattle.gc_catalogue.proofs.Common.{◌≡◌, ◌-◌, ◌≤◌, ◌++◌, ℕ, List, length, take, replicate, ap, ◌∙◌, arith, length-append, Option, Some, None, length-replicate, take-append_seam, request_plain, id_text, request_text, RawLinesFit, raw_params, raw_request, length-request, line_length}

-- the text of an optional id has at most two bytes
id_text_short : (id : Option ℕ) → length (id_text id) ≤ 2
id_text_short None = omega arith
id_text_short (Some i) = omega arith

-- if a request's line has at most 512 bytes with the id 0, it has at most 512 with any id, and without one
pub short_with_any_id : (rpc : ℕ) (id : Option ℕ) (params : List ℕ) → line_length rpc params ≤ 512
    → length (request_text (record { rpc = rpc; id = id; params = params })) ≤ 512
short_with_any_id rpc id params short = omega (arith, short, length-request rpc (Some 0) params, length-request rpc id params, id_text_short id)

-- if `all` is `bytes`, filled up to 503 with zeros, it begins with `bytes`
pub filled_front : (bytes all : List ℕ) → all ≡ bytes ++ replicate (503 - length bytes) 0 → take (length bytes) all ≡ bytes
filled_front bytes all e = ap (take (length bytes)) e ∙ take-append_seam bytes (replicate (503 - length bytes) 0)

-- if `all` is at most 503 bytes, filled up to 503 with zeros, it has 503 bytes
pub filled_length : (bytes all : List ℕ) → all ≡ bytes ++ replicate (503 - length bytes) 0 → length bytes ≤ 503 → length all ≡ 503
filled_length bytes all e few = ap length e ∙ omega (arith, length-append bytes (replicate (503 - length bytes) 0), length-replicate {A = ℕ} (503 - length bytes) 0)

-- `FitsALine` holds of each request for a procedure that isn't in the table, with each id below 8 and without one
pub raw_fits : RawLinesFit
raw_fits id raw i = record {
  plain = request_plain (raw_request id raw) (record { rpc = raw.is.bound; id = i }) raw.is.plain;
  short = short_with_any_id raw.rpc id (raw_params raw) raw.is.short;
  number = raw.is.no_procedure;
}
