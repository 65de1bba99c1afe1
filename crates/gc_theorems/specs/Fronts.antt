-- Requests for calls of the table that are cut, this project's own. If only the front of one got through, with a line feed after
-- it, or only its tail, as after a start of the instrument, no request got through. So a request that was cut reaches the
-- instrument whole or not at all.
use Rattle.gc_theorems.specs.Common.{lines, with_end, RequestFields, IsRequest, call_fields, IsFitting, request_line, HasNoRequest}
use Rattle.std.specs.Prelude.{◌≡◌, ℕ, ◌+◌, ◌<◌, ◌≤◌, List, [], ◌∷◌, ◌++◌, length, take, drop, Some}
use Rattle.gc_catalogue.specs.declared.call.Call.{Call}

-- the bytes of a request, with its CR LF
abbrev pub request_bytes : ℕ → Call → List ℕ
request_bytes id call = with_end (request_line (Some id) call)

-- a front or a tail of a request with this id and call is no request, unless it is the whole one
pub record IsWholeOrNothing (id : ℕ) (call : Call) : Type 0 where
  -- a front without the CR, followed by a line feed, gives no line; the front with the CR, followed by a line feed, is the
  -- whole request
  pub front : (count : ℕ) → count ≤ length (request_line (Some id) call) → lines (take count (request_bytes id call) ++ 10 ∷ []) ≡ []
  pub whole : take (length (request_line (Some id) call) + 1) (request_bytes id call) ++ 10 ∷ [] ≡ request_bytes id call
  -- no line of a tail is a request
  pub tail : (count : ℕ) → 0 < count → HasNoRequest (drop count (request_bytes id call))

-- each request of a call that fits is whole or nothing, whatever its id
abbrev pub CutRequestsAreWholeOrNothing : Type 0
CutRequestsAreWholeOrNothing = (id : ℕ) (call : Call) → IsFitting call → IsWholeOrNothing id call

-- if the line feed after the front of a request is lost, the front and the next request are one line. If that line is a request
-- at all, it has the id and the procedure of the request that was cut: for a front of at least one byte, without the CR, of a
-- request with an id from 0 to 7 and a call that fits; the next request may have any id and call
abbrev pub JoinedRequestsHaveTheFrontsId : Type 0
JoinedRequestsHaveTheFrontsId =
    (id : ℕ) (call : Call) (next_id : ℕ) (next_call : Call) (count : ℕ) → id < 8 → IsFitting call → 0 < count → (q : RequestFields) →
    IsRequest (take count (request_line (Some id) call) ++ request_line (Some next_id) next_call) q → (q.id ≡ Some id) × (q.rpc ≡ (call_fields call).number)
