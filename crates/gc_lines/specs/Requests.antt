-- Request lines: %R1Q,<RPC>[,<TrId>]:[<P0>][,<P1>,...], as the manual's chapter on the ASCII protocol has them.
use Rattle.std.specs.Prelude.{◌≡◌, ℕ, List, ◌∷◌, ◌++◌, Option, codes}
use Rattle.std.specs.Fmt.{decimal}
use Rattle.gc_lines.specs.declared.fault.LineFault.{LineFault}
use Rattle.gc_lines.specs.declared.request.Request.{Request}
use Rattle.gc_lines.specs.Numbers.{IsSmallNumber, NoLeadingZero}
use Rattle.gc_lines.specs.Headers.{id_text, FirstBadField, IsIdInRange}

-- the fields of a request: the procedure's number, the transaction id where there is one, and all bytes after the colon
pub record RequestFields : Type 0 where
  pub rpc : ℕ
  pub id : Option ℕ
  pub params : List ℕ

-- what a contract sees of a request
abbrev pub request_seen : Request → RequestFields
request_seen r = record { rpc = r.rpc; id = r.id; params = r.params.now }

-- how a request line begins
abbrev pub request_signature : List ℕ
request_signature = codes "%R1Q,"

-- a line has the grammar of a request with these fields: it is the fields' texts, one after the other
pub record IsRequest (line : List ℕ) (fields : RequestFields) : Type 0 where
  pub number : List ℕ
  pub is_number : IsSmallNumber number fields.rpc
  pub is_id : IsIdInRange fields.id
  pub whole : line ≡ request_signature ++ (number ++ (id_text fields.id ++ 58 ∷ fields.params))

-- the line is no request
abbrev pub IsNoRequest : (line : List ℕ) → Type 0
IsNoRequest line = (q : RequestFields) → ¬ IsRequest line q

-- the fault names the first field of a request, from the left, that doesn't have its form; parameters may be any bytes
abbrev pub FirstBadOfRequest : List ℕ → LineFault → Type 0
FirstBadOfRequest line fault = FirstBadField request_signature (λ _. Unit {0}) line fault

-- a line is the written form of a request with these fields: its number has no leading zeros
pub record IsWrittenRequest (line : List ℕ) (fields : RequestFields) : Type 0 where
  pub is : IsRequest line fields
  pub number : NoLeadingZero is.number

-- a request as it is written: its number without leading zeros
abbrev pub request_text : RequestFields → List ℕ
request_text q = request_signature ++ (decimal q.rpc ++ (id_text q.id ++ 58 ∷ q.params))
