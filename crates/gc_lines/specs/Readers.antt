-- No part of a promise: a line read from the left, field by field, as the code reads it. The laws say that this finds just what
-- has the grammar, and names just the first bad field.
use Rattle.std.specs.Prelude.{ℕ, ◌-◌, ◌==◌, ◌&&◌, List, [], ◌∷◌, length, take, drop, nat_lt, nat_eq, slice_index, if◌then◌else◌, Option, Some, None, Result, Ok, Err}
use Rattle.std.specs.List.{take_while}
use Rattle.std.specs.Char.{is_ascii_digit}
use Rattle.std.specs.Cmp.Lexicographic.{pointwise}
use Rattle.std.specs.Str.Parse.{digits_value}
use Rattle.gc_lines.specs.declared.fault.LineFault.{LineFault}
use Rattle.gc_lines.specs.declared.fault.LineFault.TheVariants.{Signature, Number, Id, Colon, Code}
use Rattle.gc_lines.specs.declared.header.Header.{Header}
use Rattle.gc_lines.specs.Requests.{RequestFields, request_signature}
use Rattle.gc_lines.specs.Replies.{ReplyFields, reply_signature}

-- the next reader applied to the value that was read; a fault stays the fault
infixl 10 ◌>>=◌
abbrev pub ◌>>=◌ : {A B : Type 0} → Result A LineFault → (A → Result B LineFault) → Result B LineFault
(Ok x) >>= f = f x
(Err e) >>= f = Err e

-- what follows the signature at the front of a line, or the fault `Signature`
abbrev pub signature_at : (signature line : List ℕ) → Result (List ℕ) LineFault
signature_at signature line =
    if pointwise nat_eq (take (length signature) line) signature then Ok (drop (length signature) line) else Err Signature

-- how many digits are at the front
abbrev pub digits_len : List ℕ → ℕ
digits_len bytes = length (take_while is_ascii_digit bytes)

-- the number that the digits at the front write, and what follows them; or this fault where there are no digits there or more
-- than five, or where they write more than 65535
abbrev pub number_at : LineFault → List ℕ → Result (ℕ × List ℕ) LineFault
number_at fault bytes =
    let len = digits_len bytes in
    if nat_lt 0 len && (nat_lt len 6 && nat_lt (digits_value 10 (take len bytes)) 65536)
    then Ok (digits_value 10 (take len bytes), drop len bytes) else Err fault

-- the id after a comma at the front, or none without a comma, and what follows; or the fault `Id` where the digits that follow
-- the comma are none, or more than one, or 8 or 9
abbrev pub id_at : List ℕ → Result (Option ℕ × List ℕ) LineFault
id_at bytes =
    if slice_index bytes 0 == 44
    then (if (digits_len (drop 1 bytes) == 1) && nat_lt (slice_index bytes 1) 56
    then Ok (Some (slice_index bytes 1 - 48), drop 2 bytes) else Err Id)
    else Ok (None, bytes)

-- what follows a colon at the front, or the fault `Colon`
abbrev pub colon_at : List ℕ → Result (List ℕ) LineFault
colon_at bytes = if slice_index bytes 0 == 58 then Ok (drop 1 bytes) else Err Colon

-- the values of the fields up to the colon, and what follows the colon
pub record HeaderFields : Type 0 where
  pub number : ℕ
  pub id : Option ℕ
  pub rest : List ℕ

-- what a contract sees of a header
abbrev pub header_seen : Header → HeaderFields
header_seen h = record { number = h.number; id = h.id; rest = h.rest.now }

-- reads the fields through the colon, from the left, or gives the fault of the first that hasn't its form. `from` is what
-- follows the signature
unfoldable pub header_at : (signature line : List ℕ) → Result HeaderFields LineFault
header_at signature line = do
  from ← signature_at signature line
  number ← number_at Number from
  id ← id_at number.1
  rest ← colon_at id.1
  Ok (record { number = number.0; id = id.0; rest = rest })

-- reads a request line's fields from the left, or gives the fault of the first that hasn't its form
unfoldable pub request_at : List ℕ → Result RequestFields LineFault
request_at line = do
  header ← header_at request_signature line
  Ok (record { rpc = header.number; id = header.id; params = header.rest })

-- the parameters after a return code: none at the end of the line, else all that follows a comma; or the fault `Code` where
-- another byte comes
abbrev pub params_at : List ℕ → Result (List ℕ) LineFault
params_at [] = Ok []
params_at (b ∷ bs) = if b == 44 then Ok bs else Err Code

-- the return code at the front and the parameters after it, or the fault `Code`
abbrev pub code_at : List ℕ → Result (ℕ × List ℕ) LineFault
code_at bytes = do
  code ← number_at Code bytes
  params ← params_at code.1
  Ok (code.0, params)

-- reads a reply line's fields from the left, or gives the fault of the first that hasn't its form
unfoldable pub reply_at : List ℕ → Result ReplyFields LineFault
reply_at line = do
  header ← header_at reply_signature line
  code ← code_at header.rest
  Ok (record { rc_com = header.number; id = header.id; rc = code.0; params = code.1 })
