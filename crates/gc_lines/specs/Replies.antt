-- Reply lines: %R1P,<RC_COM>[,<TrId>]:<RC>[,<P0>,<P1>,...], as the manual's chapter on the ASCII protocol has them.
use Rattle.std.specs.Prelude.{◌≡◌, ◌↔◌, ℕ, ◌⊎◌, List, [], ◌∷◌, ◌++◌, Option, codes}
use Rattle.std.specs.Fmt.{decimal}
use Rattle.gc_lines.specs.declared.fault.LineFault.{LineFault}
use Rattle.gc_lines.specs.declared.reply.Reply.{Reply}
use Rattle.gc_lines.specs.Numbers.{IsSmallNumber, NoLeadingZero}
use Rattle.gc_lines.specs.Headers.{id_text, FirstBadField, IsIdInRange}

-- the fields of a reply: the return code of the communication, the transaction id where there is one, the return code of the
-- procedure, and all bytes after the comma that follows it, or none without a comma
pub record ReplyFields : Type 0 where
  pub rc_com : ℕ
  pub id : Option ℕ
  pub rc : ℕ
  pub params : List ℕ

-- how a reply line begins
abbrev pub reply_signature : List ℕ
reply_signature = codes "%R1P,"

-- after a return code the line ends, or a comma and then the parameters follow
abbrev pub EndsCode : (tail params : List ℕ) → Type 0
EndsCode tail params = ((tail ≡ []) × (params ≡ [])) ⊎ (tail ≡ 44 ∷ params)

-- a line has the grammar of a reply with these fields: it is the fields' texts, one after the other
pub record IsReply (line : List ℕ) (fields : ReplyFields) : Type 0 where
  pub number : List ℕ
  pub code : List ℕ
  pub tail : List ℕ
  pub is_number : IsSmallNumber number fields.rc_com
  pub is_id : IsIdInRange fields.id
  pub is_code : IsSmallNumber code fields.rc
  pub is_tail : EndsCode tail fields.params
  pub whole : line ≡ reply_signature ++ (number ++ (id_text fields.id ++ 58 ∷ (code ++ tail)))

-- what a contract sees of a reply
abbrev pub reply_seen : Reply → ReplyFields
reply_seen r = record { rc_com = r.rc_com; id = r.id; rc = r.rc; params = r.params.now }

-- the bytes are a return code and then, unless they end there, a comma and the parameters
pub record HasCode (bytes : List ℕ) (rc : ℕ) (params : List ℕ) : Type 0 where
  pub text : List ℕ
  pub tail : List ℕ
  pub is_number : IsSmallNumber text rc
  pub is_tail : EndsCode tail params
  pub whole : bytes ≡ text ++ tail

-- the bytes may follow a reply's colon: a return code and parameters, as `HasCode` has them
abbrev pub IsReplyBody : List ℕ → Type 0
IsReplyBody bytes = (rc : ℕ) × (params : List ℕ) × HasCode bytes rc params

-- the fault names the first field of a reply, from the left, that doesn't have its form
abbrev pub FirstBadOfReply : List ℕ → LineFault → Type 0
FirstBadOfReply line fault = FirstBadField reply_signature IsReplyBody line fault

-- a line is the written form of a reply: its numbers have no leading zeros, and a comma follows the return code exactly
-- where there are parameters
pub record IsWrittenReply (line : List ℕ) (fields : ReplyFields) : Type 0 where
  pub is : IsReply line fields
  pub number : NoLeadingZero is.number
  pub code : NoLeadingZero is.code
  pub comma : (is.tail ≡ []) ↔ (fields.params ≡ [])

-- the parameters after a comma, where there are any
abbrev pub params_text : List ℕ → List ℕ
params_text [] = []
params_text (b ∷ bs) = 44 ∷ b ∷ bs

-- a reply as it is written: its numbers without leading zeros, and a comma after the return code only where there are parameters
abbrev pub reply_text : ReplyFields → List ℕ
reply_text r = reply_signature ++ (decimal r.rc_com ++ (id_text r.id ++ 58 ∷ (decimal r.rc ++ params_text r.params)))
