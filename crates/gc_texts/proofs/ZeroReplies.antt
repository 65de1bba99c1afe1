-- The line of a reply with return code 0 is a reply, with that code and the same other fields.
use Rattle.gc_texts.proofs.Common.{◌≡◌, ℕ, List, arith, sym, ap, subst, IsReplyInRange, reply_at, ReplyFields, IsReply, reply_text, Reading, Asked, IsAskedReading, ReadsBy}
use Rattle.gc_lines.proofs.Replies.{reply_found, reply_again}
use Rattle.gc_lines.proofs.Written.{reply_back}
use Rattle.gc_texts.specs.Zeroed.{zeroed, as_zero}

-- the fields of a reply, with return code 0 in place of theirs, are within the ranges of a reply's fields
zero_in_range : (line : List ℕ) (r : ReplyFields) → IsReply line r → IsReplyInRange (record r { rc = 0 })
zero_in_range line r is = record { rc_com = is.is_number.bound; id = is.is_id; rc = omega arith }

-- a reply's line with return code 0 (`as_zero`) is the line that is written of its fields with return code 0
pub zero_text : (line : List ℕ) (r : ReplyFields) → IsReply line r → as_zero line ≡ reply_text (record r { rc = 0 })
unfolding as_zero reply_at
zero_text line r is = ap (λ x. zeroed x line) (reply_again line r is)

-- a reply's line with return code 0 is a reply, with return code 0 and the same other fields
pub zero_is_reply : (line : List ℕ) (r : ReplyFields) → IsReply line r → IsReply (as_zero line) (record r { rc = 0 })
zero_is_reply line r is =
    subst (λ (l : List ℕ). IsReply l (record r { rc = 0 })) (sym (zero_text line r is))
    (reply_found (reply_text (record r { rc = 0 })) (record r { rc = 0 }) (reply_back (record r { rc = 0 }) (zero_in_range line r is)))

-- where a reply's fields with return code 0 mean `reading` for what was asked, the line with return code 0
-- (`as_zero`) reads as `reading` for it
pub zero_reads : (asked : Asked) (line : List ℕ) (r : ReplyFields) (reading : Reading)
    → IsReply line r → IsAskedReading asked (record r { rc = 0 }) reading
    → ReadsBy IsAskedReading asked (as_zero line) reading
zero_reads asked line r reading is says = record { reply = record r { rc = 0 }; is_reply = zero_is_reply line r is; is_reading = says }
