use Rattle.gc_filters.proofs.Common.{◌≢◌, List, ℕ, refl, FirstBadOfReply, LineFault, BeginsAsReply, no_reply}
use Rattle.gc_lines.specs.declared.fault.LineFault.TheVariants as fault
use Rattle.gc_filters.proofs.verdict.verdict_on_no_reply.Goals as goal

-- if the first field that is bad in a line, read as a reply, isn't the signature, the line begins as a reply
bad_reply_begins_as_reply : (line : List ℕ) (f : LineFault) → f ≢ fault.Signature → FirstBadOfReply line f → BeginsAsReply line
bad_reply_begins_as_reply line fault.Signature other bad = absurd (other refl)
bad_reply_begins_as_reply line fault.Number other bad = (bad.0, bad.1)
bad_reply_begins_as_reply line fault.Id other bad = (bad.1.from, bad.1.before)
bad_reply_begins_as_reply line fault.Colon other bad = (bad.1.before.from, bad.1.before.before)
bad_reply_begins_as_reply line fault.Code other bad = (bad.1.before.before.from, bad.1.before.before.before)
bad_reply_begins_as_reply line fault.TooLong other bad = absurd bad

pub returns-in_default : goal.returns-in_default
returns-in_default c = no_reply c.args.fault (bad_reply_begins_as_reply c.args.line.now c.args.fault c.in_default.not-Signature c.requires) c.requires refl
