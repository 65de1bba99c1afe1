use Rattle.gc_catalogue.proofs.Common.{subst, reply_seen, IsAskedReading}
use Rattle.gc_catalogue.proofs.RawRules.{one_raw_reading}
use Rattle.gc_catalogue.proofs.asked.decode_asked_into.Goals as goal

pub returns-in-Raw-clause-only : goal.returns-in-Raw-clause-only
returns-in-Raw-clause-only c = λ other is.
    one_raw_reading (reply_seen c.args.reply.now) c.decode_raw_into.new.reading other c.decode_raw_into.ensures
    (subst (λ asked. IsAskedReading asked (reply_seen c.args.reply.now) other) c.in-Raw.is is)
