use Rattle.gc_catalogue.proofs.Common.{rules, reply_seen, IsReading}
use Rattle.gc_catalogue.proofs.AnswerLaws.{one_reading}
use Rattle.gc_catalogue.proofs.replies.decode_answer_into.Goals as goal

pub returns-then-not-read_quickly-clause-only : goal.returns-then-not-read_quickly-clause-only
returns-then-not-read_quickly-clause-only c = λ other x.
    let found : IsReading c.args.call.now (reply_seen c.args.reply.now) c.read_any_spelling.new.reading = search rules in
    one_reading c.args.call.now (reply_seen c.args.reply.now) c.read_any_spelling.new.reading other found x

pub returns-else-not-read_quickly-clause-only : goal.returns-else-not-read_quickly-clause-only
returns-else-not-read_quickly-clause-only c = λ other x.
    let found : IsReading c.args.call.now (reply_seen c.args.reply.now) c.read_quickly.new.reading = search rules in
    one_reading c.args.call.now (reply_seen c.args.reply.now) c.read_quickly.new.reading other found x
