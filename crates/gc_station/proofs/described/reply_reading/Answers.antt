use Rattle.gc_station.proofs.Common.{reply_seen}
use Rattle.gc_station.proofs.Saying.{codes_are_zero}
use Rattle.gc_station.proofs.described.reply_reading.Goals as goal

pub returns : goal.returns
returns c = codes_are_zero c.args.form.now (reply_seen c.args.reply.now) c.reading.result c.if-reply-ne0.false c.if-reply-ne0-2.false c.reading.ensures.found
