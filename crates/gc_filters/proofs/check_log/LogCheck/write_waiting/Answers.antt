use Rattle.gc_filters.proofs.Common.{refl, rules}
use Rattle.gc_filters.proofs.LogVerdicts.{judged_part, judged_written}
use Rattle.gc_filters.proofs.check_log.LogCheck.write_waiting.Goals as goal

pub returns-in-Ok-clause-ok : goal.returns-in-Ok-clause-ok
returns-in-Ok-clause-ok g c from rest piece start count h =
    judged_written from c.args.self.now rest piece start _ count h _ _ (search rules) refl refl (search rules) (search rules)

pub returns-in-Err-clause-err : goal.returns-in-Err-clause-err
returns-in-Err-clause-err g c from rest piece start count h =
    judged_part from c.args.self.now rest piece start _ count h (g.K.Sink.taken c.write_whole.new.sink) c.in-Err.taken c.count_part.new.self.replies c.count_part.result
    (search rules) (search rules)
