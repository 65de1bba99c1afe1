use Rattle.gc_filters.proofs.Common.{rest_behind}
use Rattle.gc_filters.proofs.LogVerdicts.{judged_line}
use Rattle.gc_filters.proofs.check_log.LogCheck.end_line.Goals as goal

pub returns-then-has_room-clause-ok : goal.returns-then-has_room-clause-ok
returns-then-has_room-clause-ok g c from rest piece start count h =
    judged_line from _ rest piece start _ count h _ (c.judge_line.ensures.judges (rest_behind rest piece) h.keeps) c.judge_line.ensures.kept c.judge_line.ensures.replies

pub returns-clause-ok : goal.returns-clause-ok
returns-clause-ok g c from rest piece start count h =
    let k = c.in_ok-write_waiting.ensures.ok from rest piece start count h in
    judged_line from _ rest piece start _ count k _ (c.judge_line-2.ensures.judges (rest_behind rest piece) k.keeps) c.judge_line-2.ensures.kept c.judge_line-2.ensures.replies
