use Rattle.gc_filters.proofs.Common.{ap, subst, rules, option_copied, Cuts}
use Rattle.gc_filters.proofs.LogVerdicts.{takes_all, takes_line, stops_behind}
use Rattle.gc_filters.proofs.check_log.LogCheck.take_line.Goals as goal

pub returns-in-None-clause-ok : goal.returns-in-None-clause-ok
returns-in-None-clause-ok g c =
    takes_all c.args.self.now c.keep.new.self c.args.bytes.now c.cut_at.result.0.now
    (g.K.Sink.taken c.args.sink.now)
    (subst (λ behind. Cuts 10 c.args.bytes.now c.cut_at.result.0.now behind) (ap option_copied c.in-None.is) c.cut_at.ensures) c.keep.ensures

pub returns-in_ok-end_line-in-Some-clause-ok : goal.returns-in_ok-end_line-in-Some-clause-ok
returns-in_ok-end_line-in-Some-clause-ok g c =
    takes_line c.args.self.now c.keep.new.self c.end_line.new.self c.args.bytes.now c.cut_at.result.0.now c.in-Some.rest.now
    (g.K.Sink.taken c.args.sink.now) (g.K.Sink.taken c.end_line.new.sink)
    (subst (λ behind. Cuts 10 c.args.bytes.now c.cut_at.result.0.now behind) (ap option_copied c.in-Some.is) c.cut_at.ensures) c.keep.ensures
    c.in_ok-end_line-in-Some.ensures.ok

pub returns-in_err-end_line-in-Some-clause-err : goal.returns-in_err-end_line-in-Some-clause-err
returns-in_err-end_line-in-Some-clause-err g c =
    let part = stops_behind c.args.self.now c.keep.new.self c.end_line.new.self c.args.bytes.now c.cut_at.result.0.now c.in-Some.rest.now
    (g.K.Sink.taken c.args.sink.now) (g.K.Sink.taken c.end_line.new.sink) _
    (subst (λ behind. Cuts 10 c.args.bytes.now c.cut_at.result.0.now behind) (ap option_copied c.in-Some.is) c.cut_at.ensures) c.keep.ensures
    c.in_err-end_line-in-Some.ensures.err in
    search rules
