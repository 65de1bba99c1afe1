use Rattle.gc_filters.proofs.Common.{◌≡◌, None, ap, arith, length, rules, subst, option_copied}
use Rattle.gc_filters.proofs.LogVerdicts.{Walks, walk_begins, walk_ends, walk_goes_on, walk_stops}
use Rattle.gc_filters.proofs.check_log.LogCheck.check_piece.Goals as goal

pub returns-in_err-left-clause-err : goal.returns-in_err-left-clause-err
returns-in_err-left-clause-err g c =
    let part = walk_stops c.args.self.now c.loop-left.self c.take_line.new.self c.args.piece.now (option_copied c.loop-left.left)
    (g.K.Sink.taken c.args.sink.now) (g.K.Sink.taken c.loop-left.sink) (g.K.Sink.taken c.take_line.new.sink) _ c.loop-left.invariant.so c.in_err-left.ensures.err in
    search rules

pub loop-left-init : goal.loop-left-init
loop-left-init g c = record {
  so = walk_begins c.args.self.now c.args.piece.now (g.K.Sink.taken c.args.sink.now) c.requires.nothing;
  failed = search rules;
  few = omega (arith, ap (λ xs. length xs) c.requires.nothing.1);
}

pub loop-left-preserved : goal.loop-left-preserved
loop-left-preserved g c = record {
  so = walk_goes_on c.args.self.now c.loop-left.self _ c.args.piece.now c.in-Some.bytes.now _ _ _ _
      (subst (λ left. Walks c.args.self.now c.loop-left.self c.args.piece.now left (g.K.Sink.taken c.args.sink.now) (g.K.Sink.taken c.loop-left.sink)) (ap option_copied c.in-Some.is) c.loop-left.invariant.so)
      c.in_ok-left.ensures.ok;
  failed = search rules;
  few = search rules;
}

pub returns-in_err-write_waiting-clause-err : goal.returns-in_err-write_waiting-clause-err
returns-in_err-write_waiting-clause-err g c =
    let part = walk_stops c.args.self.now c.loop-left.self c.write_waiting.new.self c.args.piece.now (option_copied c.loop-left.left)
    (g.K.Sink.taken c.args.sink.now) (g.K.Sink.taken c.loop-left.sink) (g.K.Sink.taken c.write_waiting.new.sink) _ c.loop-left.invariant.so
    c.in_err-write_waiting.ensures.err in
    search rules

pub returns-clause-ok : goal.returns-clause-ok
returns-clause-ok g c =
    let none : option_copied c.loop-left.left ≡ None = search rules in
    walk_ends c.args.self.now c.loop-left.self c.write_waiting.new.self c.args.piece.now
    (g.K.Sink.taken c.args.sink.now) (g.K.Sink.taken c.loop-left.sink) (g.K.Sink.taken c.write_waiting.new.sink)
    (subst (λ left. Walks c.args.self.now c.loop-left.self c.args.piece.now left (g.K.Sink.taken c.args.sink.now) (g.K.Sink.taken c.loop-left.sink)) none c.loop-left.invariant.so)
    c.in_ok-write_waiting.ensures.ok c.in_ok-write_waiting.ensures.nothing
