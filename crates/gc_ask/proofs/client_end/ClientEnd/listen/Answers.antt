use Rattle.gc_ask.proofs.Common.{◌≡◌, [], drop, arith, length-drop, drop-drop, take_rest, drop_all, lent_seen, Takes, assembler_takes, ClientHeard, heard_by}
use Rattle.gc_ask.proofs.FirstReplies.{passed_on, passed_settles, passed_end}
use Rattle.gc_ask.proofs.client_end.ClientEnd.listen.Goals as goal

pub loop-at-preserved : goal.loop-at-preserved
loop-at-preserved c =
    let piece = c.args.piece.now in
    let at = c.loop-at.at in
    let left = drop at piece in
    let used = c.next-used.result.0 in
    let fewer = rw (take_rest piece at) at c.next-used.ensures.used.0 in
    let more = rw (take_rest piece at) at c.next-used.ensures.more in
    let whole = rw (take_rest piece at) at c.next-used.ensures.frame in
    record {
      within = omega (arith, fewer, length-drop at piece, c.loop-at.invariant.within);
      passed = λ rest s.
          let p = c.loop-at.invariant.passed rest s in
          let next : ClientHeard = record (heard_by c.take_frame.new.self rest piece left) { kept = c.next-used.new.self } in
          let t : Takes p.now left used (lent_seen c.next-used.result.1) c.next-used.new.self = assembler_takes p.now left used (lent_seen c.next-used.result.1) _
          (λ e. let m = more e in (m.0, m.1, m.2 p.now p.stands)) (λ i e. let m = whole i e in (m.0, m.1 p.now p.stands, m.2)) in
          rw (c.if-take_frame.ensures.same, ← drop-drop used at piece) (passed_on _ (heard_by c.loop-at.self rest piece left) next used _ p t c.if-take_frame.ensures.takes);
    }

pub returns-then-take_frame-clause-within : goal.returns-then-take_frame-clause-within
returns-then-take_frame-clause-within c =
    let piece = c.args.piece.now in
    let at = c.loop-at.at in
    let fewer = rw (take_rest piece at) at c.next-used.ensures.used.0 in
    omega (arith, fewer, length-drop at piece, c.loop-at.invariant.within)

pub returns-then-take_frame-clause-listens : goal.returns-then-take_frame-clause-listens
returns-then-take_frame-clause-listens c rest s =
    let piece = c.args.piece.now in
    let at = c.loop-at.at in
    let left = drop at piece in
    let used = c.next-used.result.0 in
    let more = rw (take_rest piece at) at c.next-used.ensures.more in
    let whole = rw (take_rest piece at) at c.next-used.ensures.frame in
    let p = c.loop-at.invariant.passed rest s in
    let next : ClientHeard = record (heard_by c.take_frame.new.self rest piece left) { kept = c.next-used.new.self } in
    rw (c.if-take_frame.ensures.same, ← drop-drop used at piece) (passed_settles _ (heard_by c.loop-at.self rest piece left) next used _ p
    c.if-take_frame.ensures.takes (record { unended = λ e. (more e).1; ended = λ i e. let m = whole i e in (m.0, m.1 p.now p.stands, m.2) }))

pub returns : goal.returns
returns c = record {
  within = tt;
  listens = λ rest s.
      let none : drop c.loop-at.at c.args.piece.now ≡ [] = drop_all c.loop-at.at c.args.piece.now c.loop-at-test.false in
      passed_end _ (heard_by c.loop-at.self rest c.args.piece.now []) (rw none at (c.loop-at.invariant.passed rest s));
}
