use Rattle.gc_station.proofs.Common.{◌≤◌, ◌∙◌, length, drop, subst, arith, drop-drop, take_rest, lent_seen, Takes, assembler_takes, with_rest}
use Rattle.std.proofs.Common.{length-drop}
use Rattle.std.proofs.Math.ListN.{drop_of_length-le}
use Rattle.gc_station.proofs.Hearing.{HeardSoFar, hearing_on, hearing_part, hearing_end, refines_kept}
use Rattle.gc_station.proofs.station.Station.listen.Goals as goal

pub loop-at-preserved : goal.loop-at-preserved
loop-at-preserved g c =
    let piece = c.args.piece.now in
    let at = c.loop-at.at in
    let left = drop at piece in
    let used = c.next-used.result.0 in
    let frame = lent_seen c.next-used.result.1 in
    let fewer = rw (take_rest piece at) at c.next-used.ensures.used.0 in
    let more = rw (take_rest piece at) at c.next-used.ensures.more in
    let whole = rw (take_rest piece at) at c.next-used.ensures.frame in
    record {
      within = omega (arith, fewer, length-drop at piece, c.loop-at.invariant.within);
      hearing = λ s start stands so.
          let h = c.loop-at.invariant.hearing s start stands so in
          let t : Takes h.now.rest left used frame c.next-used.new.self = assembler_takes h.now.rest left used frame c.next-used.new.self
          (λ e. let m = more e in (m.0, m.1, m.2 h.now.rest h.stands.assembles)) (λ i e. let m = whole i e in (m.0, m.1 h.now.rest h.stands.assembles, m.2)) in
          rw (← drop-drop used at piece) (hearing_on c.args.begun (g.B.Book.text c.args.book.now) start (g.B.Book.taken c.loop-at.book)
          (g.B.Book.taken c.hear.new.book) c.loop-at.self s piece left used frame c.next-used.new.self h t c.hear.new.self
          ((rw c.loop-at.invariant.form at c.in_default.ensures.hears) (with_rest t.now h.now) start (refines_kept c.loop-at.self c.next-used.new.self t.now h.now h.stands t.stands) h.wrote));
      form = c.in_default.ensures.kept.form ∙ c.loop-at.invariant.form;
      failed = c.in_default.ensures.kept.fails ∙ c.loop-at.invariant.failed;
    }

pub returns-in-Err-clause-listens : goal.returns-in-Err-clause-listens
returns-in-Err-clause-listens g c s start stands so =
    let piece = c.args.piece.now in
    let at = c.loop-at.at in
    let left = drop at piece in
    let used = c.next-used.result.0 in
    let frame = lent_seen c.next-used.result.1 in
    let more = rw (take_rest piece at) at c.next-used.ensures.more in
    let whole = rw (take_rest piece at) at c.next-used.ensures.frame in
    let h = c.loop-at.invariant.hearing s start stands so in
    let t : Takes h.now.rest left used frame c.next-used.new.self = assembler_takes h.now.rest left used frame c.next-used.new.self
    (λ e. let m = more e in (m.0, m.1, m.2 h.now.rest h.stands.assembles)) (λ i e. let m = whole i e in (m.0, m.1 h.now.rest h.stands.assembles, m.2)) in
    hearing_part c.args.begun (g.B.Book.text c.args.book.now) start (g.B.Book.taken c.loop-at.book) (g.B.Book.taken c.hear.new.book) c.loop-at.self s piece left used frame c.next-used.new.self h t
    ((rw c.loop-at.invariant.form at c.in-Err.ensures.hears) (with_rest t.now h.now) start (refines_kept c.loop-at.self c.next-used.new.self t.now h.now h.stands t.stands) h.wrote)

pub returns-clause-listens : goal.returns-clause-listens
returns-clause-listens g c s start stands so =
    let piece = c.args.piece.now in
    let at = c.loop-at.at in
    let past : length piece ≤ at = omega (arith, c.loop-at-test.false) in
    let h = c.loop-at.invariant.hearing s start stands so in
    hearing_end c.args.begun (g.B.Book.text c.args.book.now) start (g.B.Book.taken c.loop-at.book) c.loop-at.self s piece
    (subst (λ left. HeardSoFar c.args.begun (g.B.Book.text c.args.book.now) start (g.B.Book.taken c.loop-at.book) c.loop-at.self s piece left) (drop_of_length-le piece past) h)
