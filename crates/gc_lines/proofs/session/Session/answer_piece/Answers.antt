use Rattle.gc_lines.proofs.Common.{◌≡◌, ◌<◌, [], sym, ap, ◌∙◌, arith, length-drop, rules, length, take_rest, nil_from_length, eqb-true, lent_seen}
use Rattle.gc_lines.proofs.Gathering.{gathering_written, waiting_part}
use Rattle.gc_lines.proofs.Passing.{Takes, assembler_takes, not_empty, piece_start, piece_goes_on, piece_cut, piece_end}
use Rattle.gc_lines.proofs.session.Session.answer_piece.Goals as goal

pub loop-left-init : goal.loop-left-init
loop-left-init g c =
    let empty = c.requires.nothing.0 in
    let none = c.requires.nothing.1 in
    record {
      count = omega (arith, ap (λ xs. length xs) none);
      room = record { for_text = omega (arith, ap (λ xs. length xs) empty); for_length = omega (arith, ap (λ xs. length xs) none); alone = λ _. none };
      gathers = search rules;
      failed = search rules;
      going = λ rest s. piece_start _ rest _ _ _ (empty, none) s;
    }

pub loop-left-preserved : goal.loop-left-preserved
loop-left-preserved g c =
    let left = c.loop-left.left.now in
    let used = c.next-taken.result.0 in
    let more = c.next-taken.ensures.more in
    let whole = c.next-taken.ensures.frame in
    let some : 0 < used = c.next-taken.ensures.used.1 (not_empty _ _ c.is_empty.ensures c.loop-left-test.true) in
    record {
      count = rw (take_rest left used) (omega (arith, length-drop used left, c.loop-left.invariant.count, c.in_default.ensures.bound));
      room = c.in_default.ensures.room;
      gathers = c.answer_frame.ensures.same.1 ∙ c.loop-left.invariant.gathers;
      failed = c.in_default.ensures.failed ∙ c.loop-left.invariant.failed;
      going = λ rest s.
          let h = c.loop-left.invariant.going rest s in
          let taken : Takes h.now left used (lent_seen c.next-taken.result.1) c.next-taken.new.self = assembler_takes h.now left used (lent_seen c.next-taken.result.1) _
          (λ e. let m = more e in (m.0, m.1, m.2 h.now h.stands)) (λ at e. let m = whole at e in (m.0, m.1 h.now h.stands, m.2)) in
          rw (take_rest left used) (piece_goes_on _ rest _ left _ _ _ h used _ _ taken _ _ c.answer_frame.ensures.same.0 (c.in_default.ensures.answered _ h.answered h.gathered));
    }

pub returns-in-Err-clause-answered : goal.returns-in-Err-clause-answered
returns-in-Err-clause-answered g c rest s =
    let left = c.loop-left.left.now in
    let used = c.next-taken.result.0 in
    let more = c.next-taken.ensures.more in
    let whole = c.next-taken.ensures.frame in
    let h = c.loop-left.invariant.going rest s in
    let taken : Takes h.now left used (lent_seen c.next-taken.result.1) c.next-taken.new.self = assembler_takes h.now left used (lent_seen c.next-taken.result.1) _
    (λ e. let m = more e in (m.0, m.1, m.2 h.now h.stands)) (λ at e. let m = whole at e in (m.0, m.1 h.now h.stands, m.2)) in
    let part = piece_cut _ rest _ left _ _ _ h used _ _ taken _ _ _ (c.in-Err.ensures.answered _ h.answered h.gathered) in
    record { reached = part.reached; part = part.part; alone = λ e. part.alone (c.loop-left.invariant.gathers ∙ e) }

pub returns-clause-answered : goal.returns-clause-answered
returns-clause-answered g c rest s =
    let empty : c.loop-left.left.now ≡ [] = nil_from_length _ (eqb-true _ 0 (sym c.is_empty.ensures ∙ c.loop-left-test.false)) in
    let it = piece_end _ rest _ _ _ _ (rw empty at (c.loop-left.invariant.going rest s)) in
    (rw c.write_texts.ensures.same.0 it.0, gathering_written _ _ _ _ _ _ it.1 _ _ c.in_default-write_texts.ensures.written.0 c.in_default-write_texts.ensures.written.1)

pub returns-in-Err-write_texts-clause-answered : goal.returns-in-Err-write_texts-clause-answered
returns-in-Err-write_texts-clause-answered g c rest s =
    let empty : c.loop-left.left.now ≡ [] = nil_from_length _ (eqb-true _ 0 (sym c.is_empty.ensures ∙ c.loop-left-test.false)) in
    let it = piece_end _ rest _ _ _ _ (rw empty at (c.loop-left.invariant.going rest s)) in
    let part = waiting_part _ _ _ _ _ _ it.1 _ _ _ c.loop-left.self.gathers c.loop-left.invariant.room.alone c.in-Err-write_texts.ensures.written in
    record { reached = part.reached; part = part.part; alone = λ e. part.alone (c.loop-left.invariant.gathers ∙ e) }
