use Rattle.gc_station.proofs.Common.{[], ◌∷◌, ◌+◌, ◌++◌, take, drop, map, refl, ap, sym, ◌∙◌, append_assoc, append-nil, drop-drop, settlement_seen, first_mark, records_of, texts_of}
use Rattle.gc_lines.proofs.Known.{Appends-is}
use Rattle.gc_station.proofs.Records.{records-none, records_seen_more, records_seen_left, part_behind, recorded-none, recorded_more}
use Rattle.gc_station.proofs.writing.write_settlements.Goals as goal

pub loop-settlement-init : goal.loop-settlement-init
loop-settlement-init g c =
    record {
      wrote = λ reads are start before so.
          let none = records-none reads c.args.now.utc c.args.marks.now.items in
          Appends-is start (g.B.Book.taken c.args.book.now) _ _ (sym (ap
          (λ rs. texts_of (g.B.Book.text c.args.book.now) (before ++ rs)) none ∙ ap (texts_of (g.B.Book.text c.args.book.now)) (append-nil before))) so;
      recorded = λ reads are. sym (recorded-none reads c.args.now c.args.marks.now.items c.args.recorded.now);
      marks = refl;
      form = refl;
      failed = refl;
    }

pub returns-in-Err-clause-wrote : goal.returns-in-Err-clause-wrote
returns-in-Err-clause-wrote g c reads are start before so =
    let utc = c.args.now.utc in
    let marks = c.args.marks.now.items in
    let ss = c.args.settlements.now in
    let i = c.loop-settlement.settlement-index in
    let s = c.settlement-item.result in
    let b = c.loop-settlement.invariant in
    let first = c.take_mark-mark.ensures.first ∙ ap first_mark b.marks in
    let more = records_seen_more reads marks ss i s c.take_mark-mark.result c.loop-settlement-test.true c.settlement-item.is first utc in
    let front = records_of reads utc marks (map settlement_seen (take i ss)) in
    part_behind (g.B.Book.text c.args.book.now) before front _ _ _ _ start (g.B.Book.taken c.write_settlement.new.book) more (records_seen_left reads utc marks ss (i + 1))
    ((rw b.form at c.in-Err.ensures.wrote) reads are start (before ++ front) (b.wrote reads are start before so))

pub loop-settlement-preserved : goal.loop-settlement-preserved
loop-settlement-preserved g c =
    let utc = c.args.now.utc in
    let marks = c.args.marks.now.items in
    let ss = c.args.settlements.now in
    let i = c.loop-settlement.settlement-index in
    let s = c.settlement-item.result in
    let b = c.loop-settlement.invariant in
    let first = c.take_mark-mark.ensures.first ∙ ap first_mark b.marks in
    record {
      wrote = λ reads are start before so.
          let more = records_seen_more reads marks ss i s c.take_mark-mark.result c.loop-settlement-test.true c.settlement-item.is first utc in
          let front = records_of reads utc marks (map settlement_seen (take i ss)) in
          let one = records_of reads utc (c.take_mark-mark.result ∷ []) (settlement_seen s ∷ []) in
          let text = g.B.Book.text c.args.book.now in
          Appends-is start (g.B.Book.taken c.write_settlement.new.book) _ _
          (ap (texts_of text) (append_assoc before front one) ∙ ap (λ rs. texts_of text (before ++ rs)) (sym more))
          ((rw b.form at c.in_default.ensures.wrote) reads are start (before ++ front) (b.wrote reads are start before so));
      recorded = λ reads are.
          recorded_more reads marks ss i s c.take_mark-mark.result c.loop-settlement-test.true c.settlement-item.is first
          c.args.now c.args.recorded.now c.loop-settlement.recorded c.write_settlement.new.recorded (b.recorded reads are) (c.in_default.ensures.notes reads are);
      marks = c.take_mark-mark.ensures.goes ∙ ap (drop 1) b.marks ∙ drop-drop 1 i marks;
      form = c.in_default.ensures.kept.form ∙ b.form;
      failed = c.in_default.ensures.kept.fails ∙ b.failed;
    }
