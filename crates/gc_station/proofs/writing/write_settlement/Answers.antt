use Rattle.gc_station.proofs.Common.{◌≡◌, ◌++◌, Some, ap, ◌∙◌, subst, [], ◌∷◌, ending_seen, settlement_seen, code_of, end_of, command_of, record_with, Appends, Record, WritesPart, texts_of, noted}
use Rattle.gc_station.proofs.Records.{part_one, record_of_ending, whole_one}
use Rattle.gc_station.proofs.writing.write_settlement.Goals as goal

pub returns-in-Err-clause-wrote : goal.returns-in-Err-clause-wrote
returns-in-Err-clause-wrote g c reads are start before so =
    let w = c.in-Err.ensures.writes in
    let x = settlement_seen c.args.settlement.now in
    let end = ending_seen c.ending_of-ending.result in
    let r = record_with c.args.now.utc c.in-Some.mark (Some c.in-Some.mark.sent) (command_of x) end in
    let same = record_of_ending reads c.args.now.utc c.in-Some.mark x end (c.ending_of-ending.ensures reads x.call are c.requires c.read_by-by_form.ensures c.zero_of-zero.ensures) in
    rw c.in-Some.is (subst (λ (r : Record). WritesPart (g.B.Book.text c.args.book.now) before (before ++ r ∷ []) start (g.B.Book.taken c.write.new.self)) same
    (part_one (g.B.Book.text c.args.book.now) before r start (g.B.Book.taken c.args.book.now) (g.B.Book.taken c.write.new.self) w.0 so w.1))

pub returns-clause-wrote : goal.returns-clause-wrote
returns-clause-wrote g c reads are start before so =
    let x = settlement_seen c.args.settlement.now in
    let end = ending_seen c.ending_of-ending.result in
    let r = record_with c.args.now.utc c.in-Some.mark (Some c.in-Some.mark.sent) (command_of x) end in
    let same = record_of_ending reads c.args.now.utc c.in-Some.mark x end (c.ending_of-ending.ensures reads x.call are c.requires c.read_by-by_form.ensures c.zero_of-zero.ensures) in
    let text = g.B.Book.text c.args.book.now in
    let new = g.B.Book.taken c.write.new.self in
    rw c.in-Some.is (subst (λ (q : Record). Appends start new (texts_of text (before ++ q ∷ []))) same
    (whole_one text before r start (g.B.Book.taken c.args.book.now) new so c.in_default-write.ensures.writes))

pub returns-clause-notes : goal.returns-clause-notes
returns-clause-notes g c reads are =
    let x = settlement_seen c.args.settlement.now in
    let mark = c.in-Some.mark in
    let old = c.args.recorded.now in
    let end : ending_seen c.ending_of-ending.result ≡ end_of reads mark.expected x.call x.outcome =
    c.ending_of-ending.ensures reads x.call are c.requires c.read_by-by_form.ensures c.zero_of-zero.ensures in
    let code : c.code_of-code.result ≡ code_of reads x.call x.outcome = c.code_of-code.ensures reads x.call are c.requires in
    rw c.in-Some.is (c.note.ensures ∙ ap (λ e. noted mark c.args.now c.code_of-code.result e old) end
    ∙ ap (λ k. noted mark c.args.now k (end_of reads mark.expected x.call x.outcome) old) code)
