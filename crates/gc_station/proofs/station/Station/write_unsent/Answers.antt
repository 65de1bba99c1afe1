use Rattle.gc_station.proofs.Common.{◌≡◌, ◌+◌, ◌-◌, ◌<◌, List, ◌∷◌, ◌++◌, length, drop, None, ap, sym, ◌∙◌, arith, subst, drop_more, Task, ending_seen, record_with, Record, WritesPart, mark_next, Recorded}
use Rattle.gc_station.proofs.Making.{noted_unsent, skip_record_same}
use Rattle.gc_station.proofs.Records.{part_one}
use Rattle.gc_station.proofs.station.Station.write_unsent.Goals as goal

pub returns-in-Err-clause-wrote : goal.returns-in-Err-clause-wrote
returns-in-Err-clause-wrote g c start before so =
    let old = c.args.self.now in
    let p = old.progress in
    let commands = c.args.commands.now in
    let w = c.in-Err.ensures.writes in
    let task : Task = c.index-commands-place.result in
    let place = c.place.result in
    let at : place ≡ length commands - p.unsent = c.place.ensures in
    let below : place < length commands = omega (arith, at, c.requires.unsent, c.requires.within) in
    let others : List Task = drop (place + 1) commands in
    let here : drop place commands ≡ task ∷ others =
    drop_more commands place task below ∙ ap (λ x. x ∷ others) (sym c.index-commands-place.is) in
    let is = sym (ap (λ n. drop n commands) at) ∙ here in
    let r = record_with c.unsent_at.result c.mark-mark.result None task.command (ending_seen c.ending_unsent-ending.result) in
    let same = skip_record_same p c.args.moment c.mark-mark.result (mark_next c.args.plan.now commands p) c.unsent_at.result (ending_seen c.ending_unsent-ending.result)
    (drop (length commands - p.unsent) commands) task others is c.mark-mark.ensures c.unsent_at.ensures c.ending_unsent-ending.ensures in
    subst (λ (rs : List Record). WritesPart (g.B.Book.text c.args.book.now) before (before ++ rs) start (g.B.Book.taken c.write.new.self)) same
    (part_one (g.B.Book.text c.args.book.now) before r start (g.B.Book.taken c.args.book.now) (g.B.Book.taken c.write.new.self) w.0 so w.1)

pub returns-clause-after : goal.returns-clause-after
returns-clause-after g c =
    let old = c.args.self.now in
    let p = old.progress in
    let commands = c.args.commands.now in
    let task : Task = c.index-commands-place.result in
    let place = c.place.result in
    let at : place ≡ length commands - p.unsent = c.place.ensures in
    let below : place < length commands = omega (arith, at, c.requires.unsent, c.requires.within) in
    let others : List Task = drop (place + 1) commands in
    let here : drop place commands ≡ task ∷ others =
    drop_more commands place task below ∙ ap (λ x. x ∷ others) (sym c.index-commands-place.is) in
    let is = sym (ap (λ n. drop n commands) at) ∙ here in
    ap (λ (r : Recorded). record old { recorded = r })
    (c.note.ensures ∙ noted_unsent p c.args.moment c.mark-mark.result (mark_next c.args.plan.now commands p) (ending_seen c.ending_unsent-ending.result)
    (drop (length commands - p.unsent) commands) task others old.recorded is c.mark-mark.ensures c.ending_unsent-ending.ensures)
