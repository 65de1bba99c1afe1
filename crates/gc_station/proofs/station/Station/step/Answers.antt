use Rattle.gc_station.proofs.Going.{on_then, makes_step, breaks_step}
use Rattle.gc_station.proofs.station.Station.step.Goals as goal

pub returns-in-Err-clause-does : goal.returns-in-Err-clause-does
returns-in-Err-clause-does g c =
    on_then c.args.action _ _
    (breaks_step c.args.plan.now c.args.commands.now c.args.action (g.B.Book.text c.args.book.now) (g.L.Link.acts c.args.link.now)
    (g.L.Link.acts c.perform.new.link) (g.B.Book.taken c.args.book.now) (g.B.Book.taken c.perform.new.book) c.args.self.now c.take_turn.new.self c.take_turn.ensures)
    c.in-Err.ensures.does

pub returns-clause-does : goal.returns-clause-does
returns-clause-does g c =
    on_then c.args.action _ _
    (λ does. makes_step c.args.plan.now c.args.commands.now c.args.action (g.B.Book.text c.args.book.now) (g.L.Link.acts c.args.link.now)
    (g.L.Link.acts c.perform.new.link) (g.B.Book.taken c.args.book.now) (g.B.Book.taken c.perform.new.book) (g.B.Book.taken c.record_lost.new.book)
    c.args.self.now c.perform.new.self c.record_lost.new.self c.take_turn.new.self c.record_lost.result c.take_turn.ensures does
    (rw c.in_default.ensures.kept.form at c.record_lost.ensures.ends))
    c.in_default.ensures.does
