use Rattle.gc_station.proofs.Common.{take, ap, ◌∙◌, Clock, Gave, Silent, Ended, Broke, Untold, failing, silent}
use Rattle.gc_station.specs.declared.cause.Cause.TheVariants.{End, Read}
use Rattle.gc_station.proofs.Hearing.{refines_expired}
use Rattle.gc_station.proofs.Making.{refines_with, makes_read, made_read}
use Rattle.gc_station.proofs.station.Station.read.Goals as goal

pub returns-in-End-clause-does : goal.returns-in-End-clause-does
returns-in-End-clause-does g c commands =
    makes_read c.args.plan.now commands c.args.until (g.B.Book.text c.args.book.now) (g.L.Link.acts c.args.link.now) (g.L.Link.acts c.read.new.self)
    (g.B.Book.taken c.args.book.now) (g.B.Book.taken c.args.book.now) c.args.self.now _ Ended c.in-End.ensures.tells tt
    (λ s start stands so. (refines_with c.args.self.now c.fail.new.self (failing End) s stands c.fail.ensures, so))

pub returns-in-Failure-clause-does : goal.returns-in-Failure-clause-does
returns-in-Failure-clause-does g c commands =
    makes_read c.args.plan.now commands c.args.until (g.B.Book.text c.args.book.now) (g.L.Link.acts c.args.link.now) (g.L.Link.acts c.read.new.self)
    (g.B.Book.taken c.args.book.now) (g.B.Book.taken c.args.book.now) c.args.self.now _ Broke c.in-Failure.ensures.tells tt
    (λ s start stands so. (refines_with c.args.self.now c.fail-in-Failure.new.self (failing Read) s stands c.fail-in-Failure.ensures, so))

pub returns-in-NoMoment-clause-does : goal.returns-in-NoMoment-clause-does
returns-in-NoMoment-clause-does g c commands =
    makes_read c.args.plan.now commands c.args.until (g.B.Book.text c.args.book.now) (g.L.Link.acts c.args.link.now) (g.L.Link.acts c.read.new.self)
    (g.B.Book.taken c.args.book.now) (g.B.Book.taken c.args.book.now) c.args.self.now _ Untold c.in-NoMoment.ensures.tells tt
    (λ s start stands so. (refines_with c.args.self.now c.fail-in-NoMoment.new.self (failing Clock) s stands c.fail-in-NoMoment.ensures, so))

pub returns-in-Bytes-clause-does : goal.returns-in-Bytes-clause-does
returns-in-Bytes-clause-does g c commands =
    made_read c.args.plan.now commands c.args.until (g.B.Book.text c.args.book.now) (g.L.Link.acts c.args.link.now) (g.L.Link.acts c.read.new.self)
    (g.B.Book.taken c.args.book.now) (g.B.Book.taken c.take_piece.new.book) c.args.self.now c.take_piece.new.self
    (Gave (take c.in-Bytes.n c.read.new.buf) c.in-Bytes.moment) c.take_piece.result c.in-Bytes.ensures.tells tt c.take_piece.ensures.takes

pub returns-in-Silence-clause-does : goal.returns-in-Silence-clause-does
returns-in-Silence-clause-does g c commands =
    let old = c.args.self.now in
    let plan = c.args.plan.now in
    let until = c.args.until in
    let m = c.in-Silence.moment in
    makes_read plan commands until (g.B.Book.text c.args.book.now) (g.L.Link.acts c.args.link.now) (g.L.Link.acts c.read.new.self)
    (g.B.Book.taken c.args.book.now) (g.B.Book.taken c.args.book.now) old _ (Silent m) c.in-Silence.ensures.tells tt
    (λ s start stands so. (
      refines_expired old c.expire.new.self c.note_silence.new.self (silent plan until m s.progress) m s stands
          (c.note_silence.ensures ∙ ap (silent plan until m) stands.progress) c.expire.ensures,
      so,
    ))
