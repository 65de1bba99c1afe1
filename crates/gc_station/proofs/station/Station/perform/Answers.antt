use Rattle.gc_station.proofs.station.Station.perform.Goals as goal

pub returns-in-ReadClock-clause-does : goal.returns-in-ReadClock-clause-does
returns-in-ReadClock-clause-does g c = rw c.in-ReadClock.is (c.read_clock.ensures c.args.commands.now (g.B.Book.text c.args.book.now) (g.B.Book.taken c.args.book.now))

pub returns-in-Renew-clause-does : goal.returns-in-Renew-clause-does
returns-in-Renew-clause-does g c = rw c.in-Renew.is (c.renew.ensures c.args.commands.now (g.B.Book.text c.args.book.now) (g.B.Book.taken c.args.book.now))

pub returns-in-Begin-clause-does : goal.returns-in-Begin-clause-does
returns-in-Begin-clause-does g c = rw c.in-Begin.is (c.begin.ensures (g.B.Book.text c.args.book.now) (g.B.Book.taken c.args.book.now))

pub returns-in-Open-clause-does : goal.returns-in-Open-clause-does
returns-in-Open-clause-does g c = rw c.in-Open.is (c.open.ensures c.args.commands.now (g.B.Book.text c.args.book.now) (g.B.Book.taken c.args.book.now))

pub returns-in-Clear-clause-does : goal.returns-in-Clear-clause-does
returns-in-Clear-clause-does g c = rw c.in-Clear.is (c.clear.ensures (g.B.Book.text c.args.book.now) (g.B.Book.taken c.args.book.now))

pub returns-in-Ask-clause-does : goal.returns-in-Ask-clause-does
returns-in-Ask-clause-does g c = rw c.in-Ask.is (c.ask_null.ensures (g.B.Book.text c.args.book.now) (g.B.Book.taken c.args.book.now))

pub returns-in-Prepare-clause-does : goal.returns-in-Prepare-clause-does
returns-in-Prepare-clause-does g c = rw c.in-Prepare.is (c.prepare.ensures (g.B.Book.text c.args.book.now) (g.B.Book.taken c.args.book.now))

pub returns-in-Send-clause-does : goal.returns-in-Send-clause-does
returns-in-Send-clause-does g c = rw c.in-Send.is (c.send.ensures (g.B.Book.text c.args.book.now) (g.B.Book.taken c.args.book.now))

pub returns-in-Skip-clause-does : goal.returns-in-Skip-clause-does
returns-in-Skip-clause-does g c = rw c.in-Skip.is c.skip.ensures.does

pub returns-in-Pass-clause-does : goal.returns-in-Pass-clause-does
returns-in-Pass-clause-does g c = rw c.in-Pass.is (c.leave_out.ensures (g.B.Book.text c.args.book.now) (g.B.Book.taken c.args.book.now))

pub returns-in-Flush-clause-does : goal.returns-in-Flush-clause-does
returns-in-Flush-clause-does g c = rw c.in-Flush.is (c.flush.ensures (g.B.Book.text c.args.book.now) (g.B.Book.taken c.args.book.now))

pub returns-in-Read-clause-does : goal.returns-in-Read-clause-does
returns-in-Read-clause-does g c = rw c.in-Read.is (c.read.ensures.does c.args.commands.now)

pub returns-in-Close-clause-does : goal.returns-in-Close-clause-does
returns-in-Close-clause-does g c = rw c.in-Close.is (c.close.ensures c.args.commands.now (g.B.Book.text c.args.book.now) (g.B.Book.taken c.args.book.now))
