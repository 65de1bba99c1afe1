use Rattle.gc_ask.proofs.Common.{ℕ, List, OnOk, subst, Appends}
use Rattle.gc_ask.proofs.Keeps.{socket_line}
use Rattle.gc_ask.proofs.callers.CallerFault.tell.Goals as goal

pub returns-in-Serving : goal.returns-in-Serving
returns-in-Serving g c = rw c.in-Serving.is c.writeln.ensures.bytes

pub returns-in-Socket : goal.returns-in-Socket
returns-in-Socket g c =
    rw c.in-Socket.is (subst (λ (line : List ℕ). OnOk c.writeln-in-Socket.result (Appends (g.E.Write.contents c.args.messages.now) (g.E.Write.contents c.writeln-in-Socket.new.self) line))
    (socket_line c.args.number c.number.result c.number.ensures)
    c.writeln-in-Socket.ensures.bytes)

pub returns-in-Idle : goal.returns-in-Idle
returns-in-Idle g c = rw c.in-Idle.is c.writeln-in-Idle.ensures.bytes
