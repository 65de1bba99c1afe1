use Rattle.gc_links.proofs.Common.{instant_nanos, clock_act, open_end, act_of}
use Rattle.gc_links.proofs.TcpMeaning.{clock_on, tcp_then}
use Rattle.gc_links.proofs.tcp.TcpLinkLink.now.Goals as goal

pub invariant_of-self : goal.invariant_of-self
invariant_of-self g c =
    let link = c.args.self.now in
    let start = instant_nanos link.timer.start in
    let over = open_end link.stream in
    record {
      meant =
          tcp_then link.peer start (act_of c.note_of_clock.result) (clock_act c.moment-told.result) over link.meant c.then-self.ensures
          c.note_of_clock.ensures (clock_on link.peer start over c.moment-told.result c.moment-told.ensures);
    }
