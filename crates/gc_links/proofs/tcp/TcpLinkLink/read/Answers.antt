use Rattle.gc_links.proofs.Common.{instant_nanos, read_act, open_end, act_of}
use Rattle.gc_links.proofs.TcpMeaning.{read_on, tcp_then}
use Rattle.gc_links.proofs.tcp.TcpLinkLink.read.Goals as goal

pub invariant_of-self : goal.invariant_of-self
invariant_of-self g c =
    let link = c.args.self.now in
    let start = instant_nanos link.timer.start in
    let over = open_end link.stream in
    let did = read_act c.read_wired-came.result c.read_wired-came.new.buf in
    record {
      meant =
          tcp_then link.peer start (act_of c.note_of_read.result) did over link.meant c.then-self.ensures c.note_of_read.ensures
          (read_on link.peer start over c.read_wired-came.result c.read_wired-came.new.buf c.read_wired-came.ensures.does);
    }
