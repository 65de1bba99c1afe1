use Rattle.gc_links.proofs.Common.{instant_nanos, open_act, open_end, act_of}
use Rattle.gc_links.proofs.TcpMeaning.{tcp_then}
use Rattle.gc_links.proofs.tcp.TcpLinkLink.open.Goals as goal

pub invariant_of-self : goal.invariant_of-self
invariant_of-self g c =
    let link = c.args.self.now in
    let start = instant_nanos link.timer.start in
    record {
      meant =
          tcp_then link.peer start (act_of c.note_of_open.result) (open_act c.renew-opened.result) (open_end c.renew-opened.new.stream)
          link.meant c.then-self.ensures c.note_of_open.ensures (c.renew-opened.ensures start);
    }
