use Rattle.gc_links.proofs.Common.{refl, instant_nanos, Closed, open_end}
use Rattle.gc_links.proofs.TcpMeaning.{tcp_then}
use Rattle.gc_links.proofs.tcp.TcpLinkLink.close.Goals as goal

pub invariant_of-self : goal.invariant_of-self
invariant_of-self g c =
    let link = c.args.self.now in
    let start = instant_nanos link.timer.start in
    record {
      meant =
          tcp_then link.peer start Closed Closed (open_end c.hang_up.new.stream) link.meant c.then-self.ensures refl
          (c.hang_up.ensures link.peer start);
    }
