use Rattle.gc_links.proofs.Common.{instant_nanos, put_act, open_end, act_of}
use Rattle.gc_links.proofs.TcpMeaning.{put_on, tcp_then}
use Rattle.gc_links.proofs.tcp.TcpLinkLink.put.Goals as goal

pub invariant_of-self : goal.invariant_of-self
invariant_of-self g c =
    let link = c.args.self.now in
    let start = instant_nanos link.timer.start in
    let over = open_end link.stream in
    let did = put_act c.send-put.result c.args.bytes.now in
    record {
      meant =
          tcp_then link.peer start (act_of c.note_of_put.result) did over link.meant c.then-self.ensures c.note_of_put.ensures
          (put_on link.peer start over c.send-put.result c.args.bytes.now (c.send-put.ensures.does start));
    }
