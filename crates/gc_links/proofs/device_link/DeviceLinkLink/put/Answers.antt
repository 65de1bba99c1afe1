use Rattle.gc_links.proofs.Common.{instant_nanos, put_act, act_of, hold_of}
use Rattle.gc_links.proofs.DeviceMeaning.{device_then}
use Rattle.gc_links.proofs.device_link.DeviceLinkLink.put.Goals as goal

pub invariant_of-self : goal.invariant_of-self
invariant_of-self g c =
    let link = c.args.self.now in
    let path = link.path.now in
    let start = instant_nanos link.timer.start in
    record {
      meant =
          device_then path start (act_of c.note_of_put.result) (put_act c.put_slot-put.result c.args.bytes.now) (hold_of c.put_slot-put.new.slot) link.meant
          c.then-self.ensures c.note_of_put.ensures (c.put_slot-put.ensures.does path start);
    }
