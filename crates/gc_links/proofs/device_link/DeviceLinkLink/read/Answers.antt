use Rattle.gc_links.proofs.Common.{instant_nanos, read_act, act_of, hold_of}
use Rattle.gc_links.proofs.DeviceMeaning.{device_then}
use Rattle.gc_links.proofs.device_link.DeviceLinkLink.read.Goals as goal

pub invariant_of-self : goal.invariant_of-self
invariant_of-self g c =
    let link = c.args.self.now in
    let path = link.path.now in
    let start = instant_nanos link.timer.start in
    record {
      meant =
          device_then path start (act_of c.note_of_read.result) (read_act c.read_slot-came.result c.read_slot-came.new.buf) (hold_of c.read_slot-came.new.slot)
          link.meant c.then-self.ensures c.note_of_read.ensures (c.read_slot-came.ensures.does path);
    }
