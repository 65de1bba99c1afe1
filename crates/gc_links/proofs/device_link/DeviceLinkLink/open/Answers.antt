use Rattle.gc_links.proofs.Common.{instant_nanos, open_act, act_of, hold_of}
use Rattle.gc_links.proofs.DeviceMeaning.{device_then}
use Rattle.gc_links.proofs.device_link.DeviceLinkLink.open.Goals as goal

pub invariant_of-self : goal.invariant_of-self
invariant_of-self g c =
    let link = c.args.self.now in
    let path = link.path.now in
    let start = instant_nanos link.timer.start in
    record {
      meant =
          device_then path start (act_of c.note_of_open.result) (open_act c.open_slot-opened.result) (hold_of c.open_slot-opened.new.slot) link.meant
          c.then-self.ensures c.note_of_open.ensures (c.open_slot-opened.ensures start);
    }
